use Rattle.std.proofs.Common.{ap, sym, ◌∙◌, subst, arith}
use Rattle.std.specs.Prelude.{All, min}
use Rattle.cyc_types.specs.Limits.{cyclics as most_cyclics}
use Rattle.cyc_types.specs.Pairs.{EachTwo}
use Rattle.cyc_core.specs.Tables.{Tables}
use Rattle.cyc_cpu.specs.Soft.{firing_at}
use Rattle.cyc_system.specs.System.{SystemView}
use Rattle.cyc_system.specs.Splitting.{AllComeBack}
use Rattle.cyc_replay.specs.Beginning.{IsEmptyCpu, HasReserved}
use Rattle.cyc_replay.proofs.Start.{come_back}
use Rattle.cyc_replay.proofs.beginning.with_room.Goals as goal

pub reserve_each-requires : goal.reserve_each-requires
reserve_each-requires c =
    let few = c.wanted_of-wanted.ensures in
    record {
      empty = subst (λ xs. All IsEmptyCpu xs) (sym c.split-desk.ensures.cpus) c.requires.empty;
      few = omega (arith, few);
    }

pub unite-requires : goal.unite-requires
unite-requires c =
    let left = c.split-desk.ensures in
    subst (λ xs. AllComeBack firing_at xs c.reserve_each.new.hards.items)
    (left.cpus ∙ sym (ap (λ (v : SystemView Tables). v.cpus.cpus) left.desk))
    (come_back c.wanted_of-wanted.result c.split-desk.result.1.items c.reserve_each.new.hards.items
    (subst (λ xs. All IsEmptyCpu xs) (sym left.cpus) c.requires.empty) c.in_ok-reserve_each.ensures.did)

pub returns-clause-cpus : goal.returns-clause-cpus
returns-clause-cpus c =
    let left = c.split-desk.ensures in (
      subst (λ ys. EachTwo (HasReserved (min c.args.names most_cyclics)) c.args.system.cpus.cpus ys)
          (sym (ap (λ (v : SystemView Tables). v.cpus.cpus) c.unite.ensures))
          (subst (λ k. EachTwo (HasReserved k) c.args.system.cpus.cpus c.reserve_each.new.hards.items) c.wanted_of-wanted.ensures
          (subst (λ xs. EachTwo (HasReserved c.wanted_of-wanted.result) xs c.reserve_each.new.hards.items) left.cpus
          c.in_ok-reserve_each.ensures.did)),
      ap (λ (v : SystemView Tables). v.cpus.online) c.unite.ensures ∙ ap (λ (v : SystemView Tables). v.cpus.online) left.desk,
    )

pub returns-clause-rest : goal.returns-clause-rest
returns-clause-rest c =
    let left = c.split-desk.ensures in (
      ap (λ (v : SystemView Tables). v.records) c.unite.ensures ∙ ap (λ (v : SystemView Tables). v.records) left.desk,
      ap (λ (v : SystemView Tables). v.last) c.unite.ensures ∙ ap (λ (v : SystemView Tables). v.last) left.desk,
    )
