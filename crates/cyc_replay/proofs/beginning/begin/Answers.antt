use Rattle.std.proofs.Common.{◌≡◌, ◌-◌, ap, sym, subst, ◌∙◌, refl, length, All}
use Rattle.std.specs.Prelude.{min}
use Rattle.cyc_types.specs.Limits.{cyclics as most_cyclics}
use Rattle.cyc_system.specs.Agreement.{Agrees}
use Rattle.cyc_agreement.specs.Suspending.{is_suspended}
use Rattle.cyc_system.specs.System.{SystemView}
use Rattle.cyc_core.specs.Tables.{Tables}
use Rattle.cyc_model.specs.Script.{start}
use Rattle.cyc_system_model.specs.Shown.{ShowsSystem, IsSystem}
use Rattle.cyc_system_model.specs.Kept.{new_system}
use Rattle.cyc_replay.specs.Beginning.{IsEmptyCpu}
use Rattle.cyc_replay.specs.Machine.{AllMost}
use Rattle.cyc_replay.proofs.Mosts.{most_new}
use Rattle.cyc_replay.proofs.Start.{fresh_levels, held_new, new_empty, still_system, still_shows, still_most, still_awake}
use Rattle.cyc_replay.proofs.Start.{awake_new, now_room}
use Rattle.cyc_replay.proofs.beginning.begin.Goals as goal

pub new-requires-clause-fresh : goal.new-requires-clause-fresh
new-requires-clause-fresh c = fresh_levels c.args.ceiling c.in_ok-levels.levels.items c.in_ok-levels.ensures.new

pub with_room-requires : goal.with_room-requires
with_room-requires c =
    let ends = c.in_ok-levels.levels.items in
    let is : c.in_ok-fresh.fresh ≡ new_system 18446744073709551615 ends =
    c.in_ok-fresh.ensures.ok ∙ (λ z. record (new_system 18446744073709551615 ends) { last = c.first_id.ensures z - 1 }) in
    record {
      empty = subst (λ (v : SystemView Tables). All IsEmptyCpu v.cpus.cpus) (sym is)
          (new_empty 18446744073709551615 c.args.ceiling ends c.in_ok-levels.ensures.new);
    }

pub returns-clause-holds : goal.returns-clause-holds
returns-clause-holds c =
    let ends = c.in_ok-levels.levels.items in let v = c.in_ok-fresh.fresh in let w = c.in_ok-system.system in
    let k = min c.args.names most_cyclics in
    let two = c.in_ok-system.ensures.cpus in let rest = c.in_ok-system.ensures.rest in
    let is : v ≡ new_system 18446744073709551615 ends =
    c.in_ok-fresh.ensures.ok ∙ (λ z. record (new_system 18446744073709551615 ends) { last = c.first_id.ensures z - 1 }) in
    let shown = c.begin_law.ensures 18446744073709551615 c.args.ceiling c.args.names ends c.in_ok-levels.ensures.new
    (subst (λ x. Agrees x) is c.law.ensures) in
    let here = subst (λ (x : SystemView Tables). IsSystem x × ShowsSystem (start (length ends) c.args.ceiling c.args.names) x)
    (sym is) shown in
    let most = subst (λ (x : SystemView Tables). AllMost x.cpus) (sym is) (most_new ends) in
    let empty = subst (λ (x : SystemView Tables). All IsEmptyCpu x.cpus.cpus) (sym is)
    (new_empty 18446744073709551615 c.args.ceiling ends c.in_ok-levels.ensures.new) in
    held_new c.args.cpus c.args.ceiling c.args.names _ refl
    c.in_ok-tally.ensures.tally c.in_ok-tally.ensures.names c.in_ok-tally.ensures.named
    (still_most k v w two.0 two.1 rest.0 rest.1 most) (now_room k v w two.0 two.1 rest.0 rest.1 c.args.names refl empty)
    (still_awake k v w two.0 two.1 rest.0 rest.1 (ap is_suspended is ∙ awake_new 18446744073709551615 ends)) (
      still_system k v w two.0 two.1 rest.0 rest.1 here.0 c.law-2.ensures,
      still_shows k v w two.0 two.1 rest.0 rest.1 (start c.args.cpus c.args.ceiling c.args.names)
          (subst (λ j. ShowsSystem (start j c.args.ceiling c.args.names) v) c.in_ok-levels.ensures.long here.1),
    )
