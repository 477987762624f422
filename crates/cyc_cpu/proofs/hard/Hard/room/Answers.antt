use Rattle.std.proofs.Common.{[], ◌∷◌, arith, sym, subst, refl}
use Rattle.std.proofs.lemmas.List.{length-map}
use Rattle.cyc_timers.specs.Rows.{cyclic_of}
use Rattle.cyc_cpu.specs.Cpu.{CpuView}
use Rattle.cyc_cpu.specs.Calls.{CpuChanges, AskRoom}
use Rattle.cyc_cpu.proofs.Cyclics.{looked_from}
use Rattle.cyc_cpu.proofs.hard.Hard.room.Goals.{then-both_followed, else-both_followed}
use Rattle.cyc_cpu.proofs.hard.Hard.room.Goals as goal

pub returns : goal.returns
returns g c =
    let i = c.self.inside in
    let (a, taught) = c.both_followed.ensures.lock in
    let (b, taught') = c.both_followed.ensures.low in
    let w : CpuView _ = record {
      cyclics = _;
      removal = i.removal;
      size = i.table.size;
      room = i.table.room;
      most = i.most;
      suspended = i.suspended;
      lock =
          c.both_followed.new.lock;
      low = c.both_followed.new.low;
    } in
    let looked = looked_from g.R.Raise _ _ w c.self.view_is (record {
      lock = (a ∷ [], (c.both_followed.new.lock, taught, refl));
      low = (b ∷ [], (c.both_followed.new.low, taught', refl));
      cyclics = refl;
      kept = record { removal = refl; size = refl; room = refl; most = refl; suspended = refl };
    }) in
    let l = length-map i.table.rows cyclic_of in
    let len = c.len-len.ensures.value in let size = c.size-size.ensures.value in let from = c.from.ensures in
    let fits = c.if-more-from.false in let grows = c.if-len-more.false in let few = c.len-len.ensures.few in let most =
    c.size-size.ensures.few in
    elim c.if-both_followed.branch [
      | then-both_followed h ↦ subst (λ r. CpuChanges g.R.Raise c.args.self.now (AskRoom c.args.more r) w)
          (sym h.result-is) (
            looked,
            record {
              fits = omega (arith, l, len, from, fits, few, size, most);
              still =
                  λ more. (c.in_default.is, h.if-both_followed.ensures.yes);
            },
          )
      | else-both_followed h ↦ subst (λ r. CpuChanges g.R.Raise c.args.self.now (AskRoom c.args.more r) w)
          (sym h.result-is) (
            looked,
            (
              omega (arith, l, len, from, fits, few, size, most),
              omega (arith, l, len, size, grows),
              c.in_default.is,
              h.if-both_followed.ensures.no,
            ),
          )
    ]
