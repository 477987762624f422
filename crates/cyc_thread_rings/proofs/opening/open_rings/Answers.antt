use Rattle.std.proofs.Common.{[], ◌∷◌, sym, subst, List, ap, length, arith}
use Rattle.std.specs.Prelude.{All}
use Rattle.std.proofs.lemmas.List.{length-append}
use Rattle.std.proofs.lemmas.List.Elements.{All-append, All-nil, All-cons}
use Rattle.cyc_ring.specs.declared.ring.Ring.{Ring}
use Rattle.cyc_workers.specs.declared.cpu.Seats.{Seats}
use Rattle.cyc_thread_rings.specs.declared.levels.Levels.{Levels}
use Rattle.cyc_thread_rings.specs.Rings.{AreSeated, AreNew, BeginAt}
use Rattle.cyc_thread_rings.proofs.Each.{each_pushed}
use Rattle.cyc_thread_rings.proofs.opening.open_rings.Goals as goal

pub loop-preserved : goal.loop-preserved
loop-preserved c =
    let inv = c.loop.invariant in let s = c.in_ok-own_rings.own_seats in let r = c.in_ok-own_rings.own_rings in
    let rings = c.push_reserved.ensures in let seats = c.push_reserved-in-loop.ensures in let more = seats.items in
    let own = c.in_ok-own_rings.ensures in
    record {
      len = (let a = ap (λ (zs : List (Levels Seats)). length zs) more in let b = length-append c.loop.seats.items (s ∷ []) in
          let e = inv.len in omega (arith, a, b, e));
      len_rings = (let a = ap (λ (zs : List (Levels Ring)). length zs) rings.items in
          let b = length-append c.loop.rings.items (r ∷ []) in let e = inv.len_rings in omega (arith, a, b, e));
      room = let room = inv.room in let same = seats.capacity in omega (arith, room, same);
      room_rings = let room = inv.room_rings in let same = rings.capacity in omega (arith, room, same);
      seated = each_pushed AreSeated c.loop.rings.items c.loop.seats.items _ _ r s rings.items more inv.seated own.seated;
      new = subst (λ (zs : List (Levels Seats)). All (AreNew c.args.ceiling) zs) (sym more)
          (All-append (AreNew c.args.ceiling) c.loop.seats.items (s ∷ []) inv.new
          (All-cons (AreNew c.args.ceiling) s [] own.new (All-nil (AreNew c.args.ceiling))));
      start = subst (λ (zs : List (Levels Seats)). All (BeginAt c.args.start) zs) (sym more)
          (All-append (BeginAt c.args.start) c.loop.seats.items (s ∷ []) inv.start
          (All-cons (BeginAt c.args.start) s [] own.start (All-nil (BeginAt c.args.start))));
    }
