-- What a soft interrupt counts.
use Rattle.std.proofs.Common.{◌≡◌, ℕ, ◌+◌, Result, Ok, Err, arith}
use Rattle.cyc_types.specs.Levels.{Handler}
use Rattle.cyc_types.specs.declared.draining.Drain.{Ghosts as Drain}
use Rattle.cyc_soft.specs.Serving.{IsSoftint}
use Rattle.cyc_soft.specs.declared.Ran.{Ran}
use Rattle.cyc_soft.specs.declared.SoftRefused.{SoftRefused}
use Rattle.cyc_soft.specs.declared.SoftSide.{SoftSide}
use Rattle.cyc_ring.specs.Ends.{IsSameDrainSeat, drain_end}
use Rattle.cyc_ring.specs.Laws.{DrainWaysAddUp}
use Rattle.cyc_ring.specs.declared.ends.DrainEnd.{DrainEnd}

-- the handlers have counted the calls that are done, and no other
pub counts_done : {D C : Type 0} (draining : Drain D) (handler : Handler C) (budget : ℕ) (answer : Result Ran SoftRefused)
    (a b : SoftSide D C) → IsSoftint draining handler budget answer a b → (id : ℕ)
    → handler.count b.calls id + draining.made a.drain id ≡ handler.count a.calls id + draining.made b.drain id
counts_done draining handler budget (Ok r) a b s id =
    let (ran, long, served, hand) = s.served in
    let x = served.counted id in let y = served.finished id in omega (arith, x, y)
counts_done draining handler budget (Err e) a b s id =
    let (ran, at, long, few, served, may, kept, hand) = s.refused in
    let x = served.counted id in let y = served.finished id in let z = kept id in omega (arith, x, y, z)

-- the end is still one of the same ring
pub same_seat : DrainWaysAddUp → {C : Type 0} (handler : Handler C) (budget : ℕ) (answer : Result Ran SoftRefused)
    (a b : SoftSide DrainEnd C) → IsSoftint drain_end handler budget answer a b → IsSameDrainSeat a.drain.seat b.drain.seat
same_seat law handler budget (Ok r) a b s = (law _ _ _ s.served.2.way).0
same_seat law handler budget (Err e) a b s = (law _ _ _ s.refused.4.way).0
