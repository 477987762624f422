-- The draining workers of a system.
use Rattle.std.specs.Prelude.{◌≡◌}
use Rattle.std.specs.declared.thread.PromisedHandle.{PromisedHandle}
use Rattle.cyc_types.specs.declared.Calls.{Ghosts as Calls}
use Rattle.cyc_types.specs.declared.Drain.{Ghosts as Drain}
use Rattle.cyc_types.specs.Levels.{as_level, handler_at}
use Rattle.cyc_types.specs.declared.level.Level.TheVariants as level
use Rattle.cyc_types.specs.declared.level.Soft.TheVariants.{Lock, Low}
use Rattle.cyc_soft.specs.declared.SoftSide.{SoftSide}
use Rattle.cyc_workers.specs.declared.draining.Drained.{Drained}
use Rattle.cyc_workers.specs.declared.draining.Drains.{Drains}
use Rattle.cyc_workers.specs.Draining.{HasDrained, side_of}
use Rattle.cyc_thread_rings.specs.declared.levels.Levels.{Levels}
use Rattle.cyc_thread_rings.specs.declared.working.Drainer.{Drainer}

-- the soft sides that the workers of a CPU are to drain
abbrev pub sides_of : {D C : Type 0} → Levels (Drainer D C) → Levels (SoftSide D C)
sides_of d = record { lock = d.lock.side; low = d.low.side }

-- the workers of a CPU promised to drain these sides, each at its own level
pub record HasPromised {D C : Type 0} (s : Levels (SoftSide D C)) (h : Levels (PromisedHandle (Drained D C) (Drains D C))) :
    Type 0 where
  pub lock : h.lock.promise.side.value ≡ s.lock
  pub lock_level : h.lock.promise.level ≡ Lock
  pub low : h.low.promise.side.value ≡ s.low
  pub low_level : h.low.promise.level ≡ Low

-- they kept their promises
abbrev pub HaveKept : {D C : Type 0} → Drain D → Calls C → Levels (PromisedHandle (Drained D C) (Drains D C))
    → Levels (Drained D C) → Type 0
HaveKept draining handler h d =
    HasDrained draining (handler_at handler (as_level h.lock.promise.level)) h.lock.promise.side.value d.lock
    × HasDrained draining (handler_at handler (as_level h.low.promise.level)) h.low.promise.side.value d.low

-- the workers of a CPU have drained these sides, each with its own handlers at its own level
abbrev pub HaveDrained : {D C : Type 0} → Drain D → Calls C → Levels (SoftSide D C) → Levels (Drained D C) → Type 0
HaveDrained draining handler s d =
    HasDrained draining (handler_at handler level.Lock) s.lock d.lock
    × HasDrained draining (handler_at handler level.Low) s.low d.low

-- the soft sides that the workers of a CPU left
abbrev pub both_sides : {D C : Type 0} → Levels (Drained D C) → Levels (SoftSide D C)
both_sides d = record { lock = side_of d.lock; low = side_of d.low }
