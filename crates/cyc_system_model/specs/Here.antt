-- What each call of a CPU over plain levels is in the definition of a script.
use Rattle.std.specs.Prelude.{◌≡◌, ℕ, ◌+◌, ◌≤◌, Bool, Ok, Err, Some}
use Rattle.cyc_types.specs.Series.{never}
use Rattle.cyc_core.specs.Tables.{Tables}
use Rattle.cyc_cpu.specs.declared.removing.Removal.TheVariants.{Done, Kept}
use Rattle.cyc_cpu.specs.Cpu.{Running}
use Rattle.cyc_cpu.specs.Calls.{CpuCall, Fire, SoftInterrupt, Add, Place, Reprogram, Widen, BeginRemove, PollRemove, TakeNow}
use Rattle.cyc_types.specs.declared.level.Soft.{Soft}
use Rattle.cyc_model.specs.Acts.{events_at, calls_of}
use Rattle.cyc_model.specs.Cpu.{Cpu, Here, nothing_here, then_here}
use Rattle.cyc_model.specs.Firing.{fire_here}
use Rattle.cyc_model.specs.Serving.{serve_here, level_at}
use Rattle.cyc_model.specs.Free.{AllCanBeAdmitted}
use Rattle.cyc_model.specs.Moving.{widen_here, place_here, enter_here, take_here, mark_here, clear_here, reprogram_here}
use Rattle.cyc_model.specs.Add.{cyclic_that_expired, begun_cyclic}
use Rattle.cyc_system_model.specs.ShownCpu.{shown_cpu}

-- what the call does on the CPU of this number, where a cyclic that it puts in gets this index. A call that asks, reserves
-- memory or is refused does nothing
abbrev pub here_of : ℕ → ℕ → CpuCall → Cpu → Here
here_of n index (Fire now (Ok fired)) c = fire_here n now c
here_of n index (SoftInterrupt level budget (Ok ran)) c = serve_here n level budget c
here_of n index (Add id level when now (Ok done)) c = enter_here n index (begun_cyclic id level when.start when.interval now) c
here_of n index (Place id level interval moment carried) c =
    place_here n index (cyclic_that_expired id level interval moment carried.sent carried.lost) c
here_of n index (Reprogram id moment (Ok done)) c = reprogram_here id moment c
here_of n index (Widen more) c = widen_here n more c
here_of n index (BeginRemove id (Ok (Done receipt))) c = then_here (mark_here n id c) (clear_here n id)
here_of n index (BeginRemove id (Ok (Kept kept))) c = mark_here n id c
here_of n index (PollRemove (Some receipt)) c = clear_here n receipt.id c
here_of n index (TakeNow id (Ok taken)) c = take_here n id c
here_of n index call c = nothing_here c

-- the call is a fire or a soft interrupt that was stopped by its handler, or by a count
abbrev pub IsStopped : CpuCall → Type 0
IsStopped (Fire now (Err e)) = Unit {0}
IsStopped (SoftInterrupt level budget (Err e)) = Unit {0}
IsStopped call = ⊥

-- an add comes no later than never, as every moment does
abbrev pub IsInTime : CpuCall → Type 0
IsInTime (Add id level when now answer) = now ≤ never
IsInTime call = Unit {0}

-- the call did on the CPU of this number just what the definition says, and its handlers were called as often
pub record IsHere {C : Type 0} (count : C → ℕ → ℕ) (n : ℕ) (online : Bool) (call : CpuCall)
    (s t : Running C Tables) : Type 0 where
  -- the index that a cyclic got which was put in
  pub index : ℕ
  pub cpu : shown_cpu online t.cpu ≡ (here_of n index call (shown_cpu online s.cpu)).cpu
  -- where it was put in the index was free
  pub free : (soft : Soft) → AllCanBeAdmitted (events_at n soft (here_of n index call (shown_cpu online s.cpu)).acts)
      (level_at soft (shown_cpu online s.cpu))
  pub called : (id : ℕ) → count t.calls id
      ≡ count s.calls id + calls_of id (here_of n index call (shown_cpu online s.cpu)).acts
