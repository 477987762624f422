-- Each step of a run in threads that was refused has a reason: one that the accepted steps before it told; or memory was refused
-- to it; or an earlier move of the same step had made a CPU grow.
use Rattle.std.specs.Prelude.{◌≡◌, ◌<◌, ◌⊎◌, ⊤, ℕ, true, false, List, [], ◌∷◌, Option, Some, Err}
use Rattle.std.specs.List.{slice_get}
use Rattle.cyc_types.specs.declared.Calls.{Ghosts as Calls}
use Rattle.cyc_types.specs.declared.Raise.{Ghosts as Raise}
use Rattle.cyc_types.specs.declared.refusal.JuggleReport.{JuggleReport}
use Rattle.cyc_types.specs.declared.refusal.Refusal.TheVariants.{Memory, Expanding}
use Rattle.cyc_cpu.specs.Cpu.{CpuView}
use Rattle.cyc_agreement.specs.Cpus.{IsCpu}
use Rattle.cyc_script.specs.declared.step.Step.{Step}
use Rattle.cyc_script.specs.declared.step.Step.TheVariants as steps
use Rattle.cyc_system_laws.specs.Settling.{RefusedTurn, refused_turns}
use Rattle.cyc_thread_calls.specs.System.{SystemView}
use Rattle.cyc_thread_calls.specs.Juggling.{MovesAway, single_ids}
use Rattle.cyc_thread_calls.specs.Calls.{SystemCall, Add, AddOmni, Bind, Online}
use Rattle.cyc_thread_calls.specs.SystemRingsLeading.{LeadCall, Make}
use Rattle.cyc_thread_calls.specs.Progress.{Progress}
use Rattle.cyc_thread_calls.specs.Words.{DoesStep}
use Rattle.cyc_thread_calls.specs.Steps.{TakesSteps, Runs}
use Rattle.cyc_thread_calls.specs.Leading.{call_of}
use Rattle.cyc_thread_calls.specs.Meeting.{was_accepted}
use Rattle.cyc_thread_reasons.specs.Known.{Known, before_step, known_after}
use Rattle.cyc_thread_reasons.specs.Reasons.{has_reason}

-- memory was refused to the call
abbrev pub MemoryRefused : SystemCall → Type 0
MemoryRefused (Add level when now answer) = answer ≡ Err Memory
MemoryRefused (AddOmni level when skew now answer) = answer ≡ Err Memory
MemoryRefused (Bind id cpu answer) = answer ≡ Err Memory
MemoryRefused (Online n now answer) = answer ≡ Err Memory
MemoryRefused call = ⊥

abbrev pub MemoryRefusedTo : Option LeadCall → Type 0
MemoryRefusedTo (Some (Make call)) = MemoryRefused call
MemoryRefusedTo call = ⊥

-- The turn of a cyclic was refused: memory was; or its destination was still switching banks, since an earlier turn of the step,
-- which began with this system, had made it grow.
abbrev pub IsTurnPutOff : {R : Type 0} → SystemView R → RefusedTurn R → Type 0
IsTurnPutOff {R} s turn = (turn.why ≡ Memory) ⊎ ((turn.why ≡ Expanding)
    × (x : CpuView R) × (y : CpuView R) × IsCpu turn.target x s.cpus × IsCpu turn.target y turn.before.cpus × (x.size < y.size))

-- the cyclics of this CPU had their turns, with which it came from one system to the other, and one of them was put off
abbrev pub IsLeft : {R : Type 0} → Raise R → ℕ → SystemView R → SystemView R → Type 0
IsLeft {R} firing n s t = (report : JuggleReport) × (moves : MovesAway firing n report s t) × (position : ℕ)
    × (turn : RefusedTurn R)
    × (slice_get (refused_turns firing n (single_ids n s) report s t moves) position ≡ Some turn) × IsTurnPutOff s turn

module _ {C R : Type 0} (handler : Calls C) (firing : Raise R) where
  -- a cyclic was left on the CPU that was to go offline
  abbrev pub IsLeftBy : Step → Progress R C → Progress R C → Type 0
  IsLeftBy (steps.Offline n) s t = IsLeft firing n s.side.system t.side.system
  IsLeftBy x s t = ⊥

  -- why a step was refused, of which the accepted steps before it told so much
  abbrev pub WhyNot : Known → (x : Step) (s t : Progress R C) → DoesStep handler firing x s t → Type 0
  WhyNot told x s t does = (has_reason x told ≡ true) ⊎ MemoryRefusedTo (call_of handler firing x s t does) ⊎ IsLeftBy x s t

  -- each of these steps was accepted, or there is why not
  abbrev pub AreExplained : Known → (s : Progress R C) (xs : List Step) (t : Progress R C)
      → TakesSteps handler firing s xs t → Type 0
  AreExplained told s [] t takes = ⊤
  AreExplained told s (x ∷ xs) t ((u, (v, begins, does), rest)) =
      (was_accepted handler firing x v u does ≡ false → WhyNot (before_step x told) x v u does)
      × AreExplained (known_after (record { step = x; accepted = was_accepted handler firing x v u does }) told) u xs t rest

  -- so it is of all steps of a run
  abbrev pub AllExplained : Known → (s : Progress R C) (xs : List Step) (t : Progress R C) → Runs handler firing s xs t → Type 0
  AllExplained told s xs t (u, takes, waits) = AreExplained told s xs u takes
