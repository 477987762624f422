-- What all workers of a run do together.
use Rattle.std.specs.Prelude.{◌≡◌, ◌⊎◌, List, Option, Some, None, Result, Ok, Err, IfOk, IfErr, unwrap_or}
use Rattle.cyc_types.specs.declared.Calls.{Ghosts as Calls}
use Rattle.cyc_types.specs.declared.Drain.{Ghosts as Drain}
use Rattle.cyc_types.specs.declared.Raise.{Ghosts as Raise}
use Rattle.cyc_types.specs.Levels.{handler_at}
use Rattle.cyc_types.specs.declared.level.Level.TheVariants.{Low, Lock}
use Rattle.cyc_types.specs.declared.refusal.Refusal.{Refusal}
use Rattle.cyc_types.specs.declared.refusal.Refusal.TheVariants.{Memory, HandlerRefused}
use Rattle.cyc_types.specs.Pairs.{EachTwo}
use Rattle.cyc_script.specs.declared.step.Step.{Step}
use Rattle.cyc_soft.specs.declared.SoftSide.{SoftSide}
use Rattle.cyc_workers.specs.declared.draining.Drained.{Drained}
use Rattle.cyc_threads.specs.declared.halt.Halt.{Halt}
use Rattle.cyc_threads.specs.declared.halt.Halt.TheVariants as halt
use Rattle.cyc_workers.specs.Draining.{MakesCalls}
use Rattle.cyc_thread_rings.specs.declared.levels.Levels.{Levels}
use Rattle.cyc_thread_rings.specs.Working.{HaveDrained}
use Rattle.cyc_thread_rings.specs.Refusing.{refusals_from, first_in}
use Rattle.cyc_threads.specs.declared.progress.Progress.{Progress}
use Rattle.cyc_threads.specs.Steps.{Runs, WhyHalted}
use Rattle.cyc_threads.specs.declared.working.Worked.{Worked}

-- The refusal that a run ends with, by how the steps ended and by what the draining workers left: where memory was refused that
-- comes first, and else that of the smallest CPU, firing before lock before low. Where the lead heard of a refusal by a draining
-- worker and none of them left one, it is that of the id which it heard.
abbrev pub refusal_of_run : {A D C : Type 0} → Result A Halt → List (Levels (Drained D C)) → Option Refusal
refusal_of_run (Ok a) drained = first_in (refusals_from 0 None drained)
refusal_of_run (Err (halt.Refused e)) drained = Some e
refusal_of_run (Err (halt.Fired n why)) drained = Some (unwrap_or (first_in (refusals_from 0 (Some record {
  cpu = n;
  why =
      why;
}) drained)) why)
refusal_of_run (Err (halt.Told id)) drained = Some (unwrap_or (first_in (refusals_from 0 None drained)) (HandlerRefused id))

-- the two draining workers of a CPU made the calls that their soft sides finished, each at its own level and on its own handlers
abbrev pub HaveMade : {D C : Type 0} → Drain D → Calls C → Levels (SoftSide D C) → Levels (SoftSide D C) → Type 0
HaveMade draining handler s t =
    MakesCalls draining (handler_at handler Lock) s.lock t.lock × MakesCalls draining (handler_at handler Low) s.low t.low

-- what the workers are given: the steps to take, the lead before them, and the soft sides, CPU after CPU
pub record Work (C R D : Type 0) : Type 0 where
  pub steps : List Step
  pub lead : Progress R C
  pub sides : List (Levels (SoftSide D C))

-- the lead took the steps, and each CPU has settled; the draining workers made the calls of their soft sides
pub record HasWorked {C R D : Type 0} (handler : Calls C) (firing : Raise R) (draining : Drain D) (a : Work C R D)
    (b : Worked R D C) : Type 0 where
  pub runs : Runs handler firing a.lead a.steps b.lead
  pub makes : EachTwo (HaveMade draining handler) a.sides b.soft.items

-- How the steps of a run ended and what its draining workers left: the lead took the steps, and each CPU has settled, or there is
-- why they ended early; and each draining worker drained the soft side that it was given, with the handlers of its own level.
pub record HaveEnded {C R D : Type 0} (handler : Calls C) (firing : Raise R) (draining : Drain D) (a : Work C R D)
    (taken : Result (Progress R C) Halt) (drained : List (Levels (Drained D C))) : Type 0 where
  pub ran : IfOk taken (λ lead. Runs handler firing a.lead a.steps lead)
  pub halted : IfErr taken (λ h. WhyHalted handler firing a.lead a.steps h)
  pub each : EachTwo (HaveDrained draining handler) a.sides drained

-- the workers ended so that this is their refusal: the first, in the order of `refusal_of`
pub record HaveRefused {C R D : Type 0} (handler : Calls C) (firing : Raise R) (draining : Drain D) (a : Work C R D)
    (e : Refusal) : Type 0 where
  pub taken : Result (Progress R C) Halt
  pub drained : List (Levels (Drained D C))
  pub ended : HaveEnded handler firing draining a taken drained
  pub first : refusal_of_run taken drained ≡ Some e

-- why the workers were refused: memory or a thread was; or one of them or several were, of which this counts first
abbrev pub WhyRefused : {C R D : Type 0} → Calls C → Raise R → Drain D → Work C R D → Refusal → Type 0
WhyRefused handler firing draining a e = (e ≡ Memory) ⊎ HaveRefused handler firing draining a e

abbrev pub BothLevelsMake : {C R D : Type 0} → Calls C → Raise R → Drain D → Work C R D → Result (Worked R D C) Refusal → Type 0
BothLevelsMake handler firing draining a (Ok b) = HasWorked handler firing draining a b
BothLevelsMake handler firing draining a (Err e) = WhyRefused handler firing draining a e
