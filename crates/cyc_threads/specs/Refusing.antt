-- Why a run of a script in threads was refused.
use Rattle.std.specs.Prelude.{◌≡◌, ℕ, ◌⊎◌, List, Option, All, length, map}
use Rattle.cyc_types.specs.declared.Calls.{Ghosts as Calls}
use Rattle.cyc_types.specs.declared.refusal.Refusal.{Refusal}
use Rattle.cyc_types.specs.declared.refusal.Refusal.TheVariants.{Memory}
use Rattle.cyc_ring.specs.declared.ends.RaiseEnd.{RaiseEnd}
use Rattle.cyc_ring.specs.declared.ends.DrainEnd.{DrainEnd}
use Rattle.cyc_ring.specs.Ends.{raise_end, drain_end}
use Rattle.cyc_script.specs.declared.script.Script.{Script}
use Rattle.cyc_soft.specs.declared.SoftSide.{SoftSide}
use Rattle.cyc_text.specs.declared.fault.RunFault.{RunFault}
use Rattle.cyc_text.specs.declared.fault.RunFault.TheVariants as run_fault
use Rattle.cyc_text.specs.Puts.{AppendsPrefix}
use Rattle.cyc_workers.specs.Refusals.{HandlerRefuses}
use Rattle.cyc_thread_rings.specs.declared.levels.Levels.{Levels}
use Rattle.cyc_thread_rings.specs.declared.levels.Seated.{Seated}
use Rattle.cyc_thread_rings.specs.Rings.{AreNew, soft_seats, soft_seats_on}
use Rattle.cyc_threads.specs.declared.progress.Progress.{Progress}
use Rattle.cyc_threads.specs.Working.{HaveRefused}
use Rattle.cyc_threads.specs.declared.running.Ended.{Ended}
use Rattle.cyc_threads.specs.Running.{all_handlers, IsAtFirst, HasRun}

-- Over these seats a run was refused so: the lead began with ends of them, each draining worker with the drain seat of its own
-- ring and the handlers beside it, and of the refusals that they came to this one counts first. What they came to is dropped with
-- the run, so this says that they can have come to it.
pub record PlayRefuses {C : Type 0} (handler : Calls C) (script : Script) (before : List (Seated C)) (e : Refusal) : Type 0 where
  pub first : Progress RaiseEnd C
  pub sides : List (Levels (SoftSide DrainEnd C))
  pub begins : IsAtFirst (length script.names.items) before first
  pub own : map soft_seats_on sides ≡ map soft_seats before
  pub refused : HaveRefused handler raise_end drain_end
      (record { steps = script.steps.items; lead = first; sides = sides }) e

-- memory or a thread was refused; or a handler refused, which may, and of all refusals its own counts first
abbrev pub WhyNotPlayed : {C : Type 0} → Calls C → Script → List (Seated C) → Refusal → Type 0
WhyNotPlayed handler script before e =
    (e ≡ Memory) ⊎ (HandlerRefuses handler.may_refuse e × PlayRefuses handler script before e)

-- the same over new rings, with these handlers
abbrev pub WhyNotRun : {C : Type 0} → Calls C → Script → List C → Refusal → Type 0
WhyNotRun {C} handler script calls e = (e ≡ Memory) ⊎ (HandlerRefuses handler.may_refuse e × (before : List (Seated C))
    × (all_handlers before ≡ calls) × All (AreNew script.ceiling) (map (λ s. s.seats) before)
    × PlayRefuses handler script before e)

-- why a run stopped, and what was written: nothing where it was refused, and of its text a prefix where the sink failed
abbrev pub StopsBy : {C : Type 0} → Calls C → Script → List C → Option (List ℕ) → Option (List ℕ) → RunFault → Type 0
StopsBy handler script calls old new (run_fault.Refused e) =
    WhyNotRun handler script calls e × (new ≡ old)
StopsBy {C} handler script calls old new run_fault.Write =
    (e : Ended C) × (text : List ℕ) × HasRun handler script calls e text × AppendsPrefix old new text
