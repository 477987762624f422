-- What the calls of a system over plain levels that reach handlers are in the definition of a script.
use Rattle.std.specs.Prelude.{◌≡◌, ℕ, ◌+◌, [], ◌∷◌, length, None}
use Rattle.cyc_core.specs.Tables.{Tables}
use Rattle.cyc_soft.specs.declared.Ran.{Ran}
use Rattle.cyc_cpu.specs.Fired.{Fired}
use Rattle.cyc_script.specs.declared.step.Softint.{Softint as SoftintStep}
use Rattle.cyc_system.specs.System.{RunningSystem}
use Rattle.cyc_model.specs.Acts.{calls_of, handler_calls, all_losses}
use Rattle.cyc_model.specs.Firing.{due_here, fire_here}
use Rattle.cyc_model.specs.Serving.{interrupt_here}
use Rattle.cyc_model.specs.State.{State, cpu_of, on_number}
use Rattle.cyc_types.specs.Reasons.{first_refusal}
use Rattle.cyc_model.specs.Refusals.{is_no_cpu, cpu_is_offline}
use Rattle.cyc_model.specs.Softint.{softint_refusal, interrupt}
use Rattle.cyc_system_model.specs.SystemWords.{ComesTo}

-- the CPU of this number fired at the machine's clock, as the word advance fires each
pub record IsFired {C : Type 0} (count : C → ℕ → ℕ) (n : ℕ) (fired : Fired) (m : State)
    (s t : RunningSystem C Tables) : Type 0 where
  pub accepted : first_refusal (is_no_cpu n m ∷ cpu_is_offline n m ∷ []) ≡ None
  pub comes : ComesTo [] m (on_number n (fire_here n m.clock) m) t.system
  pub expired : fired.expired ≡ length (due_here m.clock (cpu_of n m))
  pub lost : fired.lost ≡ all_losses (fire_here n m.clock (cpu_of n m)).acts
  pub called : (id : ℕ) → count t.calls id ≡ count s.calls id + calls_of id (fire_here n m.clock (cpu_of n m)).acts

-- the soft interrupt was made, before any removal is polled
pub record IsServed {C : Type 0} (count : C → ℕ → ℕ) (i : SoftintStep) (ran : Ran) (m : State)
    (s t : RunningSystem C Tables) : Type 0 where
  pub accepted : softint_refusal i m ≡ None
  pub comes : (step : ℕ) → ComesTo [] m (interrupt step i m) t.system
  pub calls : ran.calls ≡ handler_calls (interrupt_here i.cpu i.level i.budget (cpu_of i.cpu m)).acts
  pub idle : ran.idle ≡ (interrupt_here i.cpu i.level i.budget (cpu_of i.cpu m)).idle
  pub called : (id : ℕ) → count t.calls id
      ≡ count s.calls id + calls_of id (interrupt_here i.cpu i.level i.budget (cpu_of i.cpu m)).acts
