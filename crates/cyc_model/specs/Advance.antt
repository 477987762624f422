-- advance: the clock is set, and every online CPU fires (cyclic_fire). Where it is refused the clock is set all the same.
use Rattle.std.specs.Prelude.{ℕ, List, [], ◌∷◌, length, sum_by, Option}
use Rattle.cyc_types.specs.declared.refusal.Refusal.{Refusal}
use Rattle.cyc_types.specs.declared.refusal.Refusal.TheVariants.{Suspended}
use Rattle.cyc_text.specs.Lines.{fired}
use Rattle.cyc_model.specs.Acts.{all_losses}
use Rattle.cyc_model.specs.Firing.{due_here, fire_here}
use Rattle.cyc_model.specs.State.{State, Outcome, cpu_of, on_number, each, told, cpus_online}
use Rattle.cyc_types.specs.Reasons.{first_refusal, when, bad_now}

-- the expirations of all online CPUs
abbrev pub due_on : ℕ → List ℕ → State → ℕ
due_on now ns s = sum_by (λ n. length (due_here now (cpu_of n s))) ns

abbrev pub with_fired_line : ℕ → ℕ → Outcome → Outcome
with_fired_line step expired o = told (fired step expired (all_losses o.acts)) o

abbrev pub advance_refusal : ℕ → State → Option Refusal
advance_refusal now s = first_refusal (when s.suspended Suspended ∷ bad_now now ∷ [])

abbrev pub advance : ℕ → ℕ → State → Outcome
advance step now s = with_fired_line step (due_on now (cpus_online s) s)
    (each (λ n. on_number n (fire_here n now)) (cpus_online s) (record s { clock = now }))
