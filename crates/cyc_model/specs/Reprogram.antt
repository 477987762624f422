-- reprogram: another moment for a cyclic, or for the component of an omnipresent one on this CPU (cyclic_reprogram).
use Rattle.std.specs.Prelude.{ℕ, ◌&&◌, not, int_lt, pos, List, [], ◌∷◌, Option, Some, None}
use Rattle.cyc_types.specs.declared.refusal.Refusal.{Refusal}
use Rattle.cyc_types.specs.declared.refusal.Refusal.TheVariants.{BadWhen, NoCyclic}
use Rattle.cyc_text.specs.Lines.{accepted}
use Rattle.cyc_script.specs.declared.step.Reprogram.{Reprogram as ReprogramStep}
use Rattle.cyc_model.specs.Cpu.{has_cyclic}
use Rattle.cyc_model.specs.Moving.{reprogram_here}
use Rattle.cyc_model.specs.State.{State, Outcome, cpu_of, on_number, told}
use Rattle.cyc_model.specs.Places.{id_of, is_omni, home_of}
use Rattle.cyc_types.specs.Reasons.{first_refusal, when}
use Rattle.cyc_model.specs.Refusals.{is_no_cpu, cpu_is_offline, magnitude}
use Rattle.cyc_model.specs.Bind.{cyclic_is_absent, cyclic_is_omni}

-- only an omnipresent cyclic has components
abbrev pub has_no_component : ℕ → ℕ → State → Option Refusal
has_no_component id n s = when (not (is_omni id s && has_cyclic id (cpu_of n s))) NoCyclic

-- why a step that names no CPU is refused, and one that does
abbrev pub cpu_refusals : Option ℕ → ℕ → State → List (Option Refusal)
cpu_refusals None id s = cyclic_is_omni id s ∷ []
cpu_refusals (Some n) id s = is_no_cpu n s ∷ cpu_is_offline n s ∷ has_no_component id n s ∷ []

abbrev pub reprogram_refusal : ReprogramStep → State → Option Refusal
reprogram_refusal r s = first_refusal (when (int_lt r.moment (pos 0)) BadWhen ∷ cyclic_is_absent (id_of r.name s) s
    ∷ cpu_refusals r.cpu (id_of r.name s) s)

-- the CPU that is meant
abbrev pub cpu_meant : Option ℕ → ℕ → State → ℕ
cpu_meant None id s = home_of id s
cpu_meant (Some n) id s = n

abbrev pub reprogram : ℕ → ReprogramStep → State → Outcome
reprogram step r s = told (accepted step)
    (on_number (cpu_meant r.cpu (id_of r.name s) s) (reprogram_here (id_of r.name s) (magnitude r.moment)) s)
