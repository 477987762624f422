-- omni: a cyclic with one component on each online CPU (cyclic_add_omni; the skew is our own rule).
use Rattle.std.specs.Prelude.{ℕ, ◌+◌, ◌*◌, min, List, ◌∷◌, ◌++◌, map, Option}
use Rattle.cyc_types.specs.declared.refusal.Refusal.{Refusal}
use Rattle.cyc_types.specs.Series.{never}
use Rattle.cyc_script.specs.declared.step.Omni.{Omni as OmniStep}
use Rattle.cyc_text.specs.Lines.{accepted}
use Rattle.cyc_model.specs.Cpu.{CyclicState}
use Rattle.cyc_model.specs.Questions.{Questions}
use Rattle.cyc_model.specs.State.{State, Outcome, Everywhere, OnAll, cpu_of, cpus_online, each, told}
use Rattle.cyc_model.specs.Places.{given}
use Rattle.cyc_types.specs.Reasons.{first_refusal, bad_now}
use Rattle.cyc_model.specs.Refusals.{bad_when, no_id_left, no_room, magnitude}
use Rattle.cyc_model.specs.Add.{begun_cyclic, enter}

-- the start of the component on the CPU of this number
abbrev pub start_on : ℕ → Everywhere → ℕ
start_on n e = min (e.start + n * e.skew) never

-- the component there, which has not expired yet
abbrev pub component : ℕ → ℕ → Everywhere → ℕ → CyclicState
component id n e now = begun_cyclic id e.level (start_on n e) e.interval now

-- each online CPU in turn
abbrev pub no_room_on_each : Questions → ℕ → State → List (Option Refusal)
no_room_on_each q id s = map (λ n. no_room q n id 1 (cpu_of n s)) (cpus_online s)

abbrev pub omni_refusal : Questions → OmniStep → State → Option Refusal
omni_refusal q a s =
    first_refusal (bad_when a.start a.interval ++ bad_now s.clock ∷ no_id_left s ∷ no_room_on_each q (s.last_id + 1) s)

abbrev pub everywhere : OmniStep → Everywhere
everywhere a = record { level = a.level; start = magnitude a.start; interval = magnitude a.interval; skew = a.skew }

abbrev pub enter_each : (ℕ → ℕ) → ℕ → Everywhere → State → Outcome
enter_each indexes id e s = each (λ n s. enter indexes n (component id n e s.clock) s) (cpus_online s) s

abbrev pub omni : (ℕ → ℕ) → ℕ → OmniStep → State → Outcome
omni indexes step a s =
    told (accepted step) (enter_each indexes (s.last_id + 1) (everywhere a) (given a.name (OnAll (everywhere a)) s))
