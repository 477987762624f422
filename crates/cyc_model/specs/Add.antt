-- add: a cyclic on the CPU with the fewest (cyclic_add; the choice is our own rule).
use Rattle.std.specs.Prelude.{ℕ, ◌+◌, false, [], ◌∷◌, ◌++◌, Option, None}
use Rattle.cyc_types.specs.declared.level.Level.{Level}
use Rattle.cyc_types.specs.declared.refusal.Refusal.{Refusal}
use Rattle.cyc_types.specs.Series.{first}
use Rattle.cyc_script.specs.declared.step.Add.{Add as AddStep}
use Rattle.cyc_text.specs.Lines.{accepted}
use Rattle.cyc_model.specs.Cpu.{CyclicState}
use Rattle.cyc_model.specs.Moving.{enter_here}
use Rattle.cyc_model.specs.Questions.{Questions}
use Rattle.cyc_model.specs.State.{State, Outcome, On, cpu_of, on_number, told}
use Rattle.cyc_model.specs.Places.{destination_of, given}
use Rattle.cyc_types.specs.Reasons.{first_refusal, bad_now}
use Rattle.cyc_model.specs.Refusals.{bad_when, no_id_left, no_room, magnitude}

-- the cyclic of this id that has expired and lost so much
abbrev pub cyclic_that_expired : ℕ → Level → ℕ → ℕ → ℕ → ℕ → CyclicState
cyclic_that_expired id level interval moment expired lost = record {
  timer = record { id = id; level = level; interval = interval; moment = moment; expired = expired };
  lost = lost;
}

-- a cyclic that has not expired yet
abbrev pub begun_cyclic : ℕ → Level → ℕ → ℕ → ℕ → CyclicState
begun_cyclic id level start interval now = cyclic_that_expired id level interval (first start interval now) 0 0

-- one more cyclic was put on a CPU
abbrev pub one_admitted : Outcome → Outcome
one_admitted o = record o { state = record o.state { admissions = o.state.admissions + 1 } }

-- a cyclic comes to this CPU and gets the next index
abbrev pub enter : (ℕ → ℕ) → ℕ → CyclicState → State → Outcome
enter indexes n x s = one_admitted (on_number n (enter_here n (indexes s.admissions) x) s)

abbrev pub add_refusal : Questions → AddStep → State → Option Refusal
add_refusal q a s = first_refusal (bad_when a.start a.interval ++ bad_now s.clock ∷ no_id_left s
    ∷ no_room q (destination_of None s) (s.last_id + 1) 1 (cpu_of (destination_of None s) s) ∷ [])

-- the cyclic that the step adds
abbrev pub added : AddStep → State → CyclicState
added a s = begun_cyclic (s.last_id + 1) a.level (magnitude a.start) (magnitude a.interval) s.clock

abbrev pub add_at : (ℕ → ℕ) → ℕ → ℕ → AddStep → State → Outcome
add_at indexes step n a s = told (accepted step) (enter indexes n (added a s) (given a.name (On n false) s))

abbrev pub add : (ℕ → ℕ) → ℕ → AddStep → State → Outcome
add indexes step a s = add_at indexes step (destination_of None s) a s
