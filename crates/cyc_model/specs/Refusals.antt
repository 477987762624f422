-- Why the step of a script is refused, by the CPUs and the placements, and what a refused step does.
use Rattle.std.specs.Prelude.{ℕ, ◌+◌, nat_lt, nat_le, not, List, [], ◌∷◌, length, int_lt, ℤ, pos, negsuc, Option, Some, None}
use Rattle.cyc_types.specs.Limits.{cyclics as most_cyclics, last_id as greatest_id}
use Rattle.cyc_types.specs.Reasons.{when, first_refusal, busy, only_if}
use Rattle.cyc_types.specs.declared.refusal.Refusal.{Refusal}
use Rattle.cyc_types.specs.declared.refusal.Refusal.TheVariants.{BadWhen, BadInterval, Full, Expanding, IdsSpent, NoCpu}
use Rattle.cyc_types.specs.declared.refusal.Refusal.TheVariants.{Offline, LastCpu}
use Rattle.cyc_types.specs.Refusals.{number_of}
use Rattle.cyc_text.specs.Lines.{refused}
use Rattle.cyc_script.specs.declared.step.Step.{Step}
use Rattle.cyc_script.specs.WellFormed.{moment_after}
use Rattle.cyc_model.specs.Cpu.{Cpu}
use Rattle.cyc_model.specs.Moving.{must_grow}
use Rattle.cyc_model.specs.Questions.{Questions}
use Rattle.cyc_model.specs.State.{State, Outcome, nothing, told, cpu_of, cpus_online}

-- why there is no room for so many more: asked for the sake of this id
abbrev pub no_room : Questions → ℕ → ℕ → ℕ → Cpu → Option Refusal
no_room q n id more c = first_refusal (
    when (nat_lt most_cyclics (length c.cyclics + more)) Full
    ∷ only_if (must_grow more c) (busy (q.removal n c))
    ∷ only_if (must_grow more c) (when (not (q.followed n id c)) Expanding)
    ∷ [])

abbrev pub is_no_cpu : ℕ → State → Option Refusal
is_no_cpu n s = when (nat_le (length s.cpus) n) NoCpu

abbrev pub cpu_is_offline : ℕ → State → Option Refusal
cpu_is_offline n s = when (not (cpu_of n s).online) Offline

-- no other CPU is online
abbrev pub is_last_online : ℕ → State → Option Refusal
is_last_online n s = when (nat_le (length (cpus_online s)) 1) LastCpu

-- the start and the interval of a cyclic (When::new)
abbrev pub bad_when : ℤ → ℤ → List (Option Refusal)
bad_when start interval = when (int_lt start (pos 0)) BadWhen ∷ when (int_lt interval (pos 1)) BadInterval ∷ []

abbrev pub no_id_left : State → Option Refusal
no_id_left s = when (nat_le greatest_id s.last_id) IdsSpent

-- the number of an integer that isn't negative
abbrev pub magnitude : ℤ → ℕ
magnitude (pos n) = n
magnitude (negsuc n) = 0

-- a step that is refused does nothing, but that an `advance` sets the clock
abbrev pub after_refusal : Step → State → State
after_refusal x s = record s { clock = moment_after s.clock x }

abbrev pub refusal : ℕ → Refusal → State → Outcome
refusal step why s = told (refused step (number_of why)) (nothing s)

-- a step that may be refused
abbrev pub unless : Option Refusal → ℕ → Step → (State → Outcome) → State → Outcome
unless (Some why) step x does s = refusal step why (after_refusal x s)
unless None step x does s = does s
