-- offline: a CPU whose cyclics moved, and whose components ended, takes no further part (cyclic_offline).
use Rattle.std.specs.Prelude.{ℕ, nat_lt, Bool, true, false, List, [], ◌∷◌, map, Option}
use Rattle.std.specs.List.{list_any}
use Rattle.cyc_types.specs.declared.refusal.Refusal.{Refusal}
use Rattle.cyc_types.specs.declared.refusal.Refusal.TheVariants.{Pending}
use Rattle.cyc_types.specs.Refusals.{number_of}
use Rattle.cyc_text.specs.Lines.{accepted, refused, cyclics_left}
use Rattle.cyc_model.specs.Cpu.{Cpu, cyclic_with_id, nothing_here}
use Rattle.cyc_model.specs.Moving.{take_here}
use Rattle.cyc_model.specs.Questions.{Questions}
use Rattle.cyc_model.specs.State.{State, Outcome, cpu_of, on_number, each, told, followed_by}
use Rattle.cyc_model.specs.Places.{keep_counts}
use Rattle.cyc_model.specs.Juggle.{Juggled, juggled, juggle_refusal, single_ids_of}

-- the ids of the cyclics of a CPU
abbrev pub ids_of_cpu : ℕ → State → List ℕ
ids_of_cpu n s = map (λ x. x.timer.id) (cpu_of n s).cyclics

-- a component ends on the CPU, and its counts there are kept
abbrev pub retire : ℕ → ℕ → State → Outcome
retire n id s = on_number n (take_here n id) (keep_counts n (cyclic_with_id id (cpu_of n s)) s)

abbrev pub go_offline : Cpu → Cpu
go_offline c = record c { online = false }

abbrev pub retire_all : ℕ → State → Outcome
retire_all n s = followed_by (each (retire n) (ids_of_cpu n s) s) (on_number n (λ c. nothing_here (go_offline c)))

-- a call of one of these is outstanding on the CPU
abbrev pub any_pending : Questions → ℕ → List ℕ → State → Bool
any_pending q n ids s = list_any (λ id. nat_lt 0 (q.outstanding n id (cpu_of n s))) ids

-- after the juggle, where no cyclic is left: refused where a component has a call outstanding
abbrev pub last_part : Bool → ℕ → ℕ → Outcome → Outcome
last_part true step n o = told (refused step (number_of Pending)) o
last_part false step n o = told (accepted step) (followed_by o (retire_all n))

-- what moved stays moved, where others are left
abbrev pub leaving : Questions → ℕ → ℕ → List ℕ → Juggled → Outcome
leaving q step n (id ∷ ids) j = told (cyclics_left step j.report) j.outcome
leaving q step n [] j = last_part (any_pending q n (ids_of_cpu n j.outcome.state) j.outcome.state) step n j.outcome

abbrev pub after_juggle : Questions → ℕ → ℕ → Juggled → Outcome
after_juggle q step n j = leaving q step n (single_ids_of n j.outcome.state) j

abbrev pub offline_refusal : Questions → ℕ → State → Option Refusal
offline_refusal q n s = juggle_refusal q n s

abbrev pub offline : Questions → (ℕ → ℕ) → ℕ → ℕ → State → Outcome
offline q indexes step n s = after_juggle q step n (juggled q indexes n s)
