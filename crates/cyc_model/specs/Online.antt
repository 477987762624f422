-- online: a CPU takes part again, with a component of each omnipresent cyclic (cyclic_online).
use Rattle.std.specs.Prelude.{ℕ, not, Bool, true, false, List, [], ◌∷◌, length, filter, Option}
use Rattle.cyc_types.specs.declared.refusal.Refusal.{Refusal}
use Rattle.cyc_types.specs.declared.refusal.Refusal.TheVariants.{Expanding, Online}
use Rattle.cyc_types.specs.Series.{first}
use Rattle.cyc_text.specs.Lines.{accepted}
use Rattle.cyc_model.specs.Cpu.{Cpu, CyclicState, nothing_here}
use Rattle.cyc_model.specs.Moving.{must_grow, widen_here, place_here}
use Rattle.cyc_model.specs.Questions.{Questions}
use Rattle.cyc_model.specs.State.{
  State,
  Outcome,
  Ended,
  Everywhere,
  Placement,
  On,
  OnAll,
  Placed,
  cpu_of,
  on_number,
  nothing,
  each,
}
use Rattle.cyc_model.specs.State.{told}
use Rattle.cyc_model.specs.State.{followed_by}
use Rattle.cyc_model.specs.Places.{is_being_removed, without_ended}
use Rattle.cyc_types.specs.Reasons.{first_refusal, when, only_if, bad_now}
use Rattle.cyc_model.specs.Refusals.{is_no_cpu}
use Rattle.cyc_model.specs.Add.{cyclic_that_expired, one_admitted}
use Rattle.cyc_model.specs.Omni.{start_on}

abbrev pub is_on_all : Placement → Bool
is_on_all (On n bound) = false
is_on_all (OnAll e) = true

-- the omnipresent cyclics whose removal isn't open
abbrev pub staying_omni : State → List Placed
staying_omni s = filter (λ p. is_on_all p.placement) (filter (λ p. not (is_being_removed p.id s)) s.placed)

abbrev pub is_online_already : ℕ → State → Option Refusal
is_online_already n s = when (cpu_of n s).online Online

-- each of them needs an index
abbrev pub no_room_for_all : Questions → ℕ → ℕ → Cpu → Option Refusal
no_room_for_all q n more c = only_if (must_grow more c) (when (not (q.followed n 0 c)) Expanding)

abbrev pub online_refusal : Questions → ℕ → State → Option Refusal
online_refusal q n s = first_refusal (is_no_cpu n s ∷ is_online_already n s ∷ bad_now s.clock
    ∷ no_room_for_all q n (length (staying_omni s)) (cpu_of n s) ∷ [])

-- the component begins again, with the counts that its earlier stays left on this CPU
abbrev pub again : ℕ → ℕ → Everywhere → Ended → ℕ → CyclicState
again id n e counts now = cyclic_that_expired id e.level e.interval (first (start_on n e) e.interval now) counts.expired
    counts.lost

abbrev pub return_here : (ℕ → ℕ) → ℕ → ℕ → Placement → State → Outcome
return_here indexes n id (On m bound) s = nothing s
return_here indexes n id (OnAll e) s =
    one_admitted (on_number n (place_here n (indexes s.admissions) (again id n e (s.ended id n) s.clock)) (without_ended n id s))

abbrev pub return_of : (ℕ → ℕ) → ℕ → Placed → State → Outcome
return_of indexes n p s = return_here indexes n p.id p.placement s

abbrev pub go_online : Cpu → Cpu
go_online c = record c { online = true }

abbrev pub return_all : (ℕ → ℕ) → ℕ → List Placed → State → Outcome
return_all indexes n ps s = followed_by (on_number n (widen_here n (length ps)) s)
    (λ t. followed_by (each (return_of indexes n) ps t) (on_number n (λ c. nothing_here (go_online c))))

-- the size grows once, for all of them
abbrev pub online : (ℕ → ℕ) → ℕ → ℕ → State → Outcome
online indexes step n s = told (accepted step) (return_all indexes n (staying_omni s) s)
