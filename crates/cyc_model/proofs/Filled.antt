-- How many cyclics a CPU holds: up to the limit it has room for one more, and an add to one that has as many is refused.
use Rattle.std.proofs.Common.{◌≡◌, ℕ, ◌+◌, ◌<◌, ◌≤◌, List, [], ◌∷◌, length, Bool, true, false, Option, Some, None, refl}
use Rattle.std.proofs.Common.{ap, arith}
use Rattle.std.specs.Prelude.{nat_lt, nat_le, not, int_lt, pos}
use Rattle.std.proofs.lemmas.Bool.Decides.{nat_tests}
use Rattle.cyc_types.specs.Limits.{cyclics as most_cyclics, last_id as greatest_id}
use Rattle.cyc_types.specs.Series.{never}
use Rattle.cyc_types.specs.declared.refusal.Refusal.{Refusal}
use Rattle.cyc_types.specs.declared.refusal.Refusal.TheVariants.{Full, Expanding, IdsSpent, BadNow, BadWhen, BadInterval}
use Rattle.cyc_types.specs.Reasons.{when, or_else, first_refusal, busy, only_if}
use Rattle.cyc_text.specs.Lines.{refused}
use Rattle.cyc_script.specs.declared.step.Add.{Add as AddStep}
use Rattle.cyc_script.specs.declared.step.Step.TheVariants.{Add}
use Rattle.cyc_model.specs.Cpu.{Cpu}
use Rattle.cyc_model.specs.Moving.{must_grow}
use Rattle.cyc_model.specs.Questions.{plain, soft_has_followed}
use Rattle.cyc_model.specs.State.{State, cpu_of}
use Rattle.cyc_model.specs.Places.{destination_of}
use Rattle.cyc_model.specs.Refusals.{no_room, unless}
use Rattle.cyc_model.specs.Add.{add_refusal}
use Rattle.cyc_model.specs.Script.{word, does}

below : (a b : ℕ) → a < b → nat_lt a b ≡ true
below a b less = grind (arith, nat_tests)

not_below : (a b : ℕ) → b ≤ a → nat_lt a b ≡ false
not_below a b high = grind (arith, nat_tests)

not_up_to : (a b : ℕ) → b < a → nat_le a b ≡ false
not_up_to a b high = grind (arith, nat_tests)

-- where nothing is to be waited for, it has room up to the limit
a_cpu_with_fewer_has_room : (n id : ℕ) (c : Cpu) → length c.cyclics < most_cyclics → c.removal ≡ None → soft_has_followed c ≡ true
    → no_room plain n id 1 c ≡ None
a_cpu_with_fewer_has_room n id c few none followed =
    by (nat_lt most_cyclics (length c.cyclics + 1)) (must_grow 1 c) (soft_has_followed c) c.removal
    (not_below most_cyclics (length c.cyclics + 1) (omega (arith, few))) none followed
  where
    by : (full grows up : Bool) (open_ : Option ℕ) → full ≡ false → open_ ≡ None → up ≡ true
        → first_refusal (when full Full ∷ only_if grows (busy open_) ∷ only_if grows (when (not up) Expanding) ∷ []) ≡ None
    by false true true None is closed seen = refl
    by false false up None is closed seen = refl
    by false true false None is closed seen = absurd (cc)
    by true grows up open_ is closed seen = absurd (cc)
    by false grows up (Some open_) is closed seen = absurd (cc)

-- with as many it is full
a_cpu_with_the_most_is_full : (n id : ℕ) (c : Cpu) → most_cyclics ≤ length c.cyclics → no_room plain n id 1 c ≡ Some Full
a_cpu_with_the_most_is_full n id c many =
    ap (λ b. or_else (when b Full) (first_refusal (only_if (must_grow 1 c) (busy c.removal)
    ∷ only_if (must_grow 1 c) (when (not (soft_has_followed c)) Expanding) ∷ [])))
    (below most_cyclics (length c.cyclics + 1) (omega (arith, many)))

-- and an add that is refused for nothing else is refused for that
module _ (a : AddStep) (s : State) (start : int_lt a.start (pos 0) ≡ false) (interval : int_lt a.interval (pos 1) ≡ false)
    (early : s.clock < never) (ids : s.last_id < greatest_id)
    (many : most_cyclics ≤ length (cpu_of (destination_of None s) s).cyclics) where
  no_add_has_room : add_refusal plain a s ≡ Some Full
  no_add_has_room = by (int_lt a.start (pos 0)) (int_lt a.interval (pos 1)) (nat_le never s.clock) (nat_le greatest_id s.last_id)
      (no_room plain (destination_of None s) (s.last_id + 1) 1 (cpu_of (destination_of None s) s))
      start interval (not_up_to never s.clock early) (not_up_to greatest_id s.last_id ids)
      (a_cpu_with_the_most_is_full (destination_of None s) (s.last_id + 1) (cpu_of (destination_of None s) s) many)
    where
      by : (when_ interval_ now spent : Bool) (room : Option Refusal) → when_ ≡ false → interval_ ≡ false → now ≡ false
          → spent ≡ false → room ≡ Some Full
          → first_refusal (when when_ BadWhen ∷ when interval_ BadInterval ∷ when now BadNow ∷ when spent IdsSpent ∷ room ∷ [])
          ≡ Some Full
      by false false false false (Some why) p q r t is = is
      by false false false false None p q r t is = absurd (cc)
      by true interval_ now spent room p q r t is = absurd (cc)
      by false true now spent room p q r t is = absurd (cc)
      by false false true spent room p q r t is = absurd (cc)
      by false false false true room p q r t is = absurd (cc)

  one_more_is_refused : (texts : List (List ℕ)) (indexes : ℕ → ℕ) (step : ℕ)
      → (word plain texts indexes step (Add a) s).line ≡ refused step 5
  one_more_is_refused texts indexes step =
      ap (λ why. (unless why step (Add a) (does plain texts indexes step (Add a)) s).line) no_add_has_room
