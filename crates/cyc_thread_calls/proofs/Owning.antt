-- Each id that a run gave is that of a name.
use Rattle.std.proofs.Common.{◌≡◌, ◌∙◌, ℕ, ◌<◌, ◌≤◌, ◌+◌, ◌==◌, inl, inr, List, [], ◌∷◌, ◌++◌, Option, Some, None, Ok}
use Rattle.std.proofs.Common.{Err, refl, sym, ap, arith}
use Rattle.std.specs.Prelude.{true, cond}
use Rattle.std.specs.Option.{option_map_or}
use Rattle.cyc_types.specs.declared.Calls.{Ghosts as Calls}
use Rattle.cyc_types.specs.declared.Raise.{Ghosts as Raise}
use Rattle.cyc_types.specs.declared.level.Level.{Level}
use Rattle.cyc_threads.proofs.Lists.{eq_true, false_ne}
use Rattle.cyc_threads.proofs.Spots.{none_some}
use Rattle.cyc_script.specs.declared.step.Step.{Step}
use Rattle.cyc_script.specs.declared.step.Step.TheVariants as steps
use Rattle.cyc_script.specs.WellFormed.{name_fits, names_after, names_fit, names_after_all}
use Rattle.cyc_system_rings.specs.Leading.{LeadCall}
use Rattle.cyc_system_rings.specs.Rings.{first_ring}
use Rattle.cyc_system_rings.specs.ByLevel.{level_in}
use Rattle.cyc_threads.specs.declared.progress.Progress.{Progress}
use Rattle.cyc_threads.specs.Words.{DoesStep, waits_first}
use Rattle.cyc_threads.specs.Steps.{TakesSteps}
use Rattle.cyc_thread_calls.specs.Leading.{calls_in, begin_calls, call_of, steps_calls}
use Rattle.cyc_thread_calls.specs.Giving.{given_by, given_in, later_id, id_in_steps}
use Rattle.cyc_thread_calls.proofs.Called.{by_word, no_level}
use Rattle.cyc_thread_calls.proofs.Leveled.{level_on, level_later, both_true, begin_none, own_level}

-- ---- numbers of names

more_names : (k : ℕ) (xs : List Step) → k ≤ names_after_all k xs
more_names k [] = omega arith
more_names k (steps.Add a ∷ xs) = let m = more_names (k + 1) xs in omega (arith, m)
more_names k (steps.Omni a ∷ xs) = let m = more_names (k + 1) xs in omega (arith, m)
more_names k (x ∷ xs) = more_names k xs

-- a step gives no id to a name with a smaller number than the next one
not_given : (name k : ℕ) (x : Step) (o : Option LeadCall) → name_fits k x ≡ true → name < k → given_in name x o ≡ None
not_given name k (steps.Add a) o fit low = let is = eq_true a.name k fit in
    ap (λ b. cond b (option_map_or given_by o None) None) (false_ne a.name name (λ e. omega (arith, is, e, low)))
not_given name k (steps.Omni a) o fit low = let is = eq_true a.name k fit in
    ap (λ b. cond b (option_map_or given_by o None) None) (false_ne a.name name (λ e. omega (arith, is, e, low)))
not_given name k x o fit low = refl

names_grow : (k : ℕ) (x : Step) → k ≤ names_after k x
names_grow k (steps.Add a) = omega arith
names_grow k (steps.Omni a) = omega arith
names_grow k x = omega arith

module _ {C R : Type 0} (handler : Calls C) (firing : Raise R) where
  -- no step gives an id to a name that was introduced before
  none_given : (xs : List Step) (name k : ℕ) (s t : Progress R C) (run : TakesSteps handler firing s xs t)
      → names_fit k xs ≡ true → name < k → id_in_steps handler firing name s xs t run ≡ None
  none_given [] name k s t e fit low = refl
  none_given (x ∷ xs) name k s t (u, (v, b, d), rest) fit low =
      let (here, after) = both_true (name_fits k x) (names_fit (names_after k x) xs) fit in
      let grow = names_grow k x in
      ap (λ o. later_id (given_in name x (call_of handler firing x v u d)) o)
      (none_given xs name (names_after k x) u t rest after (omega (arith, low, grow)))
      ∙ not_given name k x (call_of handler firing x v u d) here low

  -- the call that gave an id is that of the step that introduces the next name
  abbrev IsNext : ℕ → ℕ → Step → Option LeadCall → Type 0
  IsNext k id x o = (given_in k x o ≡ Some id) × (names_after k x ≡ k + 1)

  first_some : (o : Option Level) (level : Level) → first_ring o None ≡ Some level → o ≡ Some level
  first_some None level e = e
  first_some (Some l) level e = e

  added_next : (own k given id : ℕ) → (own == k) ≡ true → given ≡ id → cond (own == k) (Some given) None ≡ Some id
  added_next own k given id fit same = ap (λ b. cond b (Some given) None) fit ∙ ap Some same

  does_next : (k id : ℕ) (level : Level) (x : Step) (s t : Progress R C) (d : DoesStep handler firing x s t)
      → name_fits k x ≡ true
      → level_in id (calls_in (call_of handler firing x s t d)) ≡ Some level
      → IsNext k id x (call_of handler firing x s t d)
  does_next k id level (steps.Add a) s t (inl (when, starts, lasts, long, (Ok given, did))) fit e = (
    added_next a.name k given id fit (own_level handler firing given id a.level level (first_some _ level e)),
    refl,
  )
  does_next k id level (steps.Add a) s t (inl (when, starts, lasts, long, (Err why, did))) fit e = absurd (none_some e)
  does_next k id level (steps.Add a) s t (inr nothing) fit e = absurd (none_some e)
  does_next k id level (steps.Omni a) s t (inl (when, starts, lasts, long, (Ok given, did))) fit e = (
    added_next a.name k given id fit (own_level handler firing given id a.level level (first_some _ level e)),
    refl,
  )
  does_next k id level (steps.Omni a) s t (inl (when, starts, lasts, long, (Err why, did))) fit e = absurd (none_some e)
  does_next k id level (steps.Omni a) s t (inr nothing) fit e = absurd (none_some e)
  does_next k id level (steps.Advance now) s t (inl suspended) fit e = absurd (none_some e)
  does_next k id level (steps.Advance now) s t (inr f) fit e = absurd (none_some e)
  does_next k id level (steps.Softint i) s t d fit e = absurd (none_some e)
  does_next k id level x s t d fit e = by_word handler firing s t
      (λ o. level_in id (calls_in o) ≡ Some level → IsNext k id x o) (λ same q. absurd (none_some q)) x tt
      (λ name call is c q. absurd (none_some (sym (ap (λ o. first_ring o None) (no_level x call tt is id)) ∙ q))) d e

  abbrev pub HasName : ℕ → ℕ → (xs : List Step) (s t : Progress R C) → TakesSteps handler firing s xs t → Type 0
  HasName k id xs s t run = (name : ℕ) × (name < names_after_all k xs)
      × (id_in_steps handler firing name s xs t run ≡ Some id)

  pub steps_named : (xs : List Step) (id k : ℕ) (level : Level) (s t : Progress R C)
      (run : TakesSteps handler firing s xs t) → names_fit k xs ≡ true
      → level_in id (steps_calls handler firing s xs t run) ≡ Some level → HasName k id xs s t run
  steps_named [] id k level s t e fit is = absurd (none_some is)
  steps_named (x ∷ xs) id k level s t (u, (v, b, d), rest) fit is =
      by (λ after found. steps_named xs id (names_after k x) level u t rest after found) (level_in id own) refl
      (sym (level_on id (before ++ own) after ∙ ap (λ o. first_ring o (level_in id after))
      (level_later id before own (begin_none handler firing id (waits_first x) s v b))) ∙ is)
    where
      before : List LeadCall
      before = begin_calls firing (waits_first x) s v b

      own : List LeadCall
      own = calls_in (call_of handler firing x v u d)

      after : List LeadCall
      after = steps_calls handler firing u xs t rest

      by : (names_fit (names_after k x) xs ≡ true → level_in id after ≡ Some level → HasName (names_after k x) id xs u t rest)
          → (o : Option Level) → level_in id own ≡ o → first_ring o (level_in id after) ≡ Some level
          → HasName k id (x ∷ xs) s t (u, (v, b, d), rest)
      by later (Some found) here e =
          let (fits, after_fits) = both_true (name_fits k x) (names_fit (names_after k x) xs) fit in
          let (given, next) = does_next k id found x v u d fits here in
          let more = more_names (names_after k x) xs in (
            k,
            omega (arith, next, more),
            ap (λ o. later_id (given_in k x (call_of handler firing x v u d)) o)
                (none_given xs k (names_after k x) u t rest after_fits (omega (arith, next))) ∙ given,
          )
      by later None here e =
          let (fits, after_fits) = both_true (name_fits k x) (names_fit (names_after k x) xs) fit in
          let (name, low, given) = later after_fits e in
          (name, low, ap (λ o. later_id (given_in name x (call_of handler firing x v u d)) o) given)
