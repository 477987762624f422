-- The level with which the calls of a run gave the id of a name is the level of the name in the script.
use Rattle.std.proofs.Common.{◌≡◌, ◌∙◌, ℕ, ◌<◌, ◌≤◌, ◌+◌, ◌==◌, inl, inr, List, [], ◌∷◌, ◌++◌, Option, Some, None, Ok, Err}
use Rattle.std.proofs.Common.{refl, sym, ap, arith}
use Rattle.std.specs.Prelude.{Bool, true, false, cond}
use Rattle.std.specs.List.{FoldsTo}
use Rattle.cyc_types.specs.declared.Calls.{Ghosts as Calls}
use Rattle.cyc_types.specs.declared.Raise.{Ghosts as Raise}
use Rattle.cyc_types.specs.declared.level.Level.{Level}
pub use Rattle.cyc_types.proofs.Facts.{both_true}
use Rattle.cyc_threads.proofs.Lists.{true_eq, eq_true, false_ne}
use Rattle.cyc_threads.proofs.Spots.{same_some, none_some}
use Rattle.cyc_script.specs.declared.step.Step.{Step}
use Rattle.cyc_script.specs.declared.step.Step.TheVariants as steps
use Rattle.cyc_script.specs.WellFormed.{name_fits, names_after, names_fit}
use Rattle.cyc_threads.specs.Calls.{Changes, Add, AddOmni}
use Rattle.cyc_threads.proofs.Pieces.{made_of}
use Rattle.cyc_threads.specs.SystemSide.{SystemSide}
use Rattle.cyc_system_rings.specs.Leading.{LeadCall, Make, FireAll, AskAll}
use Rattle.cyc_system_rings.specs.Rings.{first_ring}
use Rattle.cyc_system_rings.specs.ByLevel.{level_given, level_in}
use Rattle.cyc_system_rings.specs.Events.{AcceptedSteps}
use Rattle.cyc_threads.specs.declared.progress.Progress.{Progress}
use Rattle.cyc_threads.specs.StepCalls.{Poll}
use Rattle.cyc_threads.specs.Words.{DoesStep, Begins, waits_first}
use Rattle.cyc_threads.specs.Steps.{TakesSteps}
use Rattle.cyc_thread_calls.specs.Leading.{calls_in, poll_calls, begin_calls, call_of, steps_calls}
use Rattle.cyc_thread_calls.specs.Giving.{given_in, later_id, id_in_steps}
use Rattle.cyc_thread_calls.specs.Levels.{level_by, level_named}
use Rattle.cyc_thread_calls.proofs.Going.{step_goes, steps_go}

-- ---- the levels that calls give

pub level_on : (id : ℕ) (xs ys : List LeadCall) → level_in id (xs ++ ys) ≡ first_ring (level_in id xs) (level_in id ys)
level_on id [] ys = refl
level_on id (x ∷ xs) ys = ap (first_ring (level_given id x)) (level_on id xs ys)
    ∙ by (level_given id x) (level_in id xs) (level_in id ys)
  where
    by : (a b c : Option Level) → first_ring a (first_ring b c) ≡ first_ring (first_ring a b) c
    by None b c = refl
    by (Some r) b c = refl

pub level_kept : (id : ℕ) (xs ys : List LeadCall) (level : Level) → level_in id xs ≡ Some level
    → level_in id (xs ++ ys) ≡ Some level
level_kept id xs ys level e = level_on id xs ys ∙ ap (λ o. first_ring o (level_in id ys)) e

pub level_later : (id : ℕ) (xs ys : List LeadCall) → level_in id xs ≡ None → level_in id (xs ++ ys) ≡ level_in id ys
level_later id xs ys e = level_on id xs ys ∙ ap (λ o. first_ring o (level_in id ys)) e

polls_none : (id : ℕ) (polls : List Poll) → level_in id (poll_calls polls) ≡ None
polls_none id [] = refl
polls_none id (p ∷ polls) = polls_none id polls

pub not_some : (o : Option Level) → ((level : Level) → o ≡ Some level → ⊥) → o ≡ None
not_some None no_one = refl
not_some (Some level) no_one = absurd (no_one level refl)

-- ---- the level of a name in a script

-- a name that comes later has a greater number
named_before : (name k : ℕ) (xs : List Step) → names_fit k xs ≡ true → name < k → level_named name xs ≡ None
named_before name k [] fit low = refl
named_before name k (steps.Add a ∷ xs) fit low = let (own, rest) = both_true (a.name == k) (names_fit (k + 1) xs) fit in
    let is = eq_true a.name k own in
    ap (λ b. first_ring (cond b (Some a.level) None) (level_named name xs)) (false_ne a.name name (λ e. omega (
      arith,
      is,
      e,
      low,
    )))
    ∙ named_before name (k + 1) xs rest (omega (arith, low))
named_before name k (steps.Omni a ∷ xs) fit low = let (own, rest) = both_true (a.name == k) (names_fit (k + 1) xs) fit in
    let is = eq_true a.name k own in
    ap (λ b. first_ring (cond b (Some a.level) None) (level_named name xs)) (false_ne a.name name (λ e. omega (
      arith,
      is,
      e,
      low,
    )))
    ∙ named_before name (k + 1) xs rest (omega (arith, low))
named_before name k (x ∷ xs) fit low = named_before name k xs (both_true (name_fits k x) (names_fit k xs) fit).1 low

-- one that is introduced later was not introduced yet
named_once : (name k : ℕ) (x : Step) (xs : List Step) (level : Level) → names_fit k (x ∷ xs) ≡ true
    → level_named name xs ≡ Some level
    → level_by name x ≡ None
named_once name k (steps.Add a) xs level fit later = not_some _ (λ own e. by own (a.name == name) refl e)
  where
    by : (own : Level) (b : Bool) → (a.name == name) ≡ b → cond b (Some a.level) None ≡ Some own → ⊥
    by own true is e = (let (p, q) = both_true (a.name == k) (names_fit (k + 1) xs) fit in
        let m = eq_true a.name k p in let n = eq_true a.name name is in
        none_some (sym (named_before name (k + 1) xs q (omega (arith, m, n))) ∙ later))
    by own false is e = none_some e
named_once name k (steps.Omni a) xs level fit later = not_some _ (λ own e. by own (a.name == name) refl e)
  where
    by : (own : Level) (b : Bool) → (a.name == name) ≡ b → cond b (Some a.level) None ≡ Some own → ⊥
    by own true is e = (let (p, q) = both_true (a.name == k) (names_fit (k + 1) xs) fit in
        let m = eq_true a.name k p in let n = eq_true a.name name is in
        none_some (sym (named_before name (k + 1) xs q (omega (arith, m, n))) ∙ later))
    by own false is e = none_some e
named_once name k x xs level fit later = refl

-- ---- the ids that calls give

module _ {C R : Type 0} (handler : Calls C) (firing : Raise R) where
  abbrev D : SystemSide R C → LeadCall → SystemSide R C → Type 0
  D = AcceptedSteps handler firing

  one_grows : (s t : SystemSide R C) (call : LeadCall) → D s call t → s.system.last ≤ t.system.last
  one_grows s t (Make call) d = (made_of firing s.system t.system call d.0.0).last
  one_grows s t (FireAll now) (after, f, accepted, is, sound) = let a = ap (λ (x : SystemSide R C). x.system.last) is in
      let b = f.last in omega (arith, a, b)
  one_grows s t AskAll d = let a = d.0.last in omega (arith, a)

  all_grow : (way : List LeadCall) (s t : SystemSide R C) → FoldsTo D s way t → s.system.last ≤ t.system.last
  all_grow [] s t e = let a = ap (λ (x : SystemSide R C). x.system.last) e in omega (arith, a)
  all_grow (call ∷ way) s t (u, d, rest) = let a = one_grows s u call d in let b = all_grow way u t rest in omega (arith, a, b)

  pub own_level : (own id : ℕ) (level found : Level) → cond (own == id) (Some level) None ≡ Some found → own ≡ id
  own_level own id level found e = by (own == id) refl e
    where
      by : (b : Bool) → (own == id) ≡ b → cond b (Some level) None ≡ Some found → own ≡ id
      by true is e = eq_true own id is
      by false is e = absurd (none_some e)

  one_given : (s t : SystemSide R C) (call : LeadCall) (id : ℕ) (found : Level) → D s call t → level_given id call ≡ Some found
      → (s.system.last < id) × (id ≤ t.system.last)
  one_given s t (Make (Add level when now (Ok own))) id found ((d, leads), sound) e = by d
    where
      by : Changes firing s.system (Add level when now (Ok own)) t.system → (s.system.last < id) × (id ≤ t.system.last)
      by (inl (why, first, is, same)) = absurd (let odd : Ok own ≡ Err why = is in cc)
      by (inr (clear, (spot, chosen, next, works, records, last))) = let same = own_level own id level found e in
          (omega (arith, next, same), omega (arith, last, same))
  one_given s t (Make (AddOmni level when skew now (Ok own))) id found ((d, leads), sound) e = by d
    where
      by : Changes firing s.system (AddOmni level when skew now (Ok own)) t.system
          → (s.system.last < id) × (id ≤ t.system.last)
      by (inl (why, first, is, same)) = absurd (let odd : Ok own ≡ Err why = is in cc)
      by (inr (clear, (next, works, records, last))) = let same = own_level own id level found e in
          (omega (arith, next, same), omega (arith, last, same))
  one_given s t call id found d e = absurd (none_some e)

  -- an id that a run gave is above those before it, and not above those after it
  given_within : (way : List LeadCall) (s t : SystemSide R C) (id : ℕ) (found : Level) → FoldsTo D s way t
      → level_in id way ≡ Some found
      → (s.system.last < id) × (id ≤ t.system.last)
  given_within [] s t id found e is = absurd (none_some is)
  given_within (call ∷ way) s t id found (u, d, rest) is =
      by (λ e. given_within way u t id found rest e) (level_given id call) refl is
    where
      by : (level_in id way ≡ Some found → (u.system.last < id) × (id ≤ t.system.last)) → (o : Option Level)
          → level_given id call ≡ o → first_ring o (level_in id way) ≡ Some found
          → (s.system.last < id) × (id ≤ t.system.last)
      by later (Some level) here e = let (a, b) = one_given s u call id level d here in let c = all_grow way u t rest in
          (a, omega (arith, b, c))
      by later None here e = let (a, b) = later e in let c = one_grows s u call d in (omega (arith, a, c), b)

  -- ---- steps

  pub begin_none : (id : ℕ) (b : Bool) (s t : Progress R C) (w : Begins firing b s t)
      → level_in id (begin_calls firing b s t w) ≡ None
  begin_none id false s t w = refl
  begin_none id true s t (polls, u, run, settles) = level_on id (poll_calls polls) (AskAll ∷ [])
      ∙ ap (λ o. first_ring o None) (polls_none id polls)

  -- the step that gave a name its id has its level
  abbrev HasLevel : ℕ → ℕ → Step → List LeadCall → Type 0
  HasLevel name id x way = (level : Level) × (level_in id way ≡ Some level) × (level_by name x ≡ Some level)

  added_level : (name own id : ℕ) (level : Level) (given : ℕ) → cond (own == name) (Some given) None ≡ Some id
      → (given ≡ id) × (cond (own == name) (Some level) None ≡ Some level)
  added_level name own id level given e = by (own == name) e
    where
      by : (b : Bool) → cond b (Some given) None ≡ Some id → (given ≡ id) × (cond b (Some level) None ≡ Some level)
      by true e = (same_some e, refl)
      by false e = absurd (none_some e)

  none_added : (b : Bool) (id : ℕ) → cond b None None ≡ Some id → ⊥
  none_added true id e = none_some e
  none_added false id e = none_some e

  does_level : (name id : ℕ) (x : Step) (s t : Progress R C) (d : DoesStep handler firing x s t)
      → given_in name x (call_of handler firing x s t d) ≡ Some id
      → HasLevel name id x (calls_in (call_of handler firing x s t d))
  does_level name id (steps.Add a) s t (inl (when, starts, lasts, long, (Ok given, did))) e =
      let (same, level) = added_level name a.name id a.level given e in
      (a.level, ap (λ b. first_ring (cond b (Some a.level) None) None) (true_eq given id same), level)
  does_level name id (steps.Add a) s t (inl (when, starts, lasts, long, (Err why, did))) e =
      absurd (none_added (a.name == name) id e)
  does_level name id (steps.Add a) s t (inr nothing) e = absurd (none_added (a.name == name) id e)
  does_level name id (steps.Omni a) s t (inl (when, starts, lasts, long, (Ok given, did))) e =
      let (same, level) = added_level name a.name id a.level given e in
      (a.level, ap (λ b. first_ring (cond b (Some a.level) None) None) (true_eq given id same), level)
  does_level name id (steps.Omni a) s t (inl (when, starts, lasts, long, (Err why, did))) e =
      absurd (none_added (a.name == name) id e)
  does_level name id (steps.Omni a) s t (inr nothing) e = absurd (none_added (a.name == name) id e)
  does_level name id x s t d e = absurd (none_some e)

  abbrev SameLevel : ℕ → ℕ → List Step → List LeadCall → Type 0
  SameLevel name id xs way = (level : Level) × (level_in id way ≡ Some level) × (level_named name xs ≡ Some level)

  pub steps_level : (xs : List Step) (name id k : ℕ) (s t : Progress R C)
      (run : TakesSteps handler firing s xs t) → names_fit k xs ≡ true
      → id_in_steps handler firing name s xs t run ≡ Some id
      → SameLevel name id xs (steps_calls handler firing s xs t run)
  steps_level [] name id k s t e fit is = absurd (none_some is)
  steps_level (x ∷ xs) name id k s t (u, (v, b, d), rest) fit is =
      by (λ fits given. steps_level xs name id (names_after k x) u t rest fits given)
      (id_in_steps handler firing name u xs t rest) refl is
    where
      before : List LeadCall
      before = begin_calls firing (waits_first x) s v b

      own : List LeadCall
      own = calls_in (call_of handler firing x v u d)

      after : List LeadCall
      after = steps_calls handler firing u xs t rest

      by : (names_fit (names_after k x) xs ≡ true → id_in_steps handler firing name u xs t rest ≡ Some id
          → SameLevel name id xs after) → (o : Option ℕ)
          → id_in_steps handler firing name u xs t rest ≡ o
          → later_id (given_in name x (call_of handler firing x v u d)) o ≡ Some id
          → SameLevel name id (x ∷ xs) ((before ++ own) ++ after)
      by later (Some found) there e =
          let (level, there_in, there_named) = later (both_true (name_fits k x) (names_fit (names_after k x) xs) fit).1
          (there ∙ e) in
          let high = (given_within after u.side t.side id level
          (steps_go handler firing u xs t rest) there_in).0 in
          let none = not_some (level_in id (before ++ own)) (λ early at.
          (let low = (given_within (before ++ own) s.side u.side id early
          (step_goes handler firing s x u (v, b, d)) at).1 in omega (arith, high, low))) in (
            level,
            level_later id (before ++ own) after none ∙ there_in,
            ap (λ o. first_ring o (level_named name xs)) (named_once name k x xs level fit there_named) ∙ there_named,
          )
      by later None there e =
          let (level, here_in, here_by) = does_level name id x v u d e in (
            level,
            level_kept id (before ++ own) after level
                (level_later id before own (begin_none id (waits_first x) s v b) ∙ here_in),
            ap (λ o. first_ring o (level_named name xs)) here_by,
          )
