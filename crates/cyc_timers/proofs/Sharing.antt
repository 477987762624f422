-- What the calls of a fire add up to for each id.
use Rattle.std.proofs.Common.{◌≡◌, ℕ, ◌+◌, ◌<◌, ◌==◌, Bool, true, false, cond, eqb, List, [], ◌∷◌, refl, sym, ap, ◌∙◌, arith}
use Rattle.std.proofs.Common.{length, get_or, filter, map}
use Rattle.std.proofs.lemmas.Bool.Decides.{nat_tests}
use Rattle.std.proofs.lemmas.List.Sums.{sum_by-cons}
use Rattle.cyc_types.specs.Counting.{times}
use Rattle.cyc_types.specs.Series.{due}
use Rattle.cyc_types.specs.Firing.{FiringCall, Admits, Loads, Raises, Marks, Polls, Expands, Looks}
use Rattle.cyc_types.specs.Runs.{raised_by}
use Rattle.cyc_types.specs.declared.level.Level.{Level}
use Rattle.cyc_types.specs.Expirations.{Expiration, expirations, times_of}
use Rattle.cyc_types.specs.Timers.{Timer, HasDistinctIds}
use Rattle.cyc_types.proofs.Laws.{times_expirations}
use Rattle.cyc_timers.specs.Acts.{AreRaises, ids_at, is_at, is_of_level, same_level, timer_of}
use Rattle.cyc_timers.specs.Shares.{share}
use Rattle.cyc_timers.proofs.Making.{found_at}

times_more : (id x : ℕ) (xs : List ℕ) → times id (x ∷ xs) ≡ cond (x == id) 1 0 + times id xs
times_more id x xs = sum_by-cons (λ (c : ℕ). cond (c == id) 1 0) x xs

times_of_more : (id : ℕ) (p : Expiration) (ps : List Expiration) → times_of id (p ∷ ps) ≡ cond (p.id == id) 1 0 + times_of id ps
times_of_more id p ps = sum_by-cons (λ (q : Expiration). cond (q.id == id) 1 0) p ps

-- raises of these ids, in order, raise each id as often as it stands among them
pub raises_add_up : (id : ℕ) (ids : List ℕ) (way : List FiringCall) → AreRaises ids way → raised_by id way ≡ times id ids
raises_add_up id [] [] a = refl
raises_add_up id [] (c ∷ way) a = absurd a
raises_add_up id (x ∷ ids) [] a = absurd a
raises_add_up id (x ∷ ids) (Admits j i ∷ way) a = absurd a.0
raises_add_up id (x ∷ ids) (Loads j i ∷ way) a = absurd a.0
raises_add_up id (x ∷ ids) (Marks j i ∷ way) a = absurd a.0
raises_add_up id (x ∷ ids) (Polls j i ∷ way) a = absurd a.0
raises_add_up id (x ∷ ids) (Expands i ∷ way) a = absurd a.0
raises_add_up id (x ∷ ids) (Looks i ∷ way) a = absurd a.0
raises_add_up id (x ∷ ids) (Raises j i ∷ way) a =
    ap (λ n. cond (eqb id j) 1 0 + n) (raises_add_up id ids way a.1)
    ∙ ap (λ (b : Bool). cond b 1 0 + times id ids) (test id j x a.0) ∙ sym (times_more id x ids)
  where
    test : (id j x : ℕ) → j ≡ x → eqb id j ≡ (x == id)
    test id j x same = grind (arith, nat_tests)

-- one expiration more, which is of the level or not, and of the id or not
one_more : (b c e : Bool) (n : ℕ) → (e ≡ true → b ≡ c) → cond b (cond e 1 0) 0 + cond c n 0 ≡ cond c (cond e 1 0 + n) 0
one_more true true true n h = refl
one_more true true false n h = refl
one_more true false true n h = (let z : true ≡ false = h refl in absurd (cc))
one_more true false false n h = refl
one_more false true true n h = (let z : false ≡ true = h refl in absurd (cc))
one_more false true false n h = refl
one_more false false true n h = refl
one_more false false false n h = refl

kept : (b : Bool) (id : ℕ) (p : Expiration) (ps : List Expiration) →
    times id (map (λ (q : Expiration). q.id) (cond b (p ∷ ps) ps)) ≡ cond b (cond (p.id == id) 1 0) 0 + times id
    (map (λ (q : Expiration). q.id) ps)
kept true id p ps = times_more id p.id (map (λ (q : Expiration). q.id) ps)
kept false id p ps = omega arith

-- of the expirations of a level's cyclics an id has its own where its cyclic is of the level
pub ids_add_up : (id : ℕ) (level : Level) (ts : List Timer) (made : List Expiration)
    → times id (ids_at level ts made) ≡ share level ts made id
ids_add_up id level ts [] = none (is_of_level level (timer_of id ts))
  where
    none : (b : Bool) → times_of id [] ≡ cond b 0 0
    none true = refl
    none false = refl
ids_add_up id level ts (p ∷ made) =
    let a = kept (is_at level ts p) id p (filter (is_at level ts) made) in
    let r = ids_add_up id level ts made in
    let same : (p.id == id) ≡ true → is_at level ts p ≡ is_of_level level (timer_of id ts) =
    λ e. (let q : p.id ≡ id = grind (arith, nat_tests) in ap (λ j. is_of_level level (timer_of j ts)) q) in
    a ∙ ap (λ n. cond (is_at level ts p) (cond (p.id == id) 1 0) 0 + n) r
    ∙ one_more (is_at level ts p) (is_of_level level (timer_of id ts)) (p.id == id) (times_of id made) same
    ∙ ap (λ n. cond (is_of_level level (timer_of id ts)) n 0) (sym (times_of_more id p made))

-- in a whole fire a cyclic's share is what was due of it
pub whole_share : (now : ℕ) (ts : List Timer) (level : Level) (i : ℕ) (d : Timer) → HasDistinctIds ts → i < length ts →
    share level ts (expirations now ts) (get_or ts i d).id ≡ cond (same_level level (get_or ts i d).level)
    (due (get_or ts i d).moment (get_or ts i d).interval now) 0
whole_share now ts level i d distinct low =
    ap (λ o. cond (is_of_level level o) (times_of (get_or ts i d).id (expirations now ts)) 0) (found_at ts i d distinct low)
    ∙ ap (λ n. cond (same_level level (get_or ts i d).level) n 0) (times_expirations now ts i d distinct low)
