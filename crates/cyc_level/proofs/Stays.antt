-- What a run of enabled events says of an id over all its stays.
use Rattle.std.proofs.Common.{◌≡◌, ℕ, ◌+◌, ◌-◌, ◌^◌, ◌<◌, eqb, Bool, true, false, cond, List, [], ◌∷◌, ◌++◌, sym, refl, ap, ◌∙◌}
use Rattle.std.proofs.Common.{subst, arith, eq-eqb, ne_eqb}
use Rattle.std.specs.Prelude.{Option, Some, None, IsSome}
use Rattle.std.specs.Option.{option_map}
use mathlib.Core.Logic.{dite}
use native.Mathlib.Decide.{ℕ_discrete}
use Rattle.cyc_level.specs.declared.Event.{Event}
use Rattle.cyc_level.specs.declared.Event.TheVariants.{Admit, Expire, Lose, Publish, Take, Finish, Mark, Clear, Switch, Follow}
use Rattle.cyc_level.specs.Level.{AdmittedCyclic, Cyclics, SoftLevel, count_in, count, in_hand}
use Rattle.cyc_level.specs.Lawful.{one_if_any, Lawful}
use Rattle.cyc_level.specs.Events.{changed_at, admitted_cyclic, cyclic_after_expire, cyclic_after_lose, cyclic_after_finish}
use Rattle.cyc_level.specs.Events.{after_finish, reached, AllEnabled}
use Rattle.cyc_level.specs.Runs.{
  firing_events,
  expirations_of_id,
  losses,
  StayCounts,
  one_more,
  current_stay,
  stay_list,
  past_stays,
}
use Rattle.cyc_level.specs.Runs.{stay_calls, past_calls, finishes, stay_finishes, past_finishes, AreFinished}
use Rattle.cyc_level.specs.Runs.{IsConservedOverStays}
use Rattle.cyc_level.proofs.Maps.{some_of, some_and, at_cases, hand_here, hand_else}
use Rattle.cyc_level.proofs.Keeps.{always_lawful}

-- a stay in the run is the level's, and so many of its calls are finished
abbrev pub IsStayOf : ℕ → Option StayCounts → Option AdmittedCyclic → Type 0
IsStayOf n None None = Unit {0}
IsStayOf n (Some s) (Some c) = (s.index ≡ c.index) × (s.sent ≡ c.sent) × (s.lost ≡ c.lost) × (c.done ≡ n)
IsStayOf n None (Some c) = ⊥
IsStayOf n (Some s) None = ⊥

expired_stay : (n : ℕ) (o : Option StayCounts) (p : Option AdmittedCyclic) → IsStayOf n o p
    → IsStayOf n (one_more 0 o) (option_map cyclic_after_expire p)
expired_stay n None None h = h
expired_stay n (Some s) None h = h
expired_stay n None (Some c) h = h
expired_stay n (Some s) (Some c) h = let a = h.1 in let b = h.2 in (h.0, omega (arith, a), omega (arith, b), h.3)

lost_stay : (n : ℕ) (o : Option StayCounts) (p : Option AdmittedCyclic) → IsStayOf n o p
    → IsStayOf n (one_more 1 o) (option_map cyclic_after_lose p)
lost_stay n None None h = h
lost_stay n (Some s) None h = h
lost_stay n None (Some c) h = h
lost_stay n (Some s) (Some c) h = let a = h.1 in let b = h.2 in (h.0, omega (arith, a), omega (arith, b), h.3)

finished_stay : (b : Bool) (n : ℕ) (o : Option StayCounts) (p : Option AdmittedCyclic) → IsStayOf n o p
    → IsStayOf (cond b 1 0 + n) o (cond b (option_map cyclic_after_finish p) p)
finished_stay true n None None h = h
finished_stay true n (Some s) None h = h
finished_stay true n None (Some c) h = h
finished_stay true n (Some s) (Some c) h = let a = h.3 in (h.0, h.1, h.2, omega (arith, a))
finished_stay false n None None h = h
finished_stay false n (Some s) None h = h
finished_stay false n None (Some c) h = h
finished_stay false n (Some s) (Some c) h = let a = h.3 in (h.0, h.1, h.2, omega (arith, a))

-- a stay with no call outstanding
done_stay : (n : ℕ) (o : Option StayCounts) (p : Option AdmittedCyclic) → IsStayOf n o p → IsSome p
    → ((c : AdmittedCyclic) → p ≡ Some c → c.sent ≡ c.done + c.count + c.lost) → count_in p ≡ 0
    → (xs : List StayCounts) (ns : List ℕ)
    → AreFinished xs ns → AreFinished (stay_list o ++ xs) (n ∷ ns)
done_stay n o None h on sums z xs ns rest = absurd (cc)
done_stay n None (Some c) h on sums z xs ns rest = absurd h
done_stay n (Some s) (Some c) h on sums z xs ns rest = let a = sums c refl in let x = h.1 in let y = h.2 in let d = h.3 in
    (omega (arith, a, x, y, d, z), rest)

-- the finishes of an id are those of its ended stays and of the present one
abbrev pub IsSplit : ℕ → ℕ → Option AdmittedCyclic → Type 0
IsSplit n past None = n ≡ past
IsSplit n past (Some c) = n ≡ c.done + past

split_admit : (n past index : ℕ) (p : Option AdmittedCyclic) → p ≡ None → IsSplit n past p
    → IsSplit n past (Some (admitted_cyclic index))
split_admit n past index None e h = omega (arith, h)
split_admit n past index (Some c) e h = absurd (cc)

split_expire : (n past : ℕ) (p : Option AdmittedCyclic) → IsSplit n past p → IsSplit n past (option_map cyclic_after_expire p)
split_expire n past None h = h
split_expire n past (Some c) h = h

split_lose : (n past : ℕ) (p : Option AdmittedCyclic) → IsSplit n past p → IsSplit n past (option_map cyclic_after_lose p)
split_lose n past None h = h
split_lose n past (Some c) h = h

split_finish : (b : Bool) (n past : ℕ) (p : Option AdmittedCyclic) → (b ≡ true → IsSome p) → IsSplit n past p
    → IsSplit (cond b 1 0 + n) past (cond b (option_map cyclic_after_finish p) p)
split_finish true n past None on h = let x = on refl in absurd (cc)
split_finish true n past (Some c) on h = omega (arith, h)
split_finish false n past None on h = omega (arith, h)
split_finish false n past (Some c) on h = omega (arith, h)

split_clear : (n past k : ℕ) (o : Option StayCounts) (p : Option AdmittedCyclic) → IsSome p → IsStayOf k o p
    → ((c : AdmittedCyclic) → p ≡ Some c → c.sent ≡ c.done + c.count + c.lost) → count_in p ≡ 0 → IsSplit n past p
    → n ≡ past + stay_calls o
split_clear n past k o None on is sums z h = absurd (cc)
split_clear n past k None (Some c) on is sums z h = absurd is
split_clear n past k (Some s) (Some c) on is sums z h = let a = sums c refl in let x = is.1 in let y = is.2 in
    omega (arith, a, x, y, z, h)

module _ (l : SoftLevel) (law : Lawful l) where
  -- the cyclic in the drainer's hand has a call outstanding
  pub in_hand_outstanding : (a : ℕ) → l.drainer_hand ≡ Some a → 0 < count l a
  in_hand_outstanding a e = let p = law.one_place a in let h : in_hand a l.drainer_hand ≡ 1 = ap (in_hand a) e
      ∙ hand_here a in dite (ℕ_discrete (count l a) 0)
      (λ z. let q : one_if_any (count l a) ≡ 0 = ap one_if_any z in absurd (omega (arith, p, q, h))) (λ ne. omega (arith, ne))

  count_finish : (a : ℕ) → l.drainer_hand ≡ Some a → (id : ℕ)
      → count l id ≡ in_hand id (Some a) + count_in (changed_at l.cyclics a (option_map cyclic_after_finish) id)
  count_finish a e id = at_cases l.cyclics a (option_map cyclic_after_finish) (λ j o. count l j ≡ in_hand j (Some a) + count_in o)
      (let h = hand_here a in let s = in_hand_outstanding a e in lowered (l.cyclics a) (in_hand a (Some a)) h s)
      (λ j ne. let z = hand_else j a ne in omega (arith, z)) id where
        lowered : (o : Option AdmittedCyclic) (n : ℕ) → n ≡ 1 → 0 < count_in o
            → count_in o ≡ n + count_in (option_map cyclic_after_finish o)
        lowered None n h s = absurd (omega (arith, s))
        lowered (Some c) n h s = omega (arith, h, s)

  pub count_after_finish : IsSome l.drainer_hand → (id : ℕ)
      → count l id ≡ in_hand id l.drainer_hand + count (after_finish l.drainer_hand l) id
  count_after_finish on id = let x = some_of l.drainer_hand on in
      subst (λ (h : Option ℕ). count l id ≡ in_hand id h + count (after_finish h l) id) (sym x.1) (count_finish x.0 x.1 id)

some_count : (o : Option AdmittedCyclic) → 0 < count_in o → IsSome o
some_count None h = absurd (omega (arith, h))
some_count (Some c) h = refl

-- what each event of the firing side does to the outstanding calls
module _ (m : Cyclics) where
  count_admit : (a index id : ℕ) → m a ≡ None → count_in (changed_at m a (λ _. Some (admitted_cyclic index)) id) ≡ count_in (m id)
  count_admit a index id e = at_cases m a (λ _. Some (admitted_cyclic index)) (λ j o. count_in o ≡ count_in (m j))
      (sym (ap count_in e)) (λ j _. refl) id

  count_expire : (a id : ℕ) (c : AdmittedCyclic) → m a ≡ Some c
      → count_in (changed_at m a (option_map cyclic_after_expire) id) ≡ in_hand id (Some a) + count_in (m id)
  count_expire a id c e = at_cases m a (option_map cyclic_after_expire) (λ j o. count_in o ≡ in_hand j (Some a) + count_in (m j))
      (let h = hand_here a in let x : count_in (option_map cyclic_after_expire (m a)) ≡ c.count + 1 =
      ap (λ o. count_in (option_map cyclic_after_expire o)) e in let y : count_in (m a) ≡ c.count = ap count_in e in
      omega (arith, h, x, y))
      (λ j ne. let z = hand_else j a ne in omega (arith, z)) id

  same_count : (o : Option AdmittedCyclic) → count_in (option_map cyclic_after_lose o) ≡ count_in o
  same_count None = refl
  same_count (Some c) = refl

  count_lose : (a id : ℕ) → count_in (changed_at m a (option_map cyclic_after_lose) id) ≡ count_in (m id)
  count_lose a id = at_cases m a (option_map cyclic_after_lose) (λ j o. count_in o ≡ count_in (m j)) (same_count (m a))
      (λ j _. refl) id

  count_clear : (a id : ℕ) → count_in (m a) ≡ 0 → count_in (changed_at m a (λ _. None) id) ≡ count_in (m id)
  count_clear a id z = at_cases m a (λ _. None) (λ j o. count_in o ≡ count_in (m j)) (sym z) (λ j _. refl) id

module _ (ceiling id : ℕ) where
  total : (es : List Event) → AllEnabled ceiling es
      → expirations_of_id id es ≡ finishes ceiling id es + count (reached ceiling es) id + losses id es
  total [] on = refl
  total (Admit a index ∷ es) on = let h = total es on.1 in let x = count_admit (reached ceiling es).cyclics a index id on.0.2 in
      omega (arith, h, x)
  total (Expire a ∷ es) on = let h = total es on.1 in let c =
      some_and (λ (c : AdmittedCyclic). (c.count < (reached ceiling es).ceiling) × (c.sent < 2 ^ 64 - 1))
      ((reached ceiling es).cyclics a) on.0.2 in
      let x = count_expire (reached ceiling es).cyclics a id c.0 c.1 in omega (arith, h, x)
  total (Lose a ∷ es) on = let h = total es on.1 in let x = count_lose (reached ceiling es).cyclics a id in omega (arith, h, x)
  total (Publish ∷ es) on = total es on.1
  total (Take ∷ es) on = total es on.1
  total (Finish ∷ es) on = let h = total es on.1 in let x =
      count_after_finish (reached ceiling es) (always_lawful ceiling es on.1) on.0 id in omega (arith, h, x)
  total (Mark a ∷ es) on = total es on.1
  total (Clear a ∷ es) on = let h = total es on.1 in let x = count_clear (reached ceiling es).cyclics a id on.0.2 in
      omega (arith, h, x)
  total (Switch bank ∷ es) on = total es on.1
  total (Follow ∷ es) on = total es on.1

  stay_is : (es : List Event) → AllEnabled ceiling es
      → IsStayOf (stay_finishes ceiling id es) (current_stay id es) ((reached ceiling es).cyclics id)
  stay_is [] on = tt
  stay_is (Admit a index ∷ es) on = let h = stay_is es on.1 in let l : SoftLevel = reached ceiling es in
      elim (eqb id a) as (λ b. IsStayOf (cond b 0 (stay_finishes ceiling id es))
      (cond b (Some record { index = index; sent = 0; lost = 0 }) (current_stay id es))
      (cond b (Some (admitted_cyclic index)) (l.cyclics id)))
      [ true ↦ (refl, refl, refl, refl) | false ↦ h ]
  stay_is (Expire a ∷ es) on = let h = stay_is es on.1 in let l : SoftLevel = reached ceiling es in let n : ℕ =
      stay_finishes ceiling id es in
      elim (eqb id a) as (λ b. IsStayOf n (cond b (one_more 0 (current_stay id es)) (current_stay id es))
      (cond b (option_map cyclic_after_expire (l.cyclics id)) (l.cyclics id)))
      [ true ↦ expired_stay n (current_stay id es) (l.cyclics id) h | false ↦ h ]
  stay_is (Lose a ∷ es) on = let h = stay_is es on.1 in let l : SoftLevel = reached ceiling es in let n : ℕ =
      stay_finishes ceiling id es in
      elim (eqb id a) as (λ b. IsStayOf n (cond b (one_more 1 (current_stay id es)) (current_stay id es))
      (cond b (option_map cyclic_after_lose (l.cyclics id)) (l.cyclics id)))
      [ true ↦ lost_stay n (current_stay id es) (l.cyclics id) h | false ↦ h ]
  stay_is (Publish ∷ es) on = stay_is es on.1
  stay_is (Take ∷ es) on = stay_is es on.1
  stay_is (Finish ∷ es) on = let l : SoftLevel = reached ceiling es in let x = some_of l.drainer_hand on.0 in let n : ℕ =
      stay_finishes ceiling id es in
      subst (λ (h : Option ℕ). IsStayOf (in_hand id h + n) (current_stay id es) ((after_finish h l).cyclics id)) (sym x.1)
      (finished_stay (eqb id x.0) n (current_stay id es) (l.cyclics id) (stay_is es on.1))
  stay_is (Mark a ∷ es) on = stay_is es on.1
  stay_is (Clear a ∷ es) on = let h = stay_is es on.1 in let l : SoftLevel = reached ceiling es in
      elim (eqb id a) as (λ b. IsStayOf (stay_finishes ceiling id es) (cond b None (current_stay id es))
      (cond b None (l.cyclics id))) [ true ↦ tt | false ↦ h ]
  stay_is (Switch bank ∷ es) on = stay_is es on.1
  stay_is (Follow ∷ es) on = stay_is es on.1

  past : (es : List Event) → AllEnabled ceiling es → AreFinished (past_stays id es) (past_finishes ceiling id es)
  past [] on = tt
  past (Admit a index ∷ es) on = past es on.1
  past (Expire a ∷ es) on = past es on.1
  past (Lose a ∷ es) on = past es on.1
  past (Publish ∷ es) on = past es on.1
  past (Take ∷ es) on = past es on.1
  past (Finish ∷ es) on = past es on.1
  past (Mark a ∷ es) on = past es on.1
  past (Clear a ∷ es) on = let l : SoftLevel = reached ceiling es in let law : Lawful l = always_lawful ceiling es on.1 in
      let n : ℕ = stay_finishes ceiling id es in
      let P : Bool → Type 0 = λ b. AreFinished (cond b (stay_list (current_stay id es) ++ past_stays id es) (past_stays id es))
      (cond b (n ∷ past_finishes ceiling id es) (past_finishes ceiling id es)) in dite (ℕ_discrete id a)
      (λ e. subst P (sym (eq-eqb id a e)) (done_stay n (current_stay id es) (l.cyclics id) (stay_is es on.1)
      (subst (λ (j : ℕ). IsSome (l.cyclics j)) (sym e) (law.marked_admitted a on.0.1)) (law.conserved id)
      (ap (λ (j : ℕ). count l j) e ∙ on.0.2) (past_stays id es) (past_finishes ceiling id es) (past es on.1)))
      (λ ne. subst P (sym (ne_eqb id a ne)) (past es on.1))
  past (Switch bank ∷ es) on = past es on.1
  past (Follow ∷ es) on = past es on.1

  pub split_finishes : (es : List Event) → AllEnabled ceiling es
      → IsSplit (finishes ceiling id es) (past_calls id es) ((reached ceiling es).cyclics id)
  split_finishes [] on = refl
  split_finishes (Admit a index ∷ es) on = let h = split_finishes es on.1 in let l : SoftLevel = reached ceiling es in let n : ℕ =
      finishes ceiling id es in
      let P : Bool → Type 0 = λ b. IsSplit n (past_calls id es) (cond b (Some (admitted_cyclic index)) (l.cyclics id)) in
      dite (ℕ_discrete id a)
      (λ e. subst P (sym (eq-eqb id a e)) (split_admit n (past_calls id es) index (l.cyclics id) (ap l.cyclics e ∙ on.0.2) h))
      (λ ne. subst P (sym (ne_eqb id a ne)) h)
  split_finishes (Expire a ∷ es) on = let h = split_finishes es on.1 in let l : SoftLevel = reached ceiling es in let n : ℕ =
      finishes ceiling id es in
      elim (eqb id a) as (λ b. IsSplit n (past_calls id es)
      (cond b (option_map cyclic_after_expire (l.cyclics id)) (l.cyclics id)))
      [ true ↦ split_expire n (past_calls id es) (l.cyclics id) h | false ↦ h ]
  split_finishes (Lose a ∷ es) on = let h = split_finishes es on.1 in let l : SoftLevel = reached ceiling es in let n : ℕ =
      finishes ceiling id es in
      elim (eqb id a) as (λ b. IsSplit n (past_calls id es) (cond b (option_map cyclic_after_lose (l.cyclics id)) (l.cyclics id)))
      [ true ↦ split_lose n (past_calls id es) (l.cyclics id) h | false ↦ h ]
  split_finishes (Publish ∷ es) on = split_finishes es on.1
  split_finishes (Take ∷ es) on = split_finishes es on.1
  split_finishes (Finish
      ∷ es) on = let l : SoftLevel = reached ceiling es in let law : Lawful l = always_lawful ceiling es on.1 in
      let x = some_of l.drainer_hand on.0 in let n : ℕ = finishes ceiling id es in
      subst (λ (h : Option ℕ). IsSplit (in_hand id h + n) (past_calls id es) ((after_finish h l).cyclics id)) (sym x.1)
      (split_finish (eqb id x.0) n (past_calls id es) (l.cyclics id)
      (λ t. dite (ℕ_discrete id x.0) (λ e. some_count (l.cyclics id)
      (subst (λ (j : ℕ). 0 < count l j) (sym e) (in_hand_outstanding l law x.0 x.1)))
      (λ ne. let f : eqb id x.0 ≡ false = ne_eqb id x.0 ne in let y : true ≡ false = sym t ∙ f in absurd (cc)))
      (split_finishes es on.1))
  split_finishes (Mark a ∷ es) on = split_finishes es on.1
  split_finishes (Clear a
      ∷ es) on = let h = split_finishes es on.1 in let l : SoftLevel = reached ceiling es in let law : Lawful l =
      always_lawful ceiling es on.1 in let n : ℕ = finishes ceiling id es in
      let P : Bool → Type 0 = λ b. IsSplit n (cond b (past_calls id es + stay_calls (current_stay id es)) (past_calls id es))
      (cond b None (l.cyclics id)) in dite (ℕ_discrete id a)
      (λ e. subst P (sym (eq-eqb id a e)) (split_clear n (past_calls id es) (stay_finishes ceiling id es) (current_stay id es)
      (l.cyclics id) (subst (λ (j : ℕ). IsSome (l.cyclics j)) (sym e) (law.marked_admitted a on.0.1))
      (stay_is es on.1) (law.conserved id) (ap (λ (j : ℕ). count l j) e ∙ on.0.2) h)) (λ ne. subst P (sym (ne_eqb id a ne)) h)
  split_finishes (Switch bank ∷ es) on = split_finishes es on.1
  split_finishes (Follow ∷ es) on = split_finishes es on.1

  pub over_stays : (es : List Event) → AllEnabled ceiling es → IsConservedOverStays ceiling es id
  over_stays es on = record { total = total es on; ended = past es on }

-- what a run says of the firing side is said by the events of that side
pub expirations_firing : (id : ℕ) (es : List Event) → expirations_of_id id (firing_events es) ≡ expirations_of_id id es
expirations_firing id [] = refl
expirations_firing id (Admit a index ∷ es) = expirations_firing id es
expirations_firing id (Expire a ∷ es) = ap (λ (n : ℕ). cond (eqb id a) 1 0 + n) (expirations_firing id es)
expirations_firing id (Lose a ∷ es) = ap (λ (n : ℕ). cond (eqb id a) 1 0 + n) (expirations_firing id es)
expirations_firing id (Publish ∷ es) = expirations_firing id es
expirations_firing id (Take ∷ es) = expirations_firing id es
expirations_firing id (Finish ∷ es) = expirations_firing id es
expirations_firing id (Mark a ∷ es) = expirations_firing id es
expirations_firing id (Clear a ∷ es) = expirations_firing id es
expirations_firing id (Switch bank ∷ es) = expirations_firing id es
expirations_firing id (Follow ∷ es) = expirations_firing id es

pub losses_firing : (id : ℕ) (es : List Event) → losses id (firing_events es) ≡ losses id es
losses_firing id [] = refl
losses_firing id (Admit a index ∷ es) = losses_firing id es
losses_firing id (Expire a ∷ es) = losses_firing id es
losses_firing id (Lose a ∷ es) = ap (λ (n : ℕ). cond (eqb id a) 1 0 + n) (losses_firing id es)
losses_firing id (Publish ∷ es) = losses_firing id es
losses_firing id (Take ∷ es) = losses_firing id es
losses_firing id (Finish ∷ es) = losses_firing id es
losses_firing id (Mark a ∷ es) = losses_firing id es
losses_firing id (Clear a ∷ es) = losses_firing id es
losses_firing id (Switch bank ∷ es) = losses_firing id es
losses_firing id (Follow ∷ es) = losses_firing id es

pub current_firing : (id : ℕ) (es : List Event) → current_stay id (firing_events es) ≡ current_stay id es
current_firing id [] = refl
current_firing id (Admit a index ∷ es) =
    ap (λ o. cond (eqb id a) (Some record { index = index; sent = 0; lost = 0 }) o) (current_firing id es)
current_firing id (Expire a ∷ es) = ap (λ o. cond (eqb id a) (one_more 0 o) o) (current_firing id es)
current_firing id (Lose a ∷ es) = ap (λ o. cond (eqb id a) (one_more 1 o) o) (current_firing id es)
current_firing id (Publish ∷ es) = current_firing id es
current_firing id (Take ∷ es) = current_firing id es
current_firing id (Finish ∷ es) = current_firing id es
current_firing id (Mark a ∷ es) = current_firing id es
current_firing id (Clear a ∷ es) = ap (λ o. cond (eqb id a) None o) (current_firing id es)
current_firing id (Switch bank ∷ es) = current_firing id es
current_firing id (Follow ∷ es) = current_firing id es

pub past_stays_firing : (id : ℕ) (es : List Event) → past_stays id (firing_events es) ≡ past_stays id es
past_stays_firing id [] = refl
past_stays_firing id (Admit a index ∷ es) = past_stays_firing id es
past_stays_firing id (Expire a ∷ es) = past_stays_firing id es
past_stays_firing id (Lose a ∷ es) = past_stays_firing id es
past_stays_firing id (Publish ∷ es) = past_stays_firing id es
past_stays_firing id (Take ∷ es) = past_stays_firing id es
past_stays_firing id (Finish ∷ es) = past_stays_firing id es
past_stays_firing id (Mark a ∷ es) = past_stays_firing id es
past_stays_firing id (Clear a ∷ es) = λ i. cond (eqb id a) (stay_list (current_firing id es i) ++ past_stays_firing id es i)
    (past_stays_firing id es i)
past_stays_firing id (Switch bank ∷ es) = past_stays_firing id es
past_stays_firing id (Follow ∷ es) = past_stays_firing id es

pub past_calls_firing : (id : ℕ) (es : List Event) → past_calls id (firing_events es) ≡ past_calls id es
past_calls_firing id [] = refl
past_calls_firing id (Admit a index ∷ es) = past_calls_firing id es
past_calls_firing id (Expire a ∷ es) = past_calls_firing id es
past_calls_firing id (Lose a ∷ es) = past_calls_firing id es
past_calls_firing id (Publish ∷ es) = past_calls_firing id es
past_calls_firing id (Take ∷ es) = past_calls_firing id es
past_calls_firing id (Finish ∷ es) = past_calls_firing id es
past_calls_firing id (Mark a ∷ es) = past_calls_firing id es
past_calls_firing id (Clear a ∷ es) = λ i. cond (eqb id a) (past_calls_firing id es i + stay_calls (current_firing id es i))
    (past_calls_firing id es i)
past_calls_firing id (Switch bank ∷ es) = past_calls_firing id es
past_calls_firing id (Follow ∷ es) = past_calls_firing id es
