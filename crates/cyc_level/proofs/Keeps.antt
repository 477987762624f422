-- Each enabled event leads from a lawful level to a lawful level.
use Rattle.std.proofs.Common.{◌≡◌, ℕ, zero, suc, ◌+◌, ◌-◌, ◌^◌, ◌<◌, ◌≤◌, ◌≢◌, eqb, Bool, true, false, cond, List, [], ◌∷◌, ◌++◌}
use Rattle.std.proofs.Common.{sym, refl, ap, ◌∙◌, subst, inl, inr, ⊎_elim, ◌⊎◌, pow_mono, arith}
use Rattle.std.specs.Prelude.{Option, Some, None, IsSome}
use Rattle.cyc_level.specs.declared.Event.{Event}
use Rattle.cyc_level.specs.declared.Event.TheVariants.{Admit, Expire, Lose, Publish, Take, Finish, Mark, Clear, Switch, Follow}
use Rattle.std.specs.Option.{option_map}
use Rattle.cyc_level.specs.Level.{AdmittedCyclic, Cyclics, SoftLevel, empty_level, bank_size, count_in, count, soft_list}
use Rattle.cyc_level.specs.Level.{times_in, in_hand}
use Rattle.cyc_level.specs.Level.{place_count}
use Rattle.cyc_level.specs.Lawful.{IsId, one_if_any, Lawful}
use Rattle.cyc_level.specs.Events.{changed_at, admitted_cyclic, cyclic_after_expire, cyclic_after_lose, cyclic_after_finish}
use Rattle.cyc_level.specs.Events.{first_of, rest_of, as_list, hand_after_expire, hand_after_finish, after_finish, Enabled, after}
use Rattle.cyc_level.specs.Events.{reached, AllEnabled}
use Rattle.cyc_level.proofs.Maps.{some_same, some_of, some_and, at_cases, from_old, hand_here, hand_else, times_append}

pub empty_lawful : (ceiling : ℕ) → Lawful (empty_level ceiling)
empty_lawful ceiling = record {
  conserved = λ id c e. absurd (cc);
  below_ceiling = λ id c e. absurd (cc);
  one_place = λ id. refl;
  distinct_indexes = λ a b c d e _ _. absurd (cc);
  in_hard_bank = λ id c e. absurd (cc);
  in_soft_bank = λ id c e _. absurd (cc);
  soft_behind = omega arith;
  old_empty = λ _. refl;
  bank_bound = omega arith;
  marked_admitted = λ id e. absurd (cc);
  ids = λ id c e. absurd (cc);
}

pub once_pos : (n : ℕ) → 0 < n → one_if_any n ≡ 1
once_pos zero h = absurd (omega arith)
once_pos (suc n) h = refl

pub once_le : (n : ℕ) → one_if_any n ≤ 1
once_le zero = omega arith
once_le (suc n) = omega arith

pub once_zero : (n : ℕ) → one_if_any n ≡ 0 → n ≡ 0
once_zero zero h = refl
once_zero (suc n) h = absurd (omega arith)

pub raised_here : (id n : ℕ) (h : Option ℕ) → h ≡ None → in_hand id (hand_after_expire n id h) + one_if_any n ≡ 1
raised_here id zero h e = let a = hand_here id in omega (arith, a)
raised_here id (suc n) h e = ap (λ o. in_hand id o + 1) e

pub raised_else : (j id n : ℕ) (h : Option ℕ) → j ≢ id → h ≡ None → in_hand j (hand_after_expire n id h) ≡ 0
raised_else j id zero h ne e = hand_else j id ne
raised_else j id (suc n) h ne e = ap (in_hand j) e

pub laid_here : (id n : ℕ) → 0 < n → in_hand id (hand_after_finish n (Some id)) ≡ one_if_any (n - 1)
laid_here id zero h = absurd (omega arith)
laid_here id (suc zero) h = refl
laid_here id (suc (suc n)) h = hand_here id ∙ sym (once_pos (suc (suc n) - 1) (omega arith))

pub laid_else : (j id n : ℕ) → j ≢ id → in_hand j (hand_after_finish n (Some id)) ≡ 0
laid_else j id zero ne = refl
laid_else j id (suc zero) ne = refl
laid_else j id (suc (suc n)) ne = hand_else j id ne

first_and_rest : (j : ℕ) (xs : List ℕ) → times_in j xs ≡ in_hand j (first_of xs) + times_in j (rest_of xs)
first_and_rest j [] = refl
first_and_rest j (x ∷ xs) = refl

pub take_sum : (b : Bool) (old new : List ℕ) (j : ℕ)
    → times_in j (cond b old (rest_of old)) + times_in j (cond b (rest_of new) new) + in_hand j (first_of (cond b new old))
    ≡ times_in j old + times_in j new
take_sum true old new j = let h = first_and_rest j new in omega (arith, h)
take_sum false old new j = let h = first_and_rest j old in omega (arith, h)

take_less : (b : Bool) (old : List ℕ) (j : ℕ) → times_in j (cond b old (rest_of old)) ≤ times_in j old
take_less true old j = omega arith
take_less false old j = let h = first_and_rest j old in omega (arith, h)

pub nothing_taken : (b : Bool) → cond {A = List ℕ} b [] [] ≡ []
nothing_taken true = refl
nothing_taken false = refl

pub changed_all : (f : AdmittedCyclic → AdmittedCyclic) (P Q : AdmittedCyclic → Type 0) → ((c : AdmittedCyclic) → P c → Q (f c))
    → (o : Option AdmittedCyclic)
    → ((c : AdmittedCyclic) → o ≡ Some c → P c) → (d : AdmittedCyclic) → option_map f o ≡ Some d → Q d
changed_all f P Q g None h d e = absurd (cc)
changed_all f P Q g (Some c) h d e = subst Q (some_same (f c) d e) (g c (h c refl))

still_some : (f : AdmittedCyclic → AdmittedCyclic) (o : Option AdmittedCyclic) → IsSome o → IsSome (option_map f o)
still_some f None h = h
still_some f (Some c) h = refl

cleared_old : (m : Cyclics) (id j : ℕ) (d : AdmittedCyclic) → changed_at m id (λ _. None) j ≡ Some d → (j ≢ id) × (m j ≡ Some d)
cleared_old m id j d e = at_cases m id (λ _. None) (λ k o. o ≡ Some d → (k ≢ id) × (m k ≡ Some d)) (λ n. absurd (cc))
    (λ k ne h. (ne, h)) j e

pub listed_times : (j : ℕ) (h : Option ℕ) → times_in j (as_list h) ≡ in_hand j h
listed_times j None = refl
listed_times j (Some x) = omega arith

pub called_count : (o : Option AdmittedCyclic)
    → one_if_any (count_in o - 1) ≡ one_if_any (count_in (option_map cyclic_after_finish o))
called_count None = refl
called_count (Some c) = refl

module _ (l : SoftLevel) (law : Lawful l) where
  -- one cyclic's numbers change, and perhaps the hands
  renumbered : (f : AdmittedCyclic → AdmittedCyclic) (id : ℕ) (firer drainer : Option ℕ)
      → ((c : AdmittedCyclic) → c.index ≡ (f c).index)
      → ((c : AdmittedCyclic) → l.cyclics id ≡ Some c → ((f c).sent ≡ (f c).done + (f c).count + (f c).lost)
      × ((f c).count ≤ l.ceiling))
      → (in_hand id firer + times_in id l.old_list + times_in id l.new_list + in_hand id drainer
      ≡ one_if_any (count_in (option_map f (l.cyclics id))))
      → ((j : ℕ) → j ≢ id → in_hand j firer + in_hand j drainer ≡ in_hand j l.firer_hand + in_hand j l.drainer_hand)
      → Lawful (record l { cyclics = changed_at l.cyclics id (option_map f); firer_hand = firer; drainer_hand = drainer })
  renumbered f id firer drainer same numbers here there = record {
    conserved = at_cases l.cyclics id (option_map f) (λ j o. (c : AdmittedCyclic) → o ≡ Some c
        → c.sent ≡ c.done + c.count + c.lost)
        (changed_all f (λ c. l.cyclics id ≡ Some c) (λ c. c.sent ≡ c.done + c.count + c.lost) (λ c e. (numbers c e).0)
        (l.cyclics id) (λ c e. e)) (λ j _. law.conserved j);
    below_ceiling = at_cases l.cyclics id (option_map f) (λ j o. (c : AdmittedCyclic) → o ≡ Some c → c.count ≤ l.ceiling)
        (changed_all f (λ c. l.cyclics id ≡ Some c) (λ c. c.count ≤ l.ceiling) (λ c e. (numbers c e).1) (l.cyclics id) (λ c e. e))
        (λ j _. law.below_ceiling j);
    one_place = at_cases l.cyclics id (option_map f)
        (λ j o. in_hand j firer + times_in j l.old_list + times_in j l.new_list + in_hand j drainer ≡ one_if_any (count_in o))
        here
        (λ j ne. let a = there j ne in let b = law.one_place j in omega (arith, a, b));
    distinct_indexes = λ a b c d ea eb e. let x = from_old l.cyclics id f same a c ea in let y =
        from_old l.cyclics id f same b d eb in law.distinct_indexes a b x.0 y.0 x.1 y.1 (x.2 ∙ (e ∙ sym y.2));
    in_hard_bank = λ j d e. let x = from_old l.cyclics id f same j d e in
        subst (λ (n : ℕ). n < bank_size l.hard_bank) x.2 (law.in_hard_bank j x.0 x.1);
    in_soft_bank = λ j d e t. let x = from_old l.cyclics id f same j d e in
        subst (λ (n : ℕ). n < bank_size l.soft_bank) x.2 (law.in_soft_bank j x.0 x.1 t);
    soft_behind = law.soft_behind;
    bank_bound = law.bank_bound;
    marked_admitted = λ j e. at_cases l.cyclics id (option_map f) (λ j o. l.marked ≡ Some j → IsSome o)
        (λ h. still_some f (l.cyclics id) (law.marked_admitted id h)) (λ j _. law.marked_admitted j) j e;
    ids = λ j d e. let x = from_old l.cyclics id f same j d e in law.ids j x.0 x.1;
    old_empty = law.old_empty;
  }

  -- the same cyclics, in other places
  moved : (firer drainer : Option ℕ) (old new : List ℕ)
      → ((j : ℕ) → in_hand j firer + times_in j old + times_in j new + in_hand j drainer ≡ place_count l j)
      → ((j : ℕ) → times_in j old ≤ times_in j l.old_list) → (l.hard_bank ≡ l.soft_bank → old ≡ [])
      → Lawful (record l { firer_hand = firer; old_list = old; new_list = new; drainer_hand = drainer })
  moved firer drainer old new sums less none = record {
    conserved = law.conserved;
    below_ceiling = law.below_ceiling;
    one_place = λ j. sums j ∙ law.one_place j;
    distinct_indexes = law.distinct_indexes;
    in_hard_bank = law.in_hard_bank;
    in_soft_bank = λ j d e t. let h = less j in law.in_soft_bank j d e (omega (arith, h, t));
    soft_behind = law.soft_behind;
    bank_bound = law.bank_bound;
    marked_admitted = law.marked_admitted;
    ids = law.ids;
    old_empty = none;
  }

  admits : (id index : ℕ) → Enabled (Admit id index) l → Lawful (after (Admit id index) l)
  admits id index on = let c0 : AdmittedCyclic = admitted_cyclic index in let f : Option AdmittedCyclic
      → Option AdmittedCyclic = λ _. Some c0 in
      let fresh : (j : ℕ) (d : AdmittedCyclic) → changed_at l.cyclics id f j ≡ Some d → ((j ≡ id) × (c0 ≡ d))
      ⊎ ((j ≢ id) × (l.cyclics j ≡ Some d)) =
      λ j d e. at_cases l.cyclics id f (λ k o. o ≡ Some d → ((k ≡ id) × (c0 ≡ d)) ⊎ ((k ≢ id) × (l.cyclics k ≡ Some d)))
      (λ h. inl (refl, some_same c0 d h)) (λ k ne h. inr (ne, h)) j e in record {
        conserved = λ j d e. ⊎_elim (λ t. subst (λ (c : AdmittedCyclic). c.sent ≡ c.done + c.count + c.lost) t.1 refl)
            (λ t. law.conserved j d t.1) (fresh j d e);
        below_ceiling = λ j d e. ⊎_elim (λ t. subst (λ (c : AdmittedCyclic). c.count ≤ l.ceiling) t.1 (omega arith))
            (λ t. law.below_ceiling j d t.1) (fresh j d e);
        one_place = at_cases l.cyclics id f (λ j o. place_count l j ≡ one_if_any (count_in o)) (law.one_place id
            ∙ ap (λ o. one_if_any (count_in o)) on.2) (λ j _. law.one_place j);
        distinct_indexes = λ a b c d ea eb e. ⊎_elim
            (λ s. ⊎_elim (λ t. s.0 ∙ sym t.0)
            (λ t. absurd (on.3 b d t.1 (sym e ∙ ap (λ (x : AdmittedCyclic). x.index) (sym s.1))))
            (fresh b d eb))
            (λ s. ⊎_elim (λ t. absurd (on.3 a c s.1 (e ∙ ap (λ (x : AdmittedCyclic). x.index) (sym t.1))))
            (λ t. law.distinct_indexes a b c d s.1 t.1 e) (fresh b d eb)) (fresh a c ea);
        in_hard_bank = λ j d e. ⊎_elim (λ t. subst (λ (c : AdmittedCyclic). c.index < bank_size l.hard_bank) t.1 on.4)
            (λ t. law.in_hard_bank j d t.1) (fresh j d e);
        in_soft_bank = λ j d e t. ⊎_elim (λ s. let none : count l id ≡ 0 = ap count_in on.2 in let p : place_count l id ≡ 0 =
            law.one_place id ∙ ap one_if_any none in
            let here : 0 < times_in id l.old_list = subst (λ (k : ℕ). 0 < times_in k l.old_list) s.0 t in
            absurd (omega (arith, p, here))) (λ s. law.in_soft_bank j d s.1 t) (fresh j d e);
        soft_behind = law.soft_behind;
        bank_bound = law.bank_bound;
        marked_admitted = λ j e. at_cases l.cyclics id f (λ j o. l.marked ≡ Some j → IsSome o) (λ h. refl)
            (λ j _. law.marked_admitted j) j e;
        ids = λ j d e. ⊎_elim (λ t. subst IsId (sym t.0) on.1) (λ t. law.ids j d t.1) (fresh j d e);
        old_empty = law.old_empty;
      }

  expires : (id : ℕ) → Enabled (Expire id) l → Lawful (after (Expire id) l)
  expires id on = let x = some_and (λ (c : AdmittedCyclic). (c.count < l.ceiling) × (c.sent < 2 ^ 64 - 1)) (l.cyclics id) on.2 in
      let c : AdmittedCyclic = x.0 in let is : l.cyclics id ≡ Some c = x.1 in let n : ℕ = count l id in let hand : Option ℕ =
      hand_after_expire n id l.firer_hand in
      let is_n : n ≡ c.count = ap count_in is in let empty : in_hand id l.firer_hand ≡ 0 = ap (in_hand id) on.0 in
      renumbered cyclic_after_expire id hand l.drainer_hand (λ d. refl)
      (λ d e. let same : c ≡ d = some_same c d (sym is ∙ e) in let sums = law.conserved id d e in let less : d.count < l.ceiling =
      subst (λ (x : AdmittedCyclic). x.count < l.ceiling) same x.2.0 in (omega (arith, sums), omega (arith, less)))
      (let p = law.one_place id in let r = raised_here id n l.firer_hand on.0 in
      let q : in_hand id hand + times_in id l.old_list + times_in id l.new_list + in_hand id l.drainer_hand ≡ 1 =
      omega (arith, p, r, empty) in
      q ∙ (sym (once_pos (c.count + 1) (omega arith))
      ∙ ap (λ o. one_if_any (count_in (option_map cyclic_after_expire o))) (sym is)))
      (λ j ne. let a = raised_else j id n l.firer_hand ne on.0 in let b : in_hand j l.firer_hand ≡ 0 = ap (in_hand j) on.0 in
      omega (arith, a, b))

  loses : (id : ℕ) → Enabled (Lose id) l → Lawful (after (Lose id) l)
  loses id on = let x = some_and (λ (c : AdmittedCyclic). (c.count ≡ l.ceiling) × (c.sent < 2 ^ 64 - 1)) (l.cyclics id) on.2 in
      let c : AdmittedCyclic = x.0 in let is : l.cyclics id ≡ Some c = x.1 in
      renumbered cyclic_after_lose id l.firer_hand l.drainer_hand (λ d. refl)
      (λ d e. let sums = law.conserved id d e in (omega (arith, sums), law.below_ceiling id d e))
      (law.one_place id ∙ (ap (λ o. one_if_any (count_in o)) is
      ∙ ap (λ o. one_if_any (count_in (option_map cyclic_after_lose o))) (sym is))) (λ j _. refl)

  publishes : Enabled Publish l → Lawful (after Publish l)
  publishes on = moved None l.drainer_hand l.old_list (l.new_list ++ as_list l.firer_hand)
      (λ j. let a = times_append j l.new_list (as_list l.firer_hand) in let b = listed_times j l.firer_hand in
      omega (arith, a, b)) (λ j. omega arith) law.old_empty

  takes : Enabled Take l → Lawful (after Take l)
  takes on = let b : Bool = eqb l.hard_bank l.soft_bank in
      moved l.firer_hand (first_of (soft_list l)) (cond b l.old_list (rest_of l.old_list))
      (cond b (rest_of l.new_list) l.new_list)
      (λ j. let s = take_sum b l.old_list l.new_list j in let e : in_hand j l.drainer_hand ≡ 0 = ap (in_hand j) on.0 in
      omega (arith, s, e)) (take_less b l.old_list)
      (λ same. ap (λ o. cond b o (rest_of o)) (law.old_empty same) ∙ nothing_taken b)

  finishes : Enabled Finish l → Lawful (after Finish l)
  finishes on = let x = some_of l.drainer_hand on in let id : ℕ = x.0 in let hand : l.drainer_hand ≡ Some id = x.1 in let n : ℕ =
      count l id in
      let full : in_hand id l.drainer_hand ≡ 1 = ap (in_hand id) hand ∙ hand_here id in let p = law.one_place id in let top =
      once_le n in
      let some_call : ¬ (n ≡ 0) = λ z. let o : one_if_any n ≡ 0 = ap one_if_any z in omega (arith, o, p, full) in
      subst (λ h. Lawful (after_finish h l)) (sym hand)
      (renumbered cyclic_after_finish id l.firer_hand (hand_after_finish n l.drainer_hand) (λ d. refl)
      (λ d e. let is : n ≡ d.count = ap count_in e in let sums = law.conserved id d e in let low = law.below_ceiling id d e in
      (omega (arith, sums, some_call, is), omega (arith, low)))
      (let h = laid_here id n (omega (arith, some_call)) in
      let same : in_hand id (hand_after_finish n l.drainer_hand) ≡ in_hand id (hand_after_finish n (Some id)) =
      ap (λ o. in_hand id (hand_after_finish n o)) hand in
      let rest : in_hand id l.firer_hand + times_in id l.old_list + times_in id l.new_list ≡ 0 = omega (arith, p, full, top) in
      let q : in_hand id l.firer_hand + times_in id l.old_list + times_in id l.new_list + in_hand id
      (hand_after_finish n l.drainer_hand) ≡ one_if_any (n - 1) = omega (arith, h, same, rest) in
      q ∙ called_count (l.cyclics id))
      (λ j ne. let a : in_hand j (hand_after_finish n l.drainer_hand) ≡ 0 = ap (λ o. in_hand j (hand_after_finish n o)) hand
      ∙ laid_else j id n ne in let b : in_hand j l.drainer_hand ≡ 0 = ap (in_hand j) hand
      ∙ hand_else j id ne in omega (arith, a, b)))

  marks : (id : ℕ) → Enabled (Mark id) l → Lawful (after (Mark id) l)
  marks id on = record {
    conserved = law.conserved;
    below_ceiling = law.below_ceiling;
    one_place = law.one_place;
    distinct_indexes = law.distinct_indexes;
    in_hard_bank = law.in_hard_bank;
    in_soft_bank = law.in_soft_bank;
    soft_behind = law.soft_behind;
    old_empty = law.old_empty;
    bank_bound = law.bank_bound;
    marked_admitted = λ j e. subst (λ (x : ℕ). IsSome (l.cyclics x)) (some_same id j e) on.2;
    ids = law.ids;
  }

  clears : (id : ℕ) → Enabled (Clear id) l → Lawful (after (Clear id) l)
  clears id on = record {
    conserved = λ j d e. law.conserved j d (cleared_old l.cyclics id j d e).1;
    below_ceiling = λ j d e. law.below_ceiling j d (cleared_old l.cyclics id j d e).1;
    one_place = at_cases l.cyclics id (λ _. None) (λ j o. place_count l j ≡ one_if_any (count_in o)) (law.one_place id
        ∙ ap one_if_any on.2) (λ j _. law.one_place j);
    distinct_indexes = λ a b c d ea eb. law.distinct_indexes a b c d (cleared_old l.cyclics id a c ea).1
        (cleared_old l.cyclics id b d eb).1;
    in_hard_bank = λ j d e. law.in_hard_bank j d (cleared_old l.cyclics id j d e).1;
    in_soft_bank = λ j d e. law.in_soft_bank j d (cleared_old l.cyclics id j d e).1;
    soft_behind = law.soft_behind;
    bank_bound = law.bank_bound;
    marked_admitted = λ j e. absurd (cc);
    ids = λ j d e. law.ids j d (cleared_old l.cyclics id j d e).1;
    old_empty = law.old_empty;
  }

  switches : (bank : ℕ) → Enabled (Switch bank) l → Lawful (after (Switch bank) l)
  switches bank on = let less : l.hard_bank < bank = on.2 in let same : l.hard_bank ≡ l.soft_bank = on.1 in let soft_behind =
      law.soft_behind in record {
        conserved = law.conserved;
        below_ceiling = law.below_ceiling;
        one_place = λ j. let none : times_in j l.old_list ≡ 0 = ap (times_in j) (law.old_empty same) in let p = law.one_place j in
            omega (arith, none, p);
        distinct_indexes = law.distinct_indexes;
        in_hard_bank = λ j d e. let h = law.in_hard_bank j d e in let m : bank_size l.hard_bank ≤ bank_size bank =
            pow_mono {i = l.hard_bank} {j = bank} (omega arith) in omega (arith, h, m);
        in_soft_bank = λ j d e _. subst (λ (k : ℕ). d.index < bank_size k) same (law.in_hard_bank j d e);
        soft_behind = omega arith;
        bank_bound = on.3;
        marked_admitted = law.marked_admitted;
        ids = law.ids;
        old_empty = λ e. absurd (omega arith);
      }

  follows : Enabled Follow l → Lawful (after Follow l)
  follows on = record {
    conserved = law.conserved;
    below_ceiling = law.below_ceiling;
    one_place = law.one_place;
    distinct_indexes = law.distinct_indexes;
    in_hard_bank = law.in_hard_bank;
    in_soft_bank = λ j d e _. law.in_hard_bank j d e;
    soft_behind = omega arith;
    bank_bound = law.bank_bound;
    marked_admitted = law.marked_admitted;
    ids = law.ids;
    old_empty = λ _. on.1;
  }

  pub keeps_law : (e : Event) → Enabled e l → Lawful (after e l)
  keeps_law (Admit id index) on = admits id index on
  keeps_law (Expire id) on = expires id on
  keeps_law (Lose id) on = loses id on
  keeps_law Publish on = publishes on
  keeps_law Take on = takes on
  keeps_law Finish on = finishes on
  keeps_law (Mark id) on = marks id on
  keeps_law (Clear id) on = clears id on
  keeps_law (Switch bank) on = switches bank on
  keeps_law Follow on = follows on

pub always_lawful : (ceiling : ℕ) (es : List Event) → AllEnabled ceiling es → Lawful (reached ceiling es)
always_lawful ceiling [] on = empty_lawful ceiling
always_lawful ceiling (e ∷ es) on = keeps_law (reached ceiling es) (always_lawful ceiling es on.1) e on.0

finished_ceiling : (h : Option ℕ) (l : SoftLevel) → (after_finish h l).ceiling ≡ l.ceiling
finished_ceiling None l = refl
finished_ceiling (Some id) l = refl

pub ceiling_after : (e : Event) (l : SoftLevel) → (after e l).ceiling ≡ l.ceiling
ceiling_after (Admit id index) l = refl
ceiling_after (Expire id) l = refl
ceiling_after (Lose id) l = refl
ceiling_after Publish l = refl
ceiling_after Take l = refl
ceiling_after Finish l = finished_ceiling l.drainer_hand l
ceiling_after (Mark id) l = refl
ceiling_after (Clear id) l = refl
ceiling_after (Switch bank) l = refl
ceiling_after Follow l = refl

pub same_ceiling : (ceiling : ℕ) (es : List Event) → (reached ceiling es).ceiling ≡ ceiling
same_ceiling ceiling [] = refl
same_ceiling ceiling (e ∷ es) = ceiling_after e (reached ceiling es) ∙ same_ceiling ceiling es
