-- What holds of a level whatever indexes its cyclics get.
use Rattle.std.proofs.Common.{◌≡◌, ℕ, ◌+◌, ◌-◌, ◌<◌, ◌≤◌, ◌≢◌, eqb, eq-eqb, ne_eqb, Bool, cond, List, []}
use Rattle.std.proofs.Common.{◌∷◌, ◌++◌, sym, refl, ap, ◌∙◌, subst, arith}
use Rattle.std.specs.Prelude.{⊤, Option, Some, None}
use Rattle.std.specs.Option.{option_map}
use mathlib.Core.Logic.{dite}
use native.Mathlib.Decide.{ℕ_discrete}
use Rattle.cyc_types.specs.Limits.{greatest_bank}
use Rattle.cyc_level.specs.declared.Event.{Event}
use Rattle.cyc_level.specs.declared.Event.TheVariants.{Admit, Expire, Lose, Publish, Take, Finish, Mark, Clear, Switch, Follow}
use Rattle.cyc_level.specs.Level.{AdmittedCyclic, Cyclics, SoftLevel, empty_level, count_in, count, soft_list, times_in, in_hand}
use Rattle.cyc_level.specs.Level.{place_count}
use Rattle.cyc_level.specs.Level.{bank_size}
use Rattle.cyc_level.specs.Lawful.{IsId, one_if_any}
use Rattle.cyc_level.specs.Events.{changed_at, admitted_cyclic, cyclic_after_expire, cyclic_after_lose, cyclic_after_finish}
use Rattle.cyc_level.specs.Events.{first_of, rest_of, as_list, hand_after_expire, hand_after_finish, after_finish, after}
use Rattle.cyc_level.specs.Events.{IsUnused}
use Rattle.cyc_level.proofs.Maps.{some_same, some_of, at_cases, hand_here, hand_else, times_append}
use Rattle.cyc_level.proofs.Keeps.{once_pos, once_le, raised_here, raised_else, laid_here, laid_else, take_sum, nothing_taken}
use Rattle.cyc_level.proofs.Keeps.{changed_all, listed_times, called_count}
use Rattle.cyc_model.specs.Serving.{level_after}
use Rattle.cyc_model.specs.Laws.{CanAsSoft, AllCanAsSoft}
use Rattle.cyc_model.specs.Agreement.{IsReadyToExpire, AllReady}

-- the laws of a level that don't speak of indexes
pub record Fit (l : SoftLevel) : Type 0 where
  pub conserved : (id : ℕ) (c : AdmittedCyclic) → l.cyclics id ≡ Some c → c.sent ≡ c.done + c.count + c.lost
  pub below_ceiling : (id : ℕ) (c : AdmittedCyclic) → l.cyclics id ≡ Some c → c.count ≤ l.ceiling
  pub one_place : (id : ℕ) → place_count l id ≡ one_if_any (count l id)
  pub soft_behind : l.soft_bank ≤ l.hard_bank
  pub old_empty : l.hard_bank ≡ l.soft_bank → l.old_list ≡ []
  pub bank_bound : l.hard_bank ≤ greatest_bank

pub empty_fit : (ceiling : ℕ) → Fit (empty_level ceiling)
empty_fit ceiling = record {
  conserved = λ id c e. absurd (cc);
  below_ceiling = λ id c e. absurd (cc);
  one_place = λ id. refl;
  soft_behind = omega arith;
  old_empty = λ _. refl;
  bank_bound = omega arith;
}

-- an index of the bank that no cyclic has
pub record HasFree (l : SoftLevel) : Type 0 where
  pub index : ℕ
  pub below : index < bank_size l.hard_bank
  pub unused : IsUnused l index

-- what is left to ask of an event, beside what the soft side can do and what the firing side finds
abbrev pub Rest : Event → SoftLevel → Type 0
Rest (Admit id index) l = IsId id × (l.cyclics id ≡ None) × HasFree l
Rest (Expire id) l = l.marked ≢ Some id
Rest (Lose id) l = l.marked ≢ Some id
Rest (Mark id) l = l.marked ≡ None
Rest (Clear id) l = (l.marked ≡ Some id) × (count l id ≡ 0)
Rest (Switch bank) l = (l.hard_bank ≡ l.soft_bank) × (l.hard_bank < bank) × (bank ≤ greatest_bank)
Rest _ l = ⊤

abbrev pub AllRest : List Event → SoftLevel → Type 0
AllRest [] l = ⊤
AllRest (e ∷ es) l = Rest e l × AllRest es (after e l)

cleared_old : (m : Cyclics) (id j : ℕ) (d : AdmittedCyclic) → changed_at m id (λ _. None) j ≡ Some d → m j ≡ Some d
cleared_old m id j d e = at_cases m id (λ _. None) (λ k o. o ≡ Some d → m k ≡ Some d) (λ n. absurd (cc)) (λ k ne h. h) j e

-- how many calls of the id an event finishes, and how many it brings
abbrev pub finishes : ℕ → Event → SoftLevel → ℕ
finishes j Finish l = in_hand j l.drainer_hand
finishes j _ l = 0

abbrev pub brings : ℕ → Event → ℕ
brings j (Expire id) = cond (eqb id j) 1 0
brings j _ = 0

changed_count : (m : Cyclics) (id : ℕ) (f : Option AdmittedCyclic → Option AdmittedCyclic) (j a b : ℕ)
    → (j ≡ id → count_in (f (m id)) + a ≡ count_in (m id) + b) → (j ≢ id → a ≡ b)
    → count_in (changed_at m id f j) + a ≡ count_in (m j) + b
changed_count m id f j a b one other = dite (ℕ_discrete j id)
    (λ e. subst (λ (k : ℕ). count_in (changed_at m id f k) + a ≡ count_in (m k) + b) (sym e)
    (subst (λ (t : Bool). count_in (cond t (f (m id)) (m id)) + a ≡ count_in (m id) + b) (sym (eq-eqb id id refl)) (one e)))
    (λ ne. subst (λ (t : Bool). count_in (cond t (f (m j)) (m j)) + a ≡ count_in (m j) + b) (sym (ne_eqb j id ne))
    (ap (λ (k : ℕ). count_in (m j) + k) (other ne)))

module _ (l : SoftLevel) (law : Fit l) where
  renumbered : (f : AdmittedCyclic → AdmittedCyclic) (id : ℕ) (firer drainer : Option ℕ)
      → ((c : AdmittedCyclic) → c.index ≡ (f c).index)
      → ((c : AdmittedCyclic) → l.cyclics id ≡ Some c → ((f c).sent ≡ (f c).done + (f c).count + (f c).lost)
      × ((f c).count ≤ l.ceiling))
      → (in_hand id firer + times_in id l.old_list + times_in id l.new_list + in_hand id drainer
      ≡ one_if_any (count_in (option_map f (l.cyclics id))))
      → ((j : ℕ) → j ≢ id → in_hand j firer + in_hand j drainer ≡ in_hand j l.firer_hand + in_hand j l.drainer_hand)
      → Fit (record l { cyclics = changed_at l.cyclics id (option_map f); firer_hand = firer; drainer_hand = drainer })
  renumbered f id firer drainer same numbers here there = record {
    conserved = at_cases l.cyclics id (option_map f) (λ j o. (c : AdmittedCyclic) → o ≡ Some c
        → c.sent ≡ c.done + c.count + c.lost)
        (changed_all f (λ c. l.cyclics id ≡ Some c) (λ c. c.sent ≡ c.done + c.count + c.lost) (λ c e. (numbers c e).0)
        (l.cyclics id) (λ c e. e)) (λ j _. law.conserved j);
    below_ceiling = at_cases l.cyclics id (option_map f) (λ j o. (c : AdmittedCyclic) → o ≡ Some c → c.count ≤ l.ceiling)
        (changed_all f (λ c. l.cyclics id ≡ Some c) (λ c. c.count ≤ l.ceiling) (λ c e. (numbers c e).1) (l.cyclics id) (λ c e. e))
        (λ j _. law.below_ceiling j);
    one_place = at_cases l.cyclics id (option_map f)
        (λ j o. in_hand j firer + times_in j l.old_list + times_in j l.new_list + in_hand j drainer
        ≡ one_if_any (count_in o)) here
        (λ j ne. let a = there j ne in let b = law.one_place j in omega (arith, a, b));
    soft_behind = law.soft_behind;
    old_empty = law.old_empty;
    bank_bound = law.bank_bound;
  }

  moved : (firer drainer : Option ℕ) (old new : List ℕ)
      → ((j : ℕ) → in_hand j firer + times_in j old + times_in j new + in_hand j drainer ≡ place_count l j)
      → (l.hard_bank ≡ l.soft_bank → old ≡ [])
      → Fit (record l { firer_hand = firer; old_list = old; new_list = new; drainer_hand = drainer })
  moved firer drainer old new sums none = record {
    conserved = law.conserved;
    below_ceiling = law.below_ceiling;
    one_place = λ j. sums j ∙ law.one_place j;
    soft_behind = law.soft_behind;
    old_empty = none;
    bank_bound = law.bank_bound;
  }

  admits : (id index : ℕ) → l.cyclics id ≡ None → Fit (after (Admit id index) l)
  admits id index none = let c0 : AdmittedCyclic = admitted_cyclic index in let f : Option AdmittedCyclic
      → Option AdmittedCyclic = λ _. Some c0 in record {
        conserved = at_cases l.cyclics id f (λ k o. (d : AdmittedCyclic) → o ≡ Some d → d.sent ≡ d.done + d.count + d.lost)
            (λ d h. subst (λ (c : AdmittedCyclic). c.sent ≡ c.done + c.count + c.lost) (some_same c0 d h) refl)
            (λ k ne. law.conserved k);
        below_ceiling = at_cases l.cyclics id f (λ k o. (d : AdmittedCyclic) → o ≡ Some d → d.count ≤ l.ceiling)
            (λ d h. subst (λ (c : AdmittedCyclic). c.count ≤ l.ceiling) (some_same c0 d h) (omega arith))
            (λ k ne. law.below_ceiling k);
        one_place = at_cases l.cyclics id f (λ j o. place_count l j ≡ one_if_any (count_in o))
            (law.one_place id ∙ ap (λ o. one_if_any (count_in o)) none) (λ j _. law.one_place j);
        soft_behind = law.soft_behind;
        old_empty = law.old_empty;
        bank_bound = law.bank_bound;
      }

  expires : (id : ℕ) → l.firer_hand ≡ None → (c : AdmittedCyclic) → l.cyclics id ≡ Some c → count l id ≢ l.ceiling
      → Fit (after (Expire id) l)
  expires id free c is room =
      let n : ℕ = count l id in let hand : Option ℕ = hand_after_expire n id l.firer_hand in
      let is_n : n ≡ c.count = ap count_in is in let empty : in_hand id l.firer_hand ≡ 0 = ap (in_hand id) free in
      renumbered cyclic_after_expire id hand l.drainer_hand (λ d. refl)
      (λ d e. let sums = law.conserved id d e in let le = law.below_ceiling id d e in
      let far : d.count ≢ l.ceiling = λ same. room (ap count_in e ∙ same) in (omega (arith, sums), omega (arith, le, far)))
      (let p = law.one_place id in let r = raised_here id n l.firer_hand free in
      let q : in_hand id hand + times_in id l.old_list + times_in id l.new_list + in_hand id l.drainer_hand
      ≡ 1 = omega (arith, p, r, empty) in
      q ∙ (sym (once_pos (c.count + 1) (omega arith)) ∙ ap (λ o. one_if_any (count_in (option_map cyclic_after_expire o)))
      (sym is)))
      (λ j ne. let a = raised_else j id n l.firer_hand ne free in let b : in_hand j l.firer_hand
      ≡ 0 = ap (in_hand j) free in omega (arith, a, b))

  loses : (id : ℕ) → (c : AdmittedCyclic) → l.cyclics id ≡ Some c → Fit (after (Lose id) l)
  loses id c is =
      renumbered cyclic_after_lose id l.firer_hand l.drainer_hand (λ d. refl)
      (λ d e. let sums = law.conserved id d e in (omega (arith, sums), law.below_ceiling id d e))
      (law.one_place id ∙ (ap (λ o. one_if_any (count_in o)) is
      ∙ ap (λ o. one_if_any (count_in (option_map cyclic_after_lose o))) (sym is)))
      (λ j _. refl)

  publishes : Fit (after Publish l)
  publishes = moved None l.drainer_hand l.old_list (l.new_list ++ as_list l.firer_hand)
      (λ j. let a = times_append j l.new_list (as_list l.firer_hand) in let b = listed_times j l.firer_hand
      in omega (arith, a, b)) law.old_empty

  takes : l.drainer_hand ≡ None → Fit (after Take l)
  takes free = let b : Bool = eqb l.hard_bank l.soft_bank in
      moved l.firer_hand (first_of (soft_list l)) (cond b l.old_list (rest_of l.old_list))
      (cond b (rest_of l.new_list) l.new_list)
      (λ j. let s = take_sum b l.old_list l.new_list j in let e : in_hand j l.drainer_hand
      ≡ 0 = ap (in_hand j) free in omega (arith, s, e))
      (λ same. ap (λ o. cond b o (rest_of o)) (law.old_empty same) ∙ nothing_taken b)

  -- a cyclic in the drainer's hand has calls outstanding
  pub in_hand_counts : (id : ℕ) → l.drainer_hand ≡ Some id → 0 < count l id
  in_hand_counts id hand =
      let full : in_hand id l.drainer_hand ≡ 1 = ap (in_hand id) hand ∙ hand_here id in let p = law.one_place id in
      let some_call : ¬ (count l id ≡ 0) = λ z. let o : one_if_any (count l id)
      ≡ 0 = ap one_if_any z in omega (arith, o, p, full) in
      omega (arith, some_call)

  finishes_fit : (id : ℕ) → l.drainer_hand ≡ Some id → Fit (after Finish l)
  finishes_fit id hand =
      let n : ℕ = count l id in
      let full : in_hand id l.drainer_hand ≡ 1 = ap (in_hand id) hand
      ∙ hand_here id in let p = law.one_place id in let top = once_le n in
      let some_call = in_hand_counts id hand in
      subst (λ h. Fit (after_finish h l)) (sym hand)
      (renumbered cyclic_after_finish id l.firer_hand (hand_after_finish n l.drainer_hand) (λ d. refl)
      (λ d e. let is : n ≡ d.count = ap count_in e in let sums = law.conserved id d e in let low = law.below_ceiling id d e in
      (omega (arith, sums, some_call, is), omega (arith, low)))
      (let h = laid_here id n some_call in
      let same : in_hand id (hand_after_finish n l.drainer_hand)
      ≡ in_hand id (hand_after_finish n (Some id)) = ap (λ o. in_hand id (hand_after_finish n o)) hand in
      let rest : in_hand id l.firer_hand + times_in id l.old_list + times_in id l.new_list ≡ 0 = omega (arith, p, full, top) in
      let q : in_hand id l.firer_hand + times_in id l.old_list + times_in id l.new_list
      + in_hand id (hand_after_finish n l.drainer_hand) ≡ one_if_any (n - 1)
      = omega (arith, h, same, rest) in
      q ∙ called_count (l.cyclics id))
      (λ j ne. let a : in_hand j (hand_after_finish n l.drainer_hand) ≡ 0 = ap (λ o. in_hand j (hand_after_finish n o)) hand
      ∙ laid_else j id n ne in
      let b : in_hand j l.drainer_hand ≡ 0 = ap (in_hand j) hand ∙ hand_else j id ne in omega (arith, a, b)))

  clears : (id : ℕ) → count l id ≡ 0 → Fit (after (Clear id) l)
  clears id none = record {
    conserved = λ j d e. law.conserved j d (cleared_old l.cyclics id j d e);
    below_ceiling = λ j d e. law.below_ceiling j d (cleared_old l.cyclics id j d e);
    one_place = at_cases l.cyclics id (λ _. None) (λ j o. place_count l j ≡ one_if_any (count_in o))
        (law.one_place id ∙ ap one_if_any none) (λ j _. law.one_place j);
    soft_behind = law.soft_behind;
    old_empty = law.old_empty;
    bank_bound = law.bank_bound;
  }

  switches : (bank : ℕ) → l.hard_bank ≡ l.soft_bank → l.hard_bank < bank → bank ≤ greatest_bank → Fit (after (Switch bank) l)
  switches bank same less most = let behind = law.soft_behind in record {
    conserved = law.conserved;
    below_ceiling = law.below_ceiling;
    one_place = λ j. let none : times_in j l.old_list ≡ 0 = ap (times_in j) (law.old_empty same) in let p = law.one_place j
        in omega (arith, none, p);
    soft_behind = omega (arith, behind, less);
    old_empty = λ e. absurd (omega (arith, e, less, same));
    bank_bound = most;
  }

  follows : l.old_list ≡ [] → Fit (after Follow l)
  follows none = record {
    conserved = law.conserved;
    below_ceiling = law.below_ceiling;
    one_place = law.one_place;
    soft_behind = omega arith;
    old_empty = λ _. none;
    bank_bound = law.bank_bound;
  }

  pub keeps_fit : (e : Event) → CanAsSoft e l → IsReadyToExpire e l → Rest e l → Fit (after e l)
  keeps_fit (Admit id index) soft ready rest = admits id index rest.1
  keeps_fit (Expire id) soft ready rest = let c = some_of (l.cyclics id) ready.1 in expires id ready.0 c.0 c.1 ready.2
  keeps_fit (Lose id) soft ready rest = let c = some_of (l.cyclics id) ready.1 in loses id c.0 c.1
  keeps_fit Publish soft ready rest = publishes
  keeps_fit Take soft ready rest = takes soft.0
  keeps_fit Finish soft ready rest = let x = some_of l.drainer_hand soft in finishes_fit x.0 x.1
  keeps_fit (Mark id) soft ready rest = record {
    conserved = law.conserved;
    below_ceiling = law.below_ceiling;
    one_place = law.one_place;
    soft_behind = law.soft_behind;
    old_empty = law.old_empty;
    bank_bound = law.bank_bound;
  }
  keeps_fit (Clear id) soft ready rest = clears id rest.1
  keeps_fit (Switch bank) soft ready rest = switches bank rest.0 rest.1 rest.2
  keeps_fit Follow soft ready rest = follows soft.1

  -- the outstanding calls of an id after an event
  pub count_step : (e : Event) (j : ℕ) → CanAsSoft e l → IsReadyToExpire e l → Rest e l
      → count (after e l) j + finishes j e l ≡ count l j + brings j e
  count_step (Admit id index) j soft ready rest =
      changed_count l.cyclics id (λ o. Some (admitted_cyclic index)) j 0 0
      (λ e. ap (λ (o : Option AdmittedCyclic). count_in o + 0) (sym rest.1)) (λ ne. refl)
  count_step (Expire id) j soft ready rest = let c = some_of (l.cyclics id) ready.1 in
      changed_count l.cyclics id (option_map cyclic_after_expire) j 0 (cond (eqb id j) 1 0)
      (λ e. subst (λ (o : Option AdmittedCyclic). count_in (option_map cyclic_after_expire o) + 0
      ≡ count_in o + cond (eqb id j) 1 0) (sym c.1)
      (subst (λ (b : Bool). c.0.count + 1 + 0 ≡ c.0.count + cond b 1 0) (sym (eq-eqb id j (sym e))) (omega arith)))
      (λ ne. subst (λ (b : Bool). 0 ≡ cond {A = ℕ} b 1 0) (sym (ne_eqb id j (λ e. ne (sym e)))) refl)
  count_step (Lose id) j soft ready rest = let c = some_of (l.cyclics id) ready.1 in
      changed_count l.cyclics id (option_map cyclic_after_lose) j 0 0
      (λ e. subst (λ (o : Option AdmittedCyclic). count_in (option_map cyclic_after_lose o) + 0
      ≡ count_in o + 0) (sym c.1) refl) (λ ne. refl)
  count_step Publish j soft ready rest = refl
  count_step Take j soft ready rest = refl
  count_step Finish j soft ready rest = let x = some_of l.drainer_hand soft in
      subst (λ (h : Option ℕ). count (after_finish h l) j + in_hand j h ≡ count l j + 0) (sym x.1)
      (let some_call = in_hand_counts x.0 x.1 in
      changed_count l.cyclics x.0 (option_map cyclic_after_finish) j (in_hand j (Some x.0)) 0
      (λ e. let one : in_hand j (Some x.0) ≡ 1 = ap (λ (b : Bool). cond {A = ℕ} b 1 0) (eq-eqb j x.0 e) in
      let h = less (l.cyclics x.0) in omega (arith, one, h, some_call))
      (λ ne. hand_else j x.0 ne))
    where
      less : (o : Option AdmittedCyclic) → count_in (option_map cyclic_after_finish o) ≡ count_in o - 1
      less None = refl
      less (Some c) = refl
  count_step (Mark id) j soft ready rest = refl
  count_step (Clear id) j soft ready rest =
      changed_count l.cyclics id (λ o. None) j 0 0 (λ e. sym (ap (λ (n : ℕ). n + 0) rest.1)) (λ ne. refl)
  count_step (Switch bank) j soft ready rest = refl
  count_step Follow j soft ready rest = refl

abbrev pub all_finishes : ℕ → List Event → SoftLevel → ℕ
all_finishes j [] l = 0
all_finishes j (e ∷ es) l = finishes j e l + all_finishes j es (after e l)

abbrev pub all_brings : ℕ → List Event → ℕ
all_brings j [] = 0
all_brings j (e ∷ es) = brings j e + all_brings j es

pub fit_along : (es : List Event) (l : SoftLevel) → Fit l → AllCanAsSoft es l → AllReady es l → AllRest es l
    → Fit (level_after es l)
fit_along [] l fit soft ready rest = fit
fit_along (e ∷ es) l fit soft ready rest =
    fit_along es (after e l) (keeps_fit l fit e soft.0 ready.0 rest.0) soft.1 ready.1 rest.1

pub count_along : (es : List Event) (l : SoftLevel) (j : ℕ) → Fit l → AllCanAsSoft es l → AllReady es l → AllRest es l
    → count (level_after es l) j + all_finishes j es l ≡ count l j + all_brings j es
count_along [] l j fit soft ready rest = refl
count_along (e ∷ es) l j fit soft ready rest =
    let one = count_step l fit e j soft.0 ready.0 rest.0 in
    let more = count_along es (after e l) j (keeps_fit l fit e soft.0 ready.0 rest.0) soft.1 ready.1 rest.1 in
    omega (arith, one, more)
