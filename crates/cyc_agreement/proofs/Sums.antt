-- What a removal keeps: the counts of its cyclic over all CPUs and all of its stays.
use Rattle.std.proofs.Common.{◌≡◌, ◌==◌, ℕ, zero, suc, ◌+◌, inl, inr, Bool, true, false, cond, find, Option, Some, None, List, []}
use Rattle.std.proofs.Common.{◌∷◌, ◌≤◌, length, map, slice_set, refl, sym, ap, ◌∙◌, subst, arith}
use Rattle.std.specs.Prelude.{sum_by, ◌||◌}
use Rattle.std.specs.List.{slice_get}
use Rattle.std.specs.Option.{option_map_or}
use Rattle.std.proofs.lemmas.Option.{slice_get-get_or, slice_get_within}
use Rattle.std.proofs.lemmas.List.{length-set}
use Rattle.std.proofs.lemmas.List.Sums.{sum_by-cons}
use mathlib.Core.Logic.{dite}
use native.Mathlib.Decide.{ℕ_discrete}
use Rattle.cyc_types.specs.Series.{never}
use Rattle.cyc_types.specs.declared.Raise.{Ghosts as Raise}
use Rattle.cyc_types.specs.declared.firing.Sent.{Sent}
use Rattle.cyc_types.specs.declared.receipt.Receipt.{Receipt}
use Rattle.cyc_types.specs.Counting.{no_counts}
use Rattle.cyc_cpu.specs.Rows.{Cyclic}
use Rattle.cyc_cpu.specs.declared.removing.Removal.{Removal}
use Rattle.cyc_cpu.specs.declared.removing.Removal.TheVariants.{Done, Kept}
use Rattle.cyc_cpu.specs.Cpu.{CpuView, IsCyclic, HasRisingCyclics as HaveRisingIds, with_moment}
use Rattle.cyc_cpu.specs.Laws.{IsLawful}
use Rattle.cyc_cpu.specs.Removal.{IsReceipt}
use Rattle.cyc_cpu.specs.Calls.{CpuChanges, PollRemove}
use Rattle.cyc_places.specs.declared.record.Record.{Record}
use Rattle.cyc_places.specs.Places.{IsRecord, HasRisingIds, with_ended, ended_on, summed}
use Rattle.cyc_agreement.specs.Cpus.{CpusView, IsCpu}
use Rattle.cyc_agreement.proofs.CpuSpots.{get_set_same, get_set_other}
use Rattle.cyc_agreement.specs.System.{SystemView, record_of}
use Rattle.cyc_agreement.proofs.Spots.{same_some, none_some}
use Rattle.cyc_agreement.proofs.Lists.{among, true_eq, false_ne, false_true}
use Rattle.cyc_agreement.proofs.Who.{id_in}
use Rattle.cyc_agreement.proofs.Recording.{found, record_here}
use Rattle.cyc_agreement.specs.Removing.{BeginsOn, counts_of_receipt}
use Rattle.cyc_agreement.specs.Polling.{PollsOn}
use Rattle.cyc_agreement.specs.RemovalLaws.{cyclic_in}
use Rattle.cyc_agreement.specs.Counts.{IsFit}
use Rattle.cyc_agreement.proofs.One.{less_done, less_ended}
use Rattle.cyc_agreement.proofs.Others.{at_position}
use Rattle.cyc_agreement.proofs.Forgetting.{rising_set}

-- ---- lists

pub sum_set : {A : Type 0} (f : A → ℕ) (xs : List A) (n : ℕ) (x y : A) → slice_get xs n ≡ Some x
    → sum_by f (slice_set xs n y) + f x ≡ sum_by f xs + f y
sum_set f [] n x y is = absurd (none_some is)
sum_set f (z ∷ xs) zero x y is = let a = sum_by-cons f y xs in let b = sum_by-cons f z xs in let c = ap f (same_some is) in
    omega (arith, a, b, c)
sum_set f (z ∷ xs) (suc n) x y is = let a = sum_by-cons f z (slice_set xs n y) in let b = sum_by-cons f z xs in let c =
    sum_set f xs n x y is in omega (arith, a, b, c)

pub sum_none : {A : Type 0} (f : A → ℕ) (xs : List A) → ((n : ℕ) (x : A) → slice_get xs n ≡ Some x → f x ≡ 0) → sum_by f xs ≡ 0
sum_none f [] h = refl
sum_none f (x ∷ xs) h = let a = sum_by-cons f x xs in let b = h 0 x refl in let c = sum_none f xs (λ n y is. h (suc n) y is) in
    omega (arith, a, b, c)

-- one of those that are summed is at most the sum
pub one_of_sum : {A : Type 0} (h : A → ℕ) (xs : List A) (n : ℕ) (x : A) → slice_get xs n ≡ Some x → h x ≤ sum_by h xs
one_of_sum h [] n x is = absurd (none_some is)
one_of_sum h (z ∷ xs) zero x is = let a = sum_by-cons h z xs in let b = ap h (same_some is) in omega (arith, a, b)
one_of_sum h (z ∷ xs) (suc n) x is = let a = sum_by-cons h z xs in let b = one_of_sum h xs n x is in omega (arith, a, b)

-- a change that the test and the count don't see
found_set : {A : Type 0} (p : A → Bool) (h : A → ℕ) (xs : List A) (k : ℕ) (x y : A) → slice_get xs k ≡ Some x → p y ≡ p x
    → h y ≡ h x
    → option_map_or h (find p (slice_set xs k y)) 0 ≡ option_map_or h (find p xs) 0
found_set p h [] k x y is a b = refl
found_set p h (z ∷ xs) zero x y is a b = ap (λ t. option_map_or h (cond t (Some y) (find p xs)) 0) (a ∙ ap p (sym (same_some is)))
    ∙ by (p z)
  where
    by : (t : Bool) → option_map_or h (cond t (Some y) (find p xs)) 0 ≡ option_map_or h (cond t (Some z) (find p xs)) 0
    by true = b ∙ ap h (sym (same_some is))
    by false = refl
found_set p h (z ∷ xs) (suc k) x y is a b = by (p z) (found_set p h xs k x y is a b)
  where
    by : (t : Bool) → option_map_or h (find p (slice_set xs k y)) 0 ≡ option_map_or h (find p xs) 0
        → option_map_or h (cond t (Some z) (find p (slice_set xs k y))) 0 ≡ option_map_or h (cond t (Some z) (find p xs)) 0
    by true rest = refl
    by false rest = rest

-- ---- one CPU

-- the cyclic of an id is the one that has it
pub cyclic_found : (cs : List Cyclic) (id k : ℕ) (c : Cyclic) → HaveRisingIds cs → IsCyclic cs k c → c.timer.id ≡ id
    → find (λ (e : Cyclic). e.timer.id == id) cs ≡ Some c
cyclic_found [] id k c rising is named = absurd (let low = is.0 in omega (arith, low))
cyclic_found (x ∷ cs) id zero c rising is named =
    ap (λ b. cond b (Some x) (find (λ (e : Cyclic). e.timer.id == id) cs)) (true_eq x.timer.id id (ap id_in is.1 ∙ named))
    ∙ ap Some is.1
cyclic_found (x ∷ cs) id (suc k) c rising is named =
    let less = rising 0 (suc k) c (omega arith) is.0 in let same = ap id_in is.1 in
    ap (λ b. cond b (Some x) (find (λ (e : Cyclic). e.timer.id == id) cs))
    (false_ne x.timer.id id (λ e. omega (arith, less, same, named, e)))
    ∙ cyclic_found cs id k c (λ i j d l low. rising (suc i) (suc j) d (omega (arith, l)) (omega (arith, low)))
    (let low = is.0 in omega (arith, low), is.1) named

-- no cyclic has the id
pub none_found : (cs : List Cyclic) (id : ℕ) → among id (map id_in cs) ≡ false → find (λ (e : Cyclic). e.timer.id == id) cs ≡ None
none_found [] id e = refl
none_found (x ∷ cs) id e = by (x.timer.id == id) refl e (none_found cs id)
  where
    by : (b : Bool) → (x.timer.id == id) ≡ b → (b || among id (map id_in cs)) ≡ false
        → (among id (map id_in cs) ≡ false → find (λ (c : Cyclic). c.timer.id == id) cs ≡ None)
        → cond b (Some x) (find (λ (c : Cyclic). c.timer.id == id) cs) ≡ None
    by true f h rest = absurd (false_true (sym h))
    by false f h rest = rest h

-- ---- a count that adds up
module _ {R : Type 0} (firing : Raise R) (g : Sent → ℕ) (id : ℕ) (adds : (a b : Sent)
    → g (summed a b) ≡ g a + g b) where
  abbrev pub of_cyclic : Cyclic → ℕ
  of_cyclic c = g (record { sent = c.timer.expired; lost = c.lost })

  abbrev pub in_cpu : CpuView R → ℕ
  in_cpu cpu = option_map_or of_cyclic (cyclic_in id cpu) 0

  abbrev pub in_record : SystemView R → ℕ
  in_record s = option_map_or (λ (r : Record). sum_by g r.ended) (record_of id s) 0

  abbrev pub all_of : SystemView R → ℕ
  all_of s = sum_by in_cpu s.cpus.cpus + in_record s

  -- the counts of a receipt are those of its cyclic
  of_receipt : (receipt : Receipt) (c : Cyclic) → IsReceipt receipt c → g (counts_of_receipt receipt) ≡ of_cyclic c
  of_receipt receipt c is = (λ i. g (record { sent = is.1 i; lost = is.2 i }))

  -- a stay has ended
  module _ (n : ℕ) (receipt : Receipt) (x y : CpuView R) (s t : SystemView R) (k : ℕ) (r : Record) (fit : IsFit s)
      (at : IsCpu n x s.cpus) (cpus : t.cpus.cpus ≡ slice_set s.cpus.cpus n y)
      (is : IsRecord s.records k r) (named : r.id ≡ id)
      (records : t.records ≡ slice_set s.records k (with_ended n (summed (ended_on n r) (counts_of_receipt receipt)) r)) where
    ended_fit : IsFit t
    ended_fit = record {
      rising = subst HasRisingIds (sym records)
          (rising_set s.records k r (with_ended n (summed (ended_on n r) (counts_of_receipt receipt)) r) fit.rising is refl);
      sixteen = λ j q here. dite (ℕ_discrete j k)
          (λ e. ap (λ (z : Record). length z.ended)
          (same_some (sym here ∙ ap (λ l. slice_get l j) records
          ∙ ap (λ i. slice_get (slice_set s.records k (with_ended n (summed (ended_on n r) (counts_of_receipt receipt)) r)) i) e
          ∙ get_set_same s.records k (with_ended n (summed (ended_on n r) (counts_of_receipt receipt)) r)
          (slice_get_within s.records k r is)))
          ∙ length-set r.ended n (summed (ended_on n r) (counts_of_receipt receipt)) ∙ fit.sixteen k r is)
          (λ ne. fit.sixteen j q (sym (get_set_other s.records k j
          (with_ended n (summed (ended_on n r) (counts_of_receipt receipt)) r) ne) ∙ ap (λ l. slice_get l j) (sym records)
          ∙ here));
      few = (let a = ap (λ (l : List (CpuView R)). length l) cpus in let b = length-set s.cpus.cpus n y in let c = fit.few in
          omega (arith, a, b, c));
    }

    ended_all : g (counts_of_receipt receipt) ≡ in_cpu x → in_cpu y ≡ 0 → all_of t ≡ all_of s
    ended_all was gone =
        let a = sum_set in_cpu s.cpus.cpus n x y at in
        let b = ap (λ l. sum_by in_cpu l) cpus in
        let low = slice_get_within s.cpus.cpus n x at in let few = fit.few in let many = fit.sixteen k r is in
        let d = sum_set g r.ended n (ended_on n r) (summed (ended_on n r) (counts_of_receipt receipt))
        (slice_get-get_or r.ended n no_counts (omega (arith, low, few, many))) in
        let e = adds (ended_on n r) (counts_of_receipt receipt) in
        let before = ap (λ o. option_map_or (λ (q : Record). sum_by g q.ended) o 0)
        (record_here id k r s.records fit.rising is named) in
        let after = ap (λ o. option_map_or (λ (q : Record). sum_by g q.ended) o 0)
        (ap (λ l. found id l) records ∙ record_here id k (with_ended n (summed (ended_on n r) (counts_of_receipt receipt)) r)
        (slice_set s.records k (with_ended n (summed (ended_on n r) (counts_of_receipt receipt)) r))
        (rising_set s.records k r (with_ended n (summed (ended_on n r) (counts_of_receipt receipt)) r) fit.rising is refl)
        (get_set_same s.records k (with_ended n (summed (ended_on n r) (counts_of_receipt receipt)) r)
        (slice_get_within s.records k r is)) named) in
        omega (arith, a, b, d, e, before, after, was, gone)

  -- no stay has ended
  stays_fit : (n : ℕ) (y : CpuView R) (s t : SystemView R) → IsFit s → t.cpus.cpus ≡ slice_set s.cpus.cpus n y
      → t.records ≡ s.records → IsFit t
  stays_fit n y s t fit cpus records = record {
    rising = subst HasRisingIds (sym records) fit.rising;
    sixteen = λ j q here. fit.sixteen j q (ap (λ l. slice_get l j) (sym records) ∙ here);
    few = (let a = ap (λ (l : List (CpuView R)). length l) cpus in let b = length-set s.cpus.cpus n y in let c = fit.few in
        omega (arith, a, b, c));
  }

  stays_all : (n : ℕ) (x y : CpuView R) (s t : SystemView R) → IsCpu n x s.cpus → t.cpus.cpus ≡ slice_set s.cpus.cpus n y
      → t.records ≡ s.records → in_cpu y ≡ in_cpu x → all_of t ≡ all_of s
  stays_all n x y s t at cpus records same =
      let a = sum_set in_cpu s.cpus.cpus n x y at in let b = ap (λ l. sum_by in_cpu l) cpus in
      let c = ap (λ l. option_map_or (λ (q : Record). sum_by g q.ended) (found id l) 0) records in omega (arith, a, b, c, same)

  pub begin_keeps : (n : ℕ) (found : Removal) (s t : SystemView R) → BeginsOn firing id n found s t
      → ((x : CpuView R) → IsCpu n x s.cpus → IsLawful firing.view x) → IsFit s
      → IsFit t × (all_of t ≡ all_of s)
  begin_keeps n (Done receipt) s t (does, k, r, is, named, records, last) law fit =
      let x = does.before in let y = does.after in let lawful = law x does.here in
      let (still, (c, counts, own, polled, l)) = does.change in
      let cpus = ap (λ (v : CpusView R). v.cpus) does.rest in (
        ended_fit n receipt x y s t k r fit does.here cpus is named records,
        ended_all n receipt x y s t k r fit does.here cpus is named records
            (of_receipt receipt c own ∙ sym (ap (λ o. option_map_or of_cyclic o 0)
            (cyclic_found x.cyclics id l.position c lawful.rising l.here l.named)))
            (ap (λ o. option_map_or of_cyclic o 0) (none_found y.cyclics id
            (less_done firing id x y lawful receipt does.change).gone)),
      )
  begin_keeps n (Kept kept) s t (does, records, last) law fit =
      let x = does.before in let y = does.after in
      let (still, o) = does.change in
      let cpus = ap (λ (v : CpusView R). v.cpus) does.rest in (
        stays_fit n y s t fit cpus records,
        stays_all n x y s t does.here cpus records
            (ap (λ cs. option_map_or of_cyclic (find (λ (e : Cyclic). e.timer.id == id) cs) 0) o.cyclics
            ∙ found_set (λ (e : Cyclic). e.timer.id == id) of_cyclic x.cyclics o.position o.cyclic (with_moment never o.cyclic)
            (at_position x.cyclics o.position o.cyclic o.here) refl refl),
      )

  pub poll_keeps : (n : ℕ) (answer : Option Receipt) (s t : SystemView R) → PollsOn firing id n answer s t
      → ((x : CpuView R) → IsCpu n x s.cpus → IsLawful firing.view x × (x.removal ≡ Some id)) → IsFit s
      → IsFit t × (all_of t ≡ all_of s)
  poll_keeps n (Some receipt) s t (does, k, r, is, named, records, last) law fit =
      let x = does.before in let y = does.after in let (lawful, open_here) = law x does.here in
      let e = does.change in
      let cpus = ap (λ (v : CpusView R). v.cpus) does.rest in (
        ended_fit n receipt x y s t k r fit does.here cpus is named records,
        ended_all n receipt x y s t k r fit does.here cpus is named records
            (of_receipt receipt e.cyclic e.counted ∙ sym (ap (λ o. option_map_or of_cyclic o 0)
            (cyclic_found x.cyclics id e.leaves.position e.cyclic lawful.rising e.leaves.here (e.leaves.named
            ∙ same_some (sym e.was_open ∙ open_here)))))
            (ap (λ o. option_map_or of_cyclic o 0) (none_found y.cyclics id
            (less_ended firing id x y lawful receipt open_here e).gone)),
      )
  poll_keeps n None s t (does, records, last) law fit =
      let x = does.before in let y = does.after in
      let cpus = ap (λ (v : CpusView R). v.cpus) does.rest in
      (stays_fit n y s t fit cpus records, stays_all n x y s t does.here cpus records (by x y does.change))
    where
      by : (x y : CpuView R) → CpuChanges firing x (PollRemove None) y → in_cpu y ≡ in_cpu x
      by x y (inl (none, same)) = ap in_cpu same
      by x y (inr (own, is, w)) = ap (λ cs. option_map_or of_cyclic (find (λ (e : Cyclic). e.timer.id == id) cs) 0) w.cyclics
