-- A walk over the CPUs, with a call on each of which a test holds.
use Rattle.std.proofs.Common.{◌≡◌, ◌==◌, ℕ, ◌+◌, ◌<◌, ◌≤◌, Bool, true, false, Some, List, [], ◌∷◌, ◌++◌, length, map, drop}
use Rattle.std.proofs.Common.{option_map, refl, sym, ap, ◌∙◌, subst, append_assoc, arith}
use Rattle.std.specs.Prelude.{sum_by}
use Rattle.std.specs.List.{slice_get, list_any, FoldsTo}
use Rattle.std.specs.Option.{option_map_or, option_and_then}
use Rattle.std.proofs.lemmas.Option.{slice_get-map}
use Rattle.std.proofs.lemmas.List.{append-nil, map-append, length-map, drop_all}
use Rattle.std.proofs.lemmas.List.Sums.{sum_by_push}
use mathlib.Core.Logic.{dite}
use native.Mathlib.Decide.{ℕ_discrete}
use Rattle.cyc_types.proofs.Runs.{folds_more}
use Rattle.cyc_types.specs.declared.Raise.{Ghosts as Raise}
use Rattle.cyc_cpu.specs.Cpu.{CpuView}
use Rattle.cyc_places.specs.declared.record.Record.{Record}
use Rattle.cyc_places.specs.Places.{IsRecord}
use Rattle.cyc_agreement.specs.Cpus.{CpusView, IsCpu, numbers_from}
use Rattle.cyc_agreement.proofs.Choices.{numbers_at}
use Rattle.cyc_agreement.specs.System.{SystemView, ids_of, has, removal_on, is_leaving_here}
use Rattle.cyc_agreement.proofs.Lists.{among}
use Rattle.cyc_agreement.proofs.Presence.{has_low}
use Rattle.cyc_agreement.specs.Removing.{Begun, BeginsOn, kept_in}
use Rattle.cyc_agreement.specs.Polling.{Polled, PollsOn}
use Rattle.cyc_agreement.specs.Withdrawing.{system, Withdraws, LeavesAt}
use Rattle.cyc_agreement.proofs.Withdrawing.{withdraws_none, withdraws_then}

-- the numbers from one on, where its test is known
pub numbered : {R : Type 0} (test : CpuView R → Bool) (v : CpusView R) (n : ℕ) (x : CpuView R) (b : Bool) → IsCpu n x v
    → test x ≡ b
    → numbers_from n (drop n (map test v.cpus)) ≡ numbers_from n (b ∷ drop (n + 1) (map test v.cpus))
numbered test v n x b at is = numbers_at (map test v.cpus) n b (slice_get-map test v.cpus n ∙ ap (λ o. option_map test o) at
    ∙ ap Some is)

-- one more CPU
pub grows : {R A : Type 0} (test : CpuView R → Bool) (cpu_of : A → ℕ) (v : CpusView R) (n : ℕ) (x : CpuView R) (way : List A)
    (a : A) → IsCpu n x v → test x ≡ true → cpu_of a ≡ n
    → map cpu_of way ++ numbers_from n (drop n (map test v.cpus)) ≡ map cpu_of (way ++ a ∷ []) ++ numbers_from (n + 1)
    (drop (n + 1) (map test v.cpus))
grows test cpu_of v n x way a at is e = ap (λ ns. map cpu_of way ++ ns) (numbered test v n x true at is)
    ∙ ap (λ i. map cpu_of way ++ i ∷ numbers_from (n + 1) (drop (n + 1) (map test v.cpus))) (sym e)
    ∙ sym (append_assoc (map cpu_of way) (cpu_of a ∷ []) (numbers_from (n + 1) (drop (n + 1) (map test v.cpus))))
    ∙ ap (λ ns. ns ++ numbers_from (n + 1) (drop (n + 1) (map test v.cpus))) (sym (map-append cpu_of way (a ∷ [])))

module _ {R A : Type 0} (On : A → SystemView R → SystemView R → Type 0) (cpu_of worth : A → ℕ) (test : CpuView R → Bool)
    (id position : ℕ) where
  -- so many CPUs were passed; what was done is worth so much
  pub record Walk (n total : ℕ) (v w : CpusView R) (rs rs' : List Record) : Type 0 where
    pub did : (last : ℕ) → (way : List A) × (numbers_from 0 (map test v.cpus) ≡ map cpu_of way ++ numbers_from n
        (drop n (map test v.cpus)))
        × FoldsTo (λ s a t. On a s t) (system v rs last) way (system w rs' last) × (total ≡ sum_by worth way)
    pub withdraws : Withdraws id position v w rs rs'
    pub passed : (m : ℕ) → m < n → has m id w ≡ true → removal_on m w ≡ Some id
    pub ahead : (m : ℕ) → n ≤ m → slice_get w.cpus m ≡ slice_get v.cpus m

  pub walk_start : (v : CpusView R) (rs : List Record) (r : Record) → IsRecord rs position r → Walk 0 0 v v rs rs
  walk_start v rs r is = record {
    did = λ last. ([], refl, refl, refl);
    withdraws = withdraws_none id position v rs r is;
    passed = λ m low. absurd (omega (arith, low));
    ahead = λ m low. refl;
  }

  module _ (n total : ℕ) (v w : CpusView R) (rs rs' : List Record) (k : Walk n total v w rs rs') where
    -- what is ahead of the walk is as it was
    pub ahead_has : has n id w ≡ has n id v
    ahead_has = ap (λ o. among id (option_map_or ids_of o [])) (k.ahead n (omega arith))

    pub ahead_removal : removal_on n w ≡ removal_on n v
    ahead_removal = ap (λ o. option_and_then (λ cpu. cpu.removal) o) (k.ahead n (omega arith))

    pub walk_one : (more : ℕ) (x : CpuView R) (u : CpusView R) (ts : List Record) → IsCpu n x w → test x ≡ true
        → ((last : ℕ) → (a : A) × (cpu_of a ≡ n) × (worth a ≡ more) × On a (system w rs' last) (system u ts last))
        → Withdraws id position w u rs' ts × LeavesAt n id w u → Walk (n + 1) (total + more) v u rs ts
    walk_one more x u ts at is does l = record {
      did = λ last. by last (k.did last) (does last);
      withdraws = withdraws_then id position v w u rs rs' ts k.withdraws l.0;
      passed = λ m low h. dite (ℕ_discrete m n)
          (λ e. ap (λ i. removal_on i u) e ∙ l.1.leaving (ap (λ i. has i id u) (sym e) ∙ h))
          (λ ne. ap (λ o. option_and_then (λ cpu. cpu.removal) o) (l.1.elsewhere m ne)
          ∙ k.passed m (omega (arith, low, ne)) (sym (ap (λ o. among id (option_map_or ids_of o [])) (l.1.elsewhere m ne)) ∙ h));
      ahead = λ m low. l.1.elsewhere m (λ e. omega (arith, low, e)) ∙ k.ahead m (omega (arith, low));
    }
      where
        by : (last : ℕ) → ((way : List A) × (numbers_from 0 (map test v.cpus) ≡ map cpu_of way ++ numbers_from n
            (drop n (map test v.cpus)))
            × FoldsTo (λ s a t. On a s t) (system v rs last) way (system w rs' last) × (total ≡ sum_by worth way))
            → ((a : A) × (cpu_of a ≡ n) × (worth a ≡ more) × On a (system w rs' last) (system u ts last))
            → (way : List A) × (numbers_from 0 (map test v.cpus) ≡ map cpu_of way ++ numbers_from (n + 1)
            (drop (n + 1) (map test v.cpus)))
            × FoldsTo (λ s a t. On a s t) (system v rs last) way (system u ts last) × (total + more ≡ sum_by worth way)
        by last (way, split, works, sum) (a, number, much, on) = (
          way ++ a ∷ [],
          split ∙ grows test cpu_of v n x way a (sym (k.ahead n (omega arith)) ∙ at) is number,
          folds_more (λ s b t. On b s t) (system v rs last) way (system w rs' last) a (system u ts last) works on,
          (let p = sum_by_push worth way a in omega (arith, sum, much, p)),
        )

    pub walk_none : (x : CpuView R) → IsCpu n x w → test x ≡ false → (has n id w ≡ true → removal_on n w ≡ Some id)
        → Walk (n + 1) total v w rs rs'
    walk_none x at is there = record {
      did = λ last. (let (way, split, works, sum) = k.did last in (
        way,
        split ∙ ap (λ ns. map cpu_of way ++ ns) (numbered test v n x false (sym (k.ahead n (omega arith)) ∙ at) is),
        works,
        sum,
      ));
      withdraws = k.withdraws;
      passed = λ m low h. dite (ℕ_discrete m n)
          (λ e. ap (λ i. removal_on i w) e ∙ there (ap (λ i. has i id w) (sym e) ∙ h))
          (λ ne. k.passed m (omega (arith, low, ne)) h);
      ahead = λ m low. k.ahead m (omega (arith, low));
    }

    -- all CPUs were passed
    pub walk_did : length w.cpus ≤ n → (last : ℕ) → (way : List A) × (map cpu_of way ≡ numbers_from 0 (map test v.cpus))
        × FoldsTo (λ s a t. On a s t) (system v rs last) way (system w rs' last) × (total ≡ sum_by worth way)
    walk_did all last = let (way, split, works, sum) = k.did last in (
      way,
      sym (split ∙ ap (λ xs. map cpu_of way ++ numbers_from n xs)
          (drop_all n (map test v.cpus) (let a = length-map v.cpus test in let b = k.withdraws.long in omega (arith, a, b, all)))
          ∙ append-nil (map cpu_of way)),
      works,
      sum,
    )

    pub walk_left : length w.cpus ≤ n → (m : ℕ) → has m id w ≡ true → removal_on m w ≡ Some id
    walk_left all m h = k.passed m (let low = has_low w m id h in omega (arith, low, all)) h

-- the walk on which a removal begins
abbrev pub BeginWalk : {R : Type 0} → Raise R → (id position n total : ℕ)
    → (v w : CpusView R) → (rs rs' : List Record) → Type 0
BeginWalk firing id position = Walk (λ (b : Begun) s t. BeginsOn firing id b.cpu b.found s t) (λ b. b.cpu)
    (λ b. kept_in b.found)
    (λ cpu. list_any (λ own. own == id) (ids_of cpu)) id position

-- the walk on which it is polled
abbrev pub PollWalk : {R : Type 0} → Raise R → (id position n : ℕ) → (v w : CpusView R)
    → (rs rs' : List Record) → Type 0
PollWalk firing id position n = Walk (λ (p : Polled) s t. PollsOn firing id p.cpu p.answer s t) (λ p. p.cpu) (λ p. 0)
    (is_leaving_here id) id position n 0

-- the same of equal values
pub along : {A B C : Type 0} (P : A → B → C → Type 0) (a b : A) (c d : B) (e f : C) → b ≡ a → d ≡ c → f ≡ e → P a c e → P b d f
along P a b c d e f p q r h = subst (λ x. P x d f) (sym p) (subst (λ y. P a y f) (sym q) (subst (λ z. P a c z) (sym r) h))
