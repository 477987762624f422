-- Which CPUs have a cyclic, and where its removal is open.
use Rattle.std.proofs.Common.{◌≡◌, ◌≢◌, ◌==◌, ℕ, zero, suc, ◌+◌, Bool, true, false, Option, Some, None, List, [], ◌∷◌, map}
use Rattle.std.proofs.Common.{option_map, refl, sym, ap, ◌∙◌, arith}
use Rattle.std.specs.List.{slice_get, list_any}
use Rattle.std.specs.Option.{option_map_or}
use Rattle.std.proofs.lemmas.Option.{slice_get-map, get_or_from_slice_get}
use Rattle.cyc_types.specs.Firing.{FiringView}
use Rattle.cyc_cpu.specs.Cpu.{CpuView}
use Rattle.cyc_cpu.specs.Laws.{IsLawful}
use Rattle.cyc_agreement.specs.Cpus.{CpusView, IsCpu, numbers_from}
use Rattle.cyc_agreement.specs.System.{ids_of, has, removal_on, is_leaving_here}
use Rattle.cyc_agreement.proofs.Spots.{get_some, same_some, none_some}
use Rattle.cyc_agreement.proofs.Lists.{among, any_position, false_true}
use Rattle.cyc_agreement.proofs.Presence.{has_low, not_leaving}
use Rattle.cyc_agreement.specs.Removing.{cpus_with}
use Rattle.cyc_agreement.specs.Polling.{leaving_cpus}
use Rattle.cyc_agreement.proofs.One.{is_leaving_open, leaving_is, removal_there, open_here}

-- no test is true
none_numbered : (k : ℕ) (tests : List Bool) → ((j : ℕ) → slice_get tests j ≢ Some true) → numbers_from k tests ≡ []
none_numbered k [] none = refl
none_numbered k (true ∷ tests) none = absurd (none 0 refl)
none_numbered k (false ∷ tests) none = none_numbered (k + 1) tests (λ j. none (suc j))

-- one is
some_numbered : (k : ℕ) (tests : List Bool) (j : ℕ) → slice_get tests j ≡ Some true → numbers_from k tests ≢ []
some_numbered k [] j is e = none_some is
some_numbered k (true ∷ tests) j is e = (let odd : k ∷ numbers_from (k + 1) tests ≡ [] = e in cc)
some_numbered k (false ∷ tests) zero is e = false_true (same_some is)
some_numbered k (false ∷ tests) (suc j) is e = some_numbered (k + 1) tests j is e

-- one alone is
one_numbered : (k : ℕ) (tests : List Bool) (j : ℕ) → slice_get tests j ≡ Some true
    → ((i : ℕ) → slice_get tests i ≡ Some true → i ≡ j) → numbers_from k tests ≡ (k + j) ∷ []
one_numbered k [] j is only = absurd (none_some is)
one_numbered k (true ∷ tests) zero is only = ap (λ ns. k ∷ ns) (none_numbered (k + 1) tests
    (λ i e. let odd = only (suc i) e in omega (arith, odd))) ∙ ap (λ i. i ∷ []) (let e : k ≡ k + 0 = omega arith in e)
one_numbered k (true ∷ tests) (suc j) is only = absurd (let odd = only 0 refl in omega (arith, odd))
one_numbered k (false ∷ tests) zero is only = absurd (false_true (same_some is))
one_numbered k (false ∷ tests) (suc j) is only = one_numbered (k + 1) tests j is
    (λ i e. let f = only (suc i) e in omega (arith, f)) ∙ ap (λ i. i ∷ []) (let e : k + 1 + j ≡ k + suc j = omega arith in e)

module _ {R : Type 0} (id : ℕ) (v : CpusView R) where
  tested_at : (n : ℕ) → slice_get (map (λ cpu. list_any (λ own. own == id) (ids_of cpu)) v.cpus) n ≡ Some true → has n id v ≡ true
  tested_at n is = by (slice_get v.cpus n) (sym (slice_get-map (λ cpu. list_any (λ own. own == id) (ids_of cpu)) v.cpus n) ∙ is)
    where
      by : (o : Option (CpuView R)) → option_map (λ cpu. list_any (λ own. own == id) (ids_of cpu)) o ≡ Some true
          → among id (option_map_or ids_of o []) ≡ true
      by None e = absurd (none_some e)
      by (Some x) e = same_some e

  pub nowhere : ((n : ℕ) → has n id v ≡ false) → cpus_with id v ≡ []
  nowhere none = none_numbered 0 (map (λ cpu. list_any (λ own. own == id) (ids_of cpu)) v.cpus)
      (λ n is. false_true (sym (none n) ∙ tested_at n is))

  pub somewhere : (n : ℕ) → has n id v ≡ true → cpus_with id v ≢ []
  somewhere n h = let (x, at) = get_some v.cpus n (has_low v n id h) in
      some_numbered 0 (map (λ cpu. list_any (λ own. own == id) (ids_of cpu)) v.cpus) n
      (slice_get-map (λ cpu. list_any (λ own. own == id) (ids_of cpu)) v.cpus n
      ∙ ap (λ o. option_map (λ cpu. list_any (λ own. own == id) (ids_of cpu)) o) at
      ∙ ap Some (sym (ap (λ o. among id (option_map_or ids_of o [])) at) ∙ h))

  -- a CPU on which the removal is open
  pub open_somewhere : list_any (is_leaving_here id) v.cpus ≡ true → (n : ℕ) × (x : CpuView R) × IsCpu n x v
      × (removal_on n v ≡ Some id) × (x.removal ≡ Some id)
  open_somewhere some = let (n, low, passes) = any_position (is_leaving_here id) v.cpus some in let (x, at) =
      get_some v.cpus n low in
      let own = is_leaving_open id x (sym (ap (is_leaving_here id) (get_or_from_slice_get v.cpus n x x at)) ∙ passes x) in
      (n, x, at, removal_there v n x at ∙ own, own)

  -- the cyclic is there
  pub leaving_somewhere : (view : R → FiringView) → ((n : ℕ) (x : CpuView R) → IsCpu n x v → IsLawful view x)
      → list_any (is_leaving_here id) v.cpus ≡ true
      → (n : ℕ) × (has n id v ≡ true) × (removal_on n v ≡ Some id)
  leaving_somewhere view law some = let (n, x, at, is, own) = open_somewhere some in
      (n, open_here view v n id x (law n x at) at own, is)

  -- where it is open on no CPU, and a CPU that has the cyclic would have it open
  pub left_all : list_any (is_leaving_here id) v.cpus ≡ false → ((n : ℕ) → has n id v ≡ true → removal_on n v ≡ Some id) → (n : ℕ)
      → has n id v ≡ false
  left_all none leaving n = by (has n id v) refl
    where
      by : (b : Bool) → has n id v ≡ b → b ≡ false
      by false e = refl
      by true e = let (x, at) = get_some v.cpus n (has_low v n id e) in
          absurd (not_leaving v id none n x at (sym (removal_there v n x at) ∙ leaving n e))

  -- ---- one CPU alone has it
  module _ (n : ℕ) (only : (m : ℕ) → has m id v ≡ true → m ≡ n) where
    pub alone : has n id v ≡ true → cpus_with id v ≡ n ∷ []
    alone h = let (x, at) = get_some v.cpus n (has_low v n id h) in
        one_numbered 0 (map (λ cpu. list_any (λ own. own == id) (ids_of cpu)) v.cpus) n
        (slice_get-map (λ cpu. list_any (λ own. own == id) (ids_of cpu)) v.cpus n
        ∙ ap (λ o. option_map (λ cpu. list_any (λ own. own == id) (ids_of cpu)) o) at
        ∙ ap Some (sym (ap (λ o. among id (option_map_or ids_of o [])) at) ∙ h))
        (λ m is. only m (tested_at m is)) ∙ ap (λ i. i ∷ []) (let e : 0 + n ≡ n = omega arith in e)

    module _ (view : R → FiringView) (law : (m : ℕ) (x : CpuView R) → IsCpu m x v → IsLawful view x) where
      open_at : (m : ℕ) → slice_get (map (is_leaving_here id) v.cpus) m ≡ Some true → m ≡ n
      open_at m is = by (slice_get v.cpus m) refl (sym (slice_get-map (is_leaving_here id) v.cpus m) ∙ is)
        where
          by : (o : Option (CpuView R)) → slice_get v.cpus m ≡ o → option_map (is_leaving_here id) o ≡ Some true → m ≡ n
          by None at e = absurd (none_some e)
          by (Some x) at e = only m (open_here view v m id x (law m x at) at (is_leaving_open id x (same_some e)))

      -- where its removal is open, it is there alone
      pub leaving_alone : (x : CpuView R) → IsCpu n x v → is_leaving_here id x ≡ true → leaving_cpus id v ≡ n ∷ []
      leaving_alone x at is = one_numbered 0 (map (is_leaving_here id) v.cpus) n
          (slice_get-map (is_leaving_here id) v.cpus n ∙ ap (λ o. option_map (is_leaving_here id) o) at ∙ ap Some is)
          open_at ∙ ap (λ i. i ∷ []) (let e : 0 + n ≡ n = omega arith in e)

      -- and where it is not open there, it is open nowhere
      pub shut_alone : (x : CpuView R) → IsCpu n x v → is_leaving_here id x ≡ false → list_any (is_leaving_here id) v.cpus ≡ false
      shut_alone x at is = by (list_any (is_leaving_here id) v.cpus) refl
        where
          by : (b : Bool) → list_any (is_leaving_here id) v.cpus ≡ b → b ≡ false
          by false e = refl
          by true e = let (m, y, there, open_there, own) = open_somewhere e in
              let same = only m (open_here view v m id y (law m y there) there own) in
              let z : y ≡ x = same_some (sym there ∙ ap (λ k. slice_get v.cpus k) same ∙ at) in
              absurd (false_true (sym is ∙ leaving_is id x (ap (λ (c : CpuView R). c.removal) (sym z) ∙ own)))
