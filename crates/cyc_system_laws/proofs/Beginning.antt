-- A removal that stays open as it begins has found a CPU that has not settled.
use Rattle.std.proofs.Common.{◌≡◌, ◌≢◌, ◌∙◌, ◌==◌, ℕ, zero, suc, ◌+◌, ◌⊎◌, inl, inr, Bool, true, false, Some, None, Ok, Err, List}
use Rattle.std.proofs.Common.{[], ◌∷◌, length, map, refl, sym, ap, subst, arith}
use Rattle.std.specs.List.{slice_get, list_any, FoldsTo}
use Rattle.std.specs.Option.{option_map, option_map_or}
use Rattle.std.proofs.lemmas.Option.{slice_get-map, slice_get_within}
use Rattle.std.proofs.lemmas.List.{length-set}
use mathlib.Core.Logic.{dite}
use native.Mathlib.Decide.{ℕ_discrete}
use Rattle.cyc_types.specs.declared.Raise.{Ghosts as Raise}
use Rattle.cyc_cpu.specs.declared.removing.Removal.{Removal}
use Rattle.cyc_cpu.specs.declared.removing.Removal.TheVariants.{Done, Kept}
use Rattle.cyc_cpu.specs.Cpu.{CpuView, running}
use Rattle.cyc_cpu.specs.Laws.{IsLawful}
use Rattle.cyc_cpu.specs.Moving.{IsSettled}
use Rattle.cyc_cpu.specs.Calls.{CpuChanges as CpuChanges, no_interrupts, BeginRemove as CpuBegin}
use Rattle.cyc_cpu_laws.proofs.Staying.{none_settled, settled_one, never_put_off}
use Rattle.cyc_agreement.specs.Cpus.{CpusView, IsCpu, on, DoesAt, numbers_from}
use Rattle.cyc_agreement.proofs.CpuSpots.{get_set_same, get_set_other}
use Rattle.cyc_system.specs.System.{SystemView, ids_of, has}
use Rattle.cyc_system.proofs.Lists.{among, false_true}
use Rattle.cyc_system.proofs.Spots.{same_some, get_some}
use Rattle.cyc_system.proofs.Presence.{has_low}
use Rattle.cyc_system.proofs.Who.{ids_there}
use Rattle.cyc_system.specs.SystemRemoval.TheVariants as over
use Rattle.cyc_system.specs.Removing.{Begun, BeginsOn, cpus_with}
use Rattle.cyc_system.specs.Counts.{AreLawful}
use Rattle.cyc_system.proofs.Folds.{folds_known, Known}
use Rattle.cyc_system.proofs.One.{less_done}
use Rattle.cyc_system.proofs.Where.{nowhere}
use Rattle.cyc_system.specs.Calls.{Changes, BeginRemove}
use Rattle.cyc_system_laws.specs.Settling.{IsAmong}
use Rattle.cyc_system_laws.proofs.Settles.{NotSettled, rests_at, not_before, no_calls}

-- one of these numbers
abbrev In : ℕ → List ℕ → Type 0
In n [] = ⊥
In n (m ∷ ms) = (n ≡ m) ⊎ In n ms

is_among : (n : ℕ) (ms : List ℕ) → In n ms → IsAmong n ms
is_among n [] h = absurd h
is_among n (m ∷ ms) (inl e) = ([], (ms, ap (λ k. k ∷ ms) (sym e)))
is_among n (m ∷ ms) (inr h) = let (before, (after, is)) = is_among n ms h in (m ∷ before, (after, ap (λ l. m ∷ l) is))

numbered_in : (k : ℕ) (tests : List Bool) (j : ℕ) → slice_get tests j ≡ Some true → In (k + j) (numbers_from k tests)
numbered_in k [] j at = absurd (let odd : None ≡ Some true = at in cc)
numbered_in k (true ∷ tests) zero at = inl (omega arith)
numbered_in k (true ∷ tests) (suc j) at = inr (subst (λ n. In n (numbers_from (k + 1) tests))
    (let e : (k + 1) + j ≡ k + suc j = omega arith in e) (numbered_in (k + 1) tests j at))
numbered_in k (false ∷ tests) zero at = absurd (false_true (same_some at))
numbered_in k (false ∷ tests) (suc j) at = subst (λ n. In n (numbers_from (k + 1) tests))
    (let e : (k + 1) + j ≡ k + suc j = omega arith in e) (numbered_in (k + 1) tests j at)

module _ {R : Type 0} (firing : Raise R) (id : ℕ) where
  with_in : (v : CpusView R) (n : ℕ) → has n id v ≡ true → In n (cpus_with id v)
  with_in v n h = let (x, at) = get_some v.cpus n (has_low v n id h) in
      subst (λ k. In k (cpus_with id v)) (let e : 0 + n ≡ n = omega arith in e)
      (numbered_in 0 (map (λ cpu. list_any (λ own. own == id) (ids_of cpu)) v.cpus) n
      (slice_get-map (λ cpu. list_any (λ own. own == id) (ids_of cpu)) v.cpus n
      ∙ ap (λ o. option_map (λ (cpu : CpuView R). list_any (λ own. own == id) (ids_of cpu)) o) at
      ∙ ap Some (sym (ap (λ ids. among id ids) (ids_there v n x x at)) ∙ h)))

  elsewhere : (b : Begun) (s t : SystemView R) → BeginsOn firing id b.cpu b.found s t → (m : ℕ) → m ≢ b.cpu
      → slice_get t.cpus.cpus m ≡ slice_get s.cpus.cpus m
  elsewhere b s t begins m ne = by b.found begins
    where
      by : (found : Removal) → BeginsOn firing id b.cpu found s t → slice_get t.cpus.cpus m ≡ slice_get s.cpus.cpus m
      by (Done receipt) d = ap (λ (u : CpusView R). slice_get u.cpus m) d.0.rest ∙ get_set_other s.cpus.cpus b.cpu m d.0.after ne
      by (Kept kept) d = ap (λ (u : CpusView R). slice_get u.cpus m) d.0.rest ∙ get_set_other s.cpus.cpus b.cpu m d.0.after ne

  done_settled : (x y : CpuView R) (receipt : _) → CpuChanges firing x (CpuBegin id (Ok (Done receipt))) y
      → IsSettled firing.view x
      → IsSettled firing.view y
  done_settled x y receipt d settled =
      settled_one firing no_calls no_interrupts (none_settled firing)
      (running tt x) (running tt y) (CpuBegin id (Ok (Done receipt))) settled tt d.1.4.size (d, refl)

  kept_unsettled : (x y : CpuView R) (kept : ℕ) → CpuChanges firing x (CpuBegin id (Ok (Kept kept))) y → IsSettled firing.view x
      → ⊥
  kept_unsettled x y kept d settled =
      never_put_off firing no_calls no_interrupts (none_settled firing)
      (running tt x) (running tt y) (CpuBegin id (Ok (Kept kept))) settled (d, refl) tt

  -- one of these was found with calls outstanding, or none has the cyclic any more
  abbrev Found : List Begun → SystemView R → SystemView R → Type 0
  Found way s t = ((n : ℕ) × In n (map (λ b. b.cpu) way) × NotSettled firing n s.cpus)
      ⊎ ((n : ℕ) → has n id t.cpus ≡ false)

  abbrev Knows : Begun → SystemView R → SystemView R → Type 0
  Knows b s t =
      Known (λ (a : Begun) x y. BeginsOn firing id a.cpu a.found x y) (λ a. a.cpu) (λ x. IsLawful firing.view x) elsewhere b s t

  not_here : (n : ℕ) (s t : SystemView R) (b : Begun) (receipt : _)
      → (d : DoesAt firing s.cpus (on b.cpu (CpuBegin id (Ok (Done receipt)))) t.cpus) → IsLawful firing.view d.before
      → has n id t.cpus ≡ true → (n ≢ b.cpu) × (has n id s.cpus ≡ true)
  not_here n s t b receipt d law h = dite (ℕ_discrete n b.cpu)
      (λ e. absurd (false_true (sym (less_done firing id d.before d.after law receipt d.change).gone
      ∙ sym (ap (λ ids. among id ids) (ids_there t.cpus b.cpu d.after d.after
      (ap (λ (u : CpusView R). slice_get u.cpus b.cpu) d.rest
      ∙ get_set_same s.cpus.cpus b.cpu d.after (slice_get_within s.cpus.cpus b.cpu d.before d.here))))
      ∙ subst (λ k. has k id t.cpus ≡ true) e h)))
      (λ ne. (
        ne,
        ap (λ o. among id (option_map_or ids_of o [])) (sym (ap (λ (u : CpusView R). slice_get u.cpus n) d.rest
            ∙ get_set_other s.cpus.cpus b.cpu n d.after ne)) ∙ h,
      ))

  found_in : (way : List Begun) (s t : SystemView R) → FoldsTo (λ u b w. Knows b u w) s way t
      → ((n : ℕ) → has n id s.cpus ≡ true → In n (map (λ b. b.cpu) way)) → Found way s t
  found_in [] s t run all = inr (λ n. none n (has n id t.cpus) refl)
    where
      none : (n : ℕ) (b : Bool) → has n id t.cpus ≡ b → has n id t.cpus ≡ false
      none n false e = e
      none n true e = absurd (all n (subst (λ (u : SystemView R). has n id u.cpus ≡ true) (sym run) e))
  found_in (b ∷ way) s t (u, (begins, law), rest) all = by b.found begins (found_in way u t rest)
    where
      after : (receipt : _) (d : DoesAt firing s.cpus (on b.cpu (CpuBegin id (Ok (Done receipt)))) u.cpus) → Found way u t
          → Found (b ∷ way) s t
      after receipt d (inl (n, here, not)) = inl (
        n,
        inr here,
        not_before firing n s.cpus u.cpus
            (ap (λ (z : CpusView R). length z.cpus) d.rest ∙ length-set s.cpus.cpus b.cpu d.after)
            (rests_at firing n b.cpu _ s.cpus u.cpus d (λ e. done_settled d.before d.after receipt d.change)) not,
      )
      after receipt d (inr none) = inr none

      tail : (n : ℕ) → n ≢ b.cpu → In n (b.cpu ∷ map (λ (a : Begun). a.cpu) way) → In n (map (λ (a : Begun). a.cpu) way)
      tail n ne (inl e) = absurd (ne e)
      tail n ne (inr h) = h

      by : (found : Removal) → BeginsOn firing id b.cpu found s u
          → (((n : ℕ) → has n id u.cpus ≡ true → In n (map (λ a. a.cpu) way)) → Found way u t) → Found (b ∷ way) s t
      by (Kept kept) (d, records, last) more =
          inl (b.cpu, inl refl, (d.before, d.here, kept_unsettled d.before d.after kept d.change))
      by (Done receipt) (d, k, r, is, named, records, last) more = after receipt d (more
          (λ n h. (let (ne, was) = not_here n s u b receipt d (law d.before d.here) h in tail n ne (all n was))))

  pub kept_found : (calls : ℕ) (s t : SystemView R) → AreLawful firing.view s
      → Changes firing s (BeginRemove id (Ok (over.Kept calls))) t
      → (n : ℕ) × (cpu : CpuView R) × IsCpu n cpu s.cpus × IsAmong n (cpus_with id s.cpus) × (IsSettled firing.view cpu → ⊥)
  kept_found calls s t lawful (inl (e, why, is, same)) = absurd (let odd : Ok (over.Kept calls) ≡ Err e = is in cc)
  kept_found calls s t lawful (inr (clear, (way, cpus, each, some, sum))) =
      by (found_in way s t (folds_known (λ (a : Begun) x y. BeginsOn firing id a.cpu a.found x y) (λ a. a.cpu)
      (λ x. IsLawful firing.view x) elsewhere 0 (map (λ cpu. list_any (λ own. own == id) (ids_of cpu)) s.cpus.cpus) way s t cpus
      (λ j x is at. lawful (0 + j) x at) each)
      (λ n h. subst (λ ns. In n ns) (sym cpus) (with_in s.cpus n h)))
    where
      by : Found way s t
          → (n : ℕ) × (cpu : CpuView R) × IsCpu n cpu s.cpus × IsAmong n (cpus_with id s.cpus) × (IsSettled firing.view cpu → ⊥)
      by (inl (n, here, (cpu, at, not))) = (n, cpu, at, is_among n (cpus_with id s.cpus) (subst (λ ns. In n ns) cpus here), not)
      by (inr none) = absurd (some (nowhere id t.cpus none))
