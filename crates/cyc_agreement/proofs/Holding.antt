-- What every system keeps, after a call that opened no removal and ended no stay.
use Rattle.std.proofs.Common.{◌≡◌, ◌≢◌, ℕ, ◌<◌, ◌≤◌, ◌⊎◌, inl, inr, true, Some, List, [], ◌∷◌, ◌++◌, length, slice_set, refl, sym}
use Rattle.std.proofs.Common.{ap, ◌∙◌, subst, arith}
use Rattle.std.specs.List.{slice_get}
use Rattle.std.proofs.lemmas.Option.{slice_get_within}
use mathlib.Core.Logic.{dite}
use Rattle.cyc_types.specs.Counting.{no_counts}
use native.Mathlib.Decide.{ℕ_discrete}
use Rattle.cyc_places.specs.declared.record.Placement.{Placement}
use Rattle.cyc_places.specs.declared.record.Record.{Record}
use Rattle.cyc_places.specs.Places.{IsRecord, ended_on, with_placement}
use Rattle.cyc_agreement.specs.Cpus.{CpusView, new_cpus}
use Rattle.cyc_agreement.proofs.CpuSpots.{get_set_same, get_set_other}
use Rattle.cyc_agreement.specs.System.{SystemView, has, removal_on}
use Rattle.cyc_agreement.specs.Agreement.{Agrees, most_on}
use Rattle.cyc_agreement.specs.Holding.{LeaveWhole, EndedWithin, Holds}
use Rattle.cyc_agreement.proofs.Spots.{same_some, none_some, get_either}
use Rattle.cyc_agreement.proofs.Lists.{false_true}
use Rattle.cyc_agreement.proofs.Beginning.{agrees_new, none_has}
use Rattle.cyc_agreement.proofs.Given.{agrees_same}
use Rattle.cyc_agreement.proofs.Who.{SameWho, SameBut, has_same}

-- the cyclics that are leaving are where they were, and no other removal is open
pub whole_kept : {R : Type 0} (v w : CpusView R) → ((n : ℕ) → removal_on n w ≡ removal_on n v)
    → ((m n id : ℕ) → removal_on m v ≡ Some id → has n id w ≡ true → has n id v ≡ true) → LeaveWhole v → LeaveWhole w
whole_kept v w removals back whole m n id e h = let was = sym (removals m) ∙ e in removals n
    ∙ whole m n id was (back m n id was h)

pub whole_same : {R : Type 0} (v w : CpusView R) → SameWho v w → LeaveWhole v → LeaveWhole w
whole_same v w same whole = whole_kept v w same.removals (λ m n id e h. sym (has_same v w same n id) ∙ h) whole

-- each record's ended counts were there before, or are small
pub within_kept : {R : Type 0} (s t : SystemView R) → ((n : ℕ) → most_on n t.cpus ≡ most_on n s.cpus)
    → ((k n most : ℕ) (r : Record) → IsRecord t.records k r → most_on n s.cpus ≡ Some most
    → ((j : ℕ) × (q : Record) × IsRecord s.records j q × (ended_on n r ≡ ended_on n q)) ⊎ ((ended_on n r).sent ≤ most))
    → EndedWithin s → EndedWithin t
within_kept s t most each within k n m r is e = by (each k n m r is (sym (most n) ∙ e))
  where
    by : ((j : ℕ) × (q : Record) × IsRecord s.records j q × (ended_on n r ≡ ended_on n q)) ⊎ ((ended_on n r).sent ≤ m)
        → (ended_on n r).sent ≤ m
    by (inl (j, q, at, same)) = let l = within j n m q at (sym (most n) ∙ e) in let f = ap (λ c. c.sent) same in
        omega (arith, l, f)
    by (inr few) = few

pub within_same : {R : Type 0} (s t : SystemView R) → ((n : ℕ) → most_on n t.cpus ≡ most_on n s.cpus) → t.records ≡ s.records
    → EndedWithin s → EndedWithin t
within_same s t most same within = within_kept s t most (λ k n m r is e. inl (k, r, subst (λ rs. IsRecord rs k r) same is, refl))
    within

-- what holds where the CPUs have their cyclics and their removals, and the records are as they were
pub holds_same : {R : Type 0} (s : SystemView R) (w : CpusView R) → Holds s → SameWho s.cpus w → Holds (record s { cpus = w })
holds_same s w h same = record {
  agrees = agrees_same s w h.agrees same;
  whole = whole_same s.cpus w same h.whole;
  within = within_same s (record s { cpus = w }) same.most refl h.within;
}

-- a new system
pub holds_new : {R : Type 0} (most last : ℕ) (ends : List (R × R)) → 0 < length ends → length ends ≤ 16
    → Holds (record { cpus = new_cpus most ends; records = []; last = last })
holds_new {R} most last ends some few = record {
  agrees = agrees_new most last ends some few;
  whole = λ m n id e h. absurd (false_true (sym (none_has most ends n id) ∙ h));
  within = λ k n m r is. absurd (none_some is);
}

-- the cyclic of a new id is on these CPUs, which have the removals that they had
pub holds_given : {R : Type 0} (s t : SystemView R) (id : ℕ) (r : Record) → Holds s → Agrees t → SameBut id s.cpus t.cpus
    → ((n : ℕ) → removal_on n t.cpus ≡ removal_on n s.cpus)
    → ((n : ℕ) → removal_on n s.cpus ≢ Some id) → t.records ≡ s.records ++ r ∷ [] → ((n : ℕ) → ended_on n r ≡ no_counts) → Holds t
holds_given s t id r h agrees but removals still records none = record {
  agrees = agrees;
  whole = whole_kept s.cpus t.cpus removals (λ m n q e has_now. sym (but.others n q (λ same. still m (e ∙ ap Some same)))
      ∙ has_now) h.whole;
  within = within_kept s t but.most (λ k n m q is e. by k n m q
      (get_either s.records r k q (subst (λ rs. IsRecord rs k q) records is))) h.within;
}
  where
    by : (k n m : ℕ) (q : Record) → (IsRecord s.records k q) ⊎ (q ≡ r)
        → ((j : ℕ) × (p : Record) × IsRecord s.records j p × (ended_on n q ≡ ended_on n p)) ⊎ ((ended_on n q).sent ≤ m)
    by k n m q (inl at) = inl (k, q, at, refl)
    by k n m q (inr e) = inr (let z = ap (λ c. c.sent) (ap (λ p. ended_on n p) e ∙ none n) in omega (arith, z))

-- a cyclic whose removal is not open has another placement
pub holds_moved : {R : Type 0} (s t : SystemView R) (k : ℕ) (r : Record) (placement : Placement) → Holds s → Agrees t
    → SameBut r.id s.cpus t.cpus
    → ((n : ℕ) → removal_on n t.cpus ≡ removal_on n s.cpus) → ((n : ℕ) → removal_on n s.cpus ≢ Some r.id)
    → IsRecord s.records k r → t.records ≡ slice_set s.records k (with_placement placement r) → Holds t
holds_moved s t k r placement h agrees but removals still here records = record {
  agrees = agrees;
  whole = whole_kept s.cpus t.cpus removals (λ m n q e has_now. sym (but.others n q (λ same. still m (e ∙ ap Some same)))
      ∙ has_now) h.whole;
  within = within_kept s t but.most (λ j n m q is e. inl (by j n q (subst (λ rs. IsRecord rs j q) records is))) h.within;
}
  where
    by : (j n : ℕ) (q : Record) → IsRecord (slice_set s.records k (with_placement placement r)) j q
        → (i : ℕ) × (p : Record) × IsRecord s.records i p × (ended_on n q ≡ ended_on n p)
    by j n q is = dite (ℕ_discrete j k)
        (λ e. (
          k,
          r,
          here,
          ap (λ p. ended_on n p) (same_some (sym is ∙ ap (λ i. slice_get (slice_set s.records k (with_placement placement r)) i) e
              ∙ get_set_same s.records k (with_placement placement r) (slice_get_within s.records k r here))),
        ))
        (λ ne. (j, q, sym (get_set_other s.records k j (with_placement placement r) ne) ∙ is, refl))
