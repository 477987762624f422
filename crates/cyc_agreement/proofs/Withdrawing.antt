-- A cyclic leaves its CPUs, one after the other.
use Rattle.std.proofs.Common.{◌≡◌, ◌≢◌, ℕ, zero, suc, ◌<◌, ◌≤◌, Bool, true, false, Option, Some, List, [], ◌∷◌, length, get_or}
use Rattle.std.proofs.Common.{slice_set, option_map, refl, sym, ap, ◌∙◌, subst, arith}
use Rattle.std.specs.List.{slice_get}
use Rattle.std.specs.Option.{option_map_or, option_and_then}
use Rattle.std.proofs.lemmas.Option.{slice_get_within}
use Rattle.std.proofs.lemmas.List.{length-set, get_or-set_other}
use mathlib.Core.Logic.{dite}
use native.Mathlib.Decide.{ℕ_discrete}
use Rattle.cyc_types.specs.declared.firing.Sent.{Sent}
use Rattle.cyc_types.specs.Counting.{no_counts}
use Rattle.cyc_cpu.specs.Cpu.{CpuView}
use Rattle.cyc_places.specs.declared.record.Record.{Record}
use Rattle.cyc_places.specs.Places.{IsRecord, with_ended, ended_on}
use Rattle.cyc_agreement.specs.Cpus.{CpusView, IsCpu, with_cpu}
use Rattle.cyc_agreement.proofs.CpuSpots.{get_set_same, get_set_other}
use Rattle.cyc_agreement.specs.System.{ids_of, has}
use Rattle.cyc_agreement.specs.Agreement.{most_on}
use Rattle.cyc_agreement.proofs.Spots.{same_some, none_some}
use Rattle.cyc_agreement.proofs.Lists.{among, false_true}
use Rattle.cyc_agreement.specs.Withdrawing.{Owns, Withdraws, LeavesAt}
use Rattle.cyc_agreement.proofs.One.{LeavesCpu}

-- ---- lists

-- an element put where it stands
pub set_here : {A : Type 0} (xs : List A) (k : ℕ) (x : A) → slice_get xs k ≡ Some x → slice_set xs k x ≡ xs
set_here [] k x is = absurd (none_some is)
set_here (y ∷ xs) zero x is = ap (λ z. z ∷ xs) (sym (same_some is))
set_here (y ∷ xs) (suc k) x is = ap (λ l. y ∷ l) (set_here xs k x is)

-- the later of two puts at one position stands
pub set_twice : {A : Type 0} (xs : List A) (k : ℕ) (x y : A) → slice_set (slice_set xs k x) k y ≡ slice_set xs k y
set_twice [] k x y = refl
set_twice (z ∷ xs) zero x y = refl
set_twice (z ∷ xs) (suc k) x y = ap (λ l. z ∷ l) (set_twice xs k x y)

-- counts of another CPU
pub ended_beside : (r : Record) (n m : ℕ) (counts : Sent) → m ≢ n → ended_on m (with_ended n counts r) ≡ ended_on m r
ended_beside r n m counts ne = get_or-set_other r.ended n m counts no_counts ne

-- counts of this CPU
ended_few : (r : Record) (n m : ℕ) (counts : Sent) (most : ℕ) → m ≡ n → counts.sent ≤ most
    → (ended_on m (with_ended n counts r)).sent ≤ most
ended_few r n m counts most e few = subst (λ k. (ended_on k (with_ended n counts r)).sent ≤ most) (sym e) (by r.ended n few)
  where
    by : (xs : List Sent) (k : ℕ) → counts.sent ≤ most → (get_or (slice_set xs k counts) k no_counts).sent ≤ most
    by [] k few = omega arith
    by (x ∷ xs) zero few = few
    by (x ∷ xs) (suc k) few = by xs k few

-- ---- one CPU

module _ {R : Type 0} (v : CpusView R) (n : ℕ) (x y : CpuView R) (at : IsCpu n x v) where
  low : n < length v.cpus
  low = slice_get_within v.cpus n x at

  -- a relation between the CPUs before and after
  pub at_each : (P : Option (CpuView R) → Option (CpuView R) → Type 0) → P (Some x) (Some y) → ((o : Option (CpuView R)) → P o o)
      → (m : ℕ)
      → P (slice_get v.cpus m) (slice_get (slice_set v.cpus n y) m)
  at_each P here there m = dite (ℕ_discrete m n)
      (λ e. subst (λ o. P (slice_get v.cpus m) o)
      (sym (ap (λ k. slice_get (slice_set v.cpus n y) k) e ∙ get_set_same v.cpus n y low))
      (subst (λ o. P o (Some y)) (sym (ap (λ k. slice_get v.cpus k) e ∙ at)) here))
      (λ ne. subst (λ o. P (slice_get v.cpus m) o) (sym (get_set_other v.cpus n m y ne)) (there (slice_get v.cpus m)))

module _ {R : Type 0} (v : CpusView R) (n id position : ℕ) (x y : CpuView R) (at : IsCpu n x v) (l : LeavesCpu id x y)
    (rs : List Record) (r : Record)
    (is : IsRecord rs position r) where
  here_is : has n id (with_cpu v n y) ≡ among id (ids_of y)
  here_is = ap (λ o. among id (option_map_or ids_of o [])) (get_set_same v.cpus n y (slice_get_within v.cpus n x at))

  -- the record afterwards
  pub withdrawn : (rs' : List Record) (after : Record) → rs' ≡ slice_set rs position after → after.id ≡ r.id
      → after.placement ≡ r.placement
      → ((m : ℕ) → has m id (with_cpu v n y) ≡ true → ended_on m after ≡ ended_on m r)
      → ((m : ℕ) → has m id v ≡ false → ended_on m after ≡ ended_on m r)
      → ((m most : ℕ) → most_on m v ≡ Some most → (ended_on m r).sent ≤ most → (ended_on m after).sent ≤ most)
      → Withdraws id position v (with_cpu v n y) rs rs' × LeavesAt n id v (with_cpu v n y)
  withdrawn rs' after records same_id same_placement kept beside bounded = (
    record {
      others = λ m q ne. at_each v n x y at (λ a b. among q (option_map_or ids_of b []) ≡ among q (option_map_or ids_of a []))
          (l.others q ne) (λ o. refl) m;
      fewer = at_each v n x y at (λ a b. among id (option_map_or ids_of b []) ≡ true
          → among id (option_map_or ids_of a []) ≡ true) l.fewer (λ o h. h);
      stay_open = λ m q ne. at_each v n x y at
          (λ a b. option_and_then (λ cpu. cpu.removal) a ≡ Some q → option_and_then (λ cpu. cpu.removal) b ≡ Some q)
          (l.stay_open q ne) (λ o h. h) m;
      were_open = λ m q ne. at_each v n x y at
          (λ a b. option_and_then (λ cpu. cpu.removal) b ≡ Some q → option_and_then (λ cpu. cpu.removal) a ≡ Some q)
          (l.were_open q ne) (λ o h. h) m;
      online = refl;
      most = at_each v n x y at (λ a b. option_map (λ cpu. cpu.most) b ≡ option_map (λ cpu. cpu.most) a) (ap Some l.most)
          (λ o. refl);
      suspended = at_each v n x y at (λ a b. option_map (λ cpu. cpu.suspended) b ≡ option_map (λ cpu. cpu.suspended) a)
          (ap Some l.suspended)
          (λ o. refl);
      long = length-set v.cpus n y;
      before = r;
      after = after;
      was = is;
      records = records;
      same_id = same_id;
      same_placement = same_placement;
      kept = kept;
      beside = beside;
      bounded = bounded;
    },
    record {
      leaving = λ h. ap (λ o. option_and_then (λ cpu. cpu.removal) o) (get_set_same v.cpus n y (slice_get_within v.cpus n x at))
          ∙ l.leaving (sym here_is ∙ h);
      elsewhere = λ m ne. get_set_other v.cpus n m y ne;
    },
  )

  -- its removal is open there, or goes on
  pub at_open : (rs' : List Record) → rs' ≡ rs → Withdraws id position v (with_cpu v n y) rs rs'
      × LeavesAt n id v (with_cpu v n y)
  at_open rs' same = withdrawn rs' r (same ∙ sym (set_here rs position r is)) refl refl (λ m h. refl) (λ m h. refl)
      (λ m most h low. low)

  -- it has left
  pub at_end : (rs' : List Record) (counts : Sent) → has n id v ≡ true → among id (ids_of y) ≡ false → counts.sent ≤ x.most
      → rs' ≡ slice_set rs position (with_ended n counts r)
      → Withdraws id position v (with_cpu v n y) rs rs' × LeavesAt n id v (with_cpu v n y)
  at_end rs' counts was gone few records = withdrawn rs' (with_ended n counts r) records refl refl
      (λ m h. ended_beside r n m counts (λ e. false_true (sym gone ∙ sym here_is ∙ ap (λ k. has k id (with_cpu v n y)) (sym e)
      ∙ h)))
      (λ m h. ended_beside r n m counts (λ e. false_true (sym h ∙ ap (λ k. has k id v) e ∙ was)))
      (λ m most h low. dite (ℕ_discrete m n)
      (λ e. ended_few r n m counts most e (subst (λ k. counts.sent ≤ k)
      (same_some (sym (ap (λ o. option_map (λ cpu. cpu.most) o) at) ∙ ap (λ k. most_on k v) (sym e) ∙ h)) few))
      (λ ne. subst (λ (c : Sent). c.sent ≤ most) (sym (ended_beside r n m counts ne)) low))

-- ---- several CPUs

pub withdraws_none : {R : Type 0} (id position : ℕ) (v : CpusView R) (rs : List Record) (r : Record) → IsRecord rs position r
    → Withdraws id position v v rs rs
withdraws_none id position v rs r is = record {
  others = λ n q ne. refl;
  fewer = λ n h. h;
  stay_open = λ n q ne h. h;
  were_open = λ n q ne h. h;
  online = refl;
  most = λ n. refl;
  suspended = λ n. refl;
  long = refl;
  before = r;
  after = r;
  was = is;
  records = sym (set_here rs position r is);
  same_id = refl;
  same_placement = refl;
  kept = λ n h. refl;
  beside = λ n h. refl;
  bounded = λ n most h low. low;
}

pub none_before : {R : Type 0} (id position : ℕ) (v w : CpusView R) (rs rs' : List Record) → Withdraws id position v w rs rs'
    → (n : ℕ)
    → has n id v ≡ false → has n id w ≡ false
none_before id position v w rs rs' a n none = by (has n id w) (a.fewer n)
  where
    by : (b : Bool) → (b ≡ true → has n id v ≡ true) → b ≡ false
    by false h = refl
    by true h = absurd (false_true (sym none ∙ h refl))

-- the record after it
pub now_here : {R : Type 0} (id position : ℕ) (v w : CpusView R) (rs rs' : List Record) (a : Withdraws id position v w rs rs')
    → IsRecord rs' position a.after
now_here id position v w rs rs' a = ap (λ l. slice_get l position) a.records
    ∙ get_set_same rs position a.after (slice_get_within rs position a.before a.was)

pub withdraws_then : {R : Type 0} (id position : ℕ) (u v w : CpusView R) (rs ss ts : List Record)
    → Withdraws id position u v rs ss
    → Withdraws id position v w ss ts → Withdraws id position u w rs ts
withdraws_then id position u v w rs ss ts a b = record {
  others = λ n q ne. b.others n q ne ∙ a.others n q ne;
  fewer = λ n h. a.fewer n (b.fewer n h);
  stay_open = λ n q ne h. b.stay_open n q ne (a.stay_open n q ne h);
  were_open = λ n q ne h. a.were_open n q ne (b.were_open n q ne h);
  online = b.online ∙ a.online;
  most = λ n. b.most n ∙ a.most n;
  suspended = λ n. b.suspended n ∙ a.suspended n;
  long = b.long ∙ a.long;
  before = a.before;
  after = b.after;
  was = a.was;
  records = b.records ∙ ap (λ l. slice_set l position b.after) a.records ∙ set_twice rs position a.after b.after;
  same_id = b.same_id ∙ ap (λ (r : Record). r.id) middle ∙ a.same_id;
  same_placement = b.same_placement ∙ ap (λ (r : Record). r.placement) middle ∙ a.same_placement;
  kept = λ n h. b.kept n h ∙ ap (λ (r : Record). ended_on n r) middle ∙ a.kept n (b.fewer n h);
  beside = λ n h. b.beside n (none_before id position u v rs ss a n h) ∙ ap (λ (r : Record). ended_on n r) middle ∙ a.beside n h;
  bounded = λ n most h low. b.bounded n most (a.most n ∙ h)
      (subst (λ (r : Record). (ended_on n r).sent ≤ most) (sym middle) (a.bounded n most h low));
}
  where
    middle : b.before ≡ a.after
    middle = same_some (sym b.was ∙ now_here id position u v rs ss a)

-- the record is still its own
pub owns_still : {R : Type 0} (id position : ℕ) (v w : CpusView R) (rs rs' : List Record) → Owns id position v rs
    → Withdraws id position v w rs rs' → Owns id position w rs'
owns_still id position v w rs rs' o a = record {
  own = a.after;
  here = now_here id position v w rs rs' a;
  named = a.same_id ∙ ap (λ (r : Record). r.id) same ∙ o.named;
  fresh = λ n h. a.kept n h ∙ ap (λ (r : Record). ended_on n r) same ∙ o.fresh n (a.fewer n h);
}
  where
    same : a.before ≡ o.own
    same = same_some (sym a.was ∙ o.here)
