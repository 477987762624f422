-- A system still agrees with its records after a call that changed no cyclic's placement, and after one that gave an id.
use Rattle.std.proofs.Common.{◌≡◌, ◌≢◌, ℕ, zero, suc, ◌+◌, ◌≤◌, ◌⊎◌, inl, inr, Bool, true, false, Some, List, [], ◌∷◌, ◌++◌}
use Rattle.std.proofs.Common.{length, get_or, replicate, refl, sym, ap, ◌∙◌, subst, arith}
use Rattle.std.specs.List.{slice_get}
use Rattle.std.specs.Option.{option_map_or}
use mathlib.Core.Logic.{dite}
use native.Mathlib.Decide.{ℕ_discrete}
use Rattle.cyc_types.specs.declared.level.Level.{Level}
use Rattle.cyc_types.specs.Counting.{no_counts}
use Rattle.cyc_places.specs.declared.record.Placement.{Placement}
use Rattle.cyc_places.specs.declared.record.Placement.TheVariants.{On}
use Rattle.cyc_places.specs.declared.record.Record.{Record}
use Rattle.cyc_places.specs.Places.{IsRecord, new_record, ended_on}
use Rattle.cyc_agreement.specs.Cpus.{CpusView}
use Rattle.cyc_agreement.specs.System.{SystemView, has, removal_on, is_online, is_everywhere}
use Rattle.cyc_agreement.specs.Agreement.{Agrees, Stands, suspended_on}
use Rattle.cyc_agreement.proofs.Spots.{get_front, get_last, get_either}
use Rattle.cyc_agreement.proofs.Who.{SameWho, SameBeside, SameBut, has_beside, beside_same}

pub online_same : {R : Type 0} (v w : CpusView R) (n : ℕ) → w.online ≡ v.online → is_online n w ≡ is_online n v
online_same v w n e = ap (λ o. option_map_or (λ online. online) (slice_get o n) false) e

pub agrees_beside : {R : Type 0} (s : SystemView R) (w : CpusView R) → Agrees s → SameBeside s.cpus w
    → ((n m : ℕ) (x y : Bool) → suspended_on n w ≡ Some x → suspended_on m w ≡ Some y → x ≡ y) → Agrees (record s { cpus = w })
agrees_beside s w a b alike = record {
  known = λ n id h. (let (k, r, is, named, stands, on) = a.known n id (sym (has_beside s.cpus w b n id) ∙ h) in
      (k, r, is, named, stands, online_same s.cpus w n b.online ∙ on));
  home = λ k n bound r is placement. has_beside s.cpus w b n r.id ∙ a.home k n bound r is placement;
  everywhere = λ k n r is placement on. by n r (a.everywhere k n r is placement (sym (online_same s.cpus w n b.online) ∙ on));
  ended = λ k n r is h. a.ended k n r is (sym (has_beside s.cpus w b n r.id) ∙ h);
  single = a.single;
  given = a.given;
  few = subst (λ n. n ≤ 16) (sym b.long) a.few;
  long = ap (λ (o : List Bool). length o) b.online ∙ a.long ∙ sym b.long;
  some = (a.some.0, online_same s.cpus w a.some.0 b.online ∙ a.some.1);
  most = λ n m x y p q. a.most n m x y (sym (b.most n) ∙ p) (sym (b.most m) ∙ q);
  suspended = alike;
}
  where
    by : (n : ℕ) (r : Record) → (has n r.id s.cpus ≡ true) ⊎ ((m : ℕ) × (removal_on m s.cpus ≡ Some r.id))
        → (has n r.id w ≡ true) ⊎ ((m : ℕ) × (removal_on m w ≡ Some r.id))
    by n r (inl h) = inl (has_beside s.cpus w b n r.id ∙ h)
    by n r (inr (m, e)) = inr (m, b.removals m ∙ e)

pub agrees_same : {R : Type 0} (s : SystemView R) (w : CpusView R) → Agrees s → SameWho s.cpus w → Agrees (record s { cpus = w })
agrees_same s w a b = agrees_beside s w a (beside_same s.cpus w b)
    (λ n m x y p q. a.suspended n m x y (sym (b.suspended n) ∙ p) (sym (b.suspended m) ∙ q))

none_ended : (n k : ℕ) → get_or (replicate n no_counts) k no_counts ≡ no_counts
none_ended zero k = refl
none_ended (suc n) zero = refl
none_ended (suc n) (suc k) = none_ended n k

-- where an id was just given, and its cyclic stands where its record says
pub record Enters {R : Type 0} (id : ℕ) (placement : Placement) (w : CpusView R) : Type 0 where
  pub stands : (n : ℕ) → has n id w ≡ true → Stands n placement × (is_online n w ≡ true)
  pub home : (n : ℕ) (bound : Bool) → placement ≡ On n bound → has n id w ≡ true
  pub everywhere : (n : ℕ) → is_everywhere placement ≡ true → is_online n w ≡ true → has n id w ≡ true

module _ {R : Type 0} (s : SystemView R) (id : ℕ) (level : Level) (placement : Placement) (w : CpusView R)
    (next : id ≡ s.last + 1)
    (a : Agrees s) (b : SameBut id s.cpus w) (c : Enters id placement w) where
  x : Record
  x = new_record id level placement

  old : (k : ℕ) (r : Record) → IsRecord s.records k r → r.id ≢ id
  old k r is e = let l = a.given k r is in absurd (omega (arith, l, next, e))

  new_ended : (n : ℕ) → ended_on n x ≡ no_counts
  unfolding x
  new_ended n = none_ended 16 n

  by_known : (n q : ℕ) → has n q w ≡ true → (k : ℕ) × (r : Record) × IsRecord (s.records ++ x ∷ []) k r × (r.id ≡ q)
      × Stands n r.placement × (is_online n w ≡ true)
  unfolding x
  by_known n q h = dite (ℕ_discrete q id)
      (λ e. let (stands, on) = c.stands n (ap (λ p. has n p w) (sym e) ∙ h) in
      (length s.records, x, get_last s.records x, sym e, stands, on))
      (λ ne. let (k, r, is, named, stands, on) = a.known n q (sym (b.others n q ne) ∙ h) in
      (k, r, get_front s.records x k r is, named, stands, online_same s.cpus w n b.online ∙ on))

  by_home : (k n : ℕ) (bound : Bool) (r : Record) → (IsRecord s.records k r) ⊎ (r ≡ x) → r.placement ≡ On n bound
      → has n r.id w ≡ true
  unfolding x
  by_home k n bound r (inl is) p = b.others n r.id (old k r is) ∙ a.home k n bound r is p
  by_home k n bound r (inr e) p = ap (λ (q : Record). has n q.id w) e
      ∙ c.home n bound (sym (ap (λ (q : Record). q.placement) e) ∙ p)

  by_everywhere : (k n : ℕ) (r : Record) → (IsRecord s.records k r) ⊎ (r ≡ x) → is_everywhere r.placement ≡ true
      → is_online n w ≡ true
      → (has n r.id w ≡ true) ⊎ ((m : ℕ) × (removal_on m w ≡ Some r.id))
  unfolding x
  by_everywhere k n r (inl is) p on = by (a.everywhere k n r is p (sym (online_same s.cpus w n b.online) ∙ on))
    where
      by : (has n r.id s.cpus ≡ true) ⊎ ((m : ℕ) × (removal_on m s.cpus ≡ Some r.id)) → (has n r.id w ≡ true)
          ⊎ ((m : ℕ) × (removal_on m w ≡ Some r.id))
      by (inl h) = inl (b.others n r.id (old k r is) ∙ h)
      by (inr (m, e)) = inr (m, b.removals m r.id (old k r is) e)
  by_everywhere k n r (inr e) p on = inl (ap (λ (q : Record). has n q.id w) e
      ∙ c.everywhere n (sym (ap (λ (q : Record). is_everywhere q.placement) e) ∙ p) on)

  by_ended : (k n : ℕ) (r : Record) → (IsRecord s.records k r) ⊎ (r ≡ x) → has n r.id w ≡ true → ended_on n r ≡ no_counts
  by_ended k n r (inl is) h = a.ended k n r is (sym (b.others n r.id (old k r is)) ∙ h)
  by_ended k n r (inr e) h = ap (λ (q : Record). ended_on n q) e ∙ new_ended n

  by_single : (k n : ℕ) (r : Record) → (IsRecord s.records k r) ⊎ (r ≡ x) → is_everywhere r.placement ≡ false
      → ended_on n r ≡ no_counts
  by_single k n r (inl is) p = a.single k n r is p
  by_single k n r (inr e) p = ap (λ (q : Record). ended_on n q) e ∙ new_ended n

  by_given : (k : ℕ) (r : Record) → (IsRecord s.records k r) ⊎ (r ≡ x) → r.id ≤ id
  unfolding x
  by_given k r (inl is) = let l = a.given k r is in omega (arith, l, next)
  by_given k r (inr e) = let f : r.id ≡ id = ap (λ (q : Record). q.id) e in omega (arith, f)

  pub agrees_given : Agrees (record { cpus = w; records = s.records ++ new_record id level placement ∷ []; last = id })
  unfolding x
  agrees_given = record {
    known = by_known;
    home = λ k n bound r is. by_home k n bound r (get_either s.records x k r is);
    everywhere = λ k n r is. by_everywhere k n r (get_either s.records x k r is);
    ended = λ k n r is. by_ended k n r (get_either s.records x k r is);
    single = λ k n r is. by_single k n r (get_either s.records x k r is);
    given = λ k r is. by_given k r (get_either s.records x k r is);
    few = subst (λ n. n ≤ 16) (sym b.long) a.few;
    long = ap (λ (o : List Bool). length o) b.online ∙ a.long ∙ sym b.long;
    some = (a.some.0, online_same s.cpus w a.some.0 b.online ∙ a.some.1);
    most = λ n m p q e f. a.most n m p q (sym (b.most n) ∙ e) (sym (b.most m) ∙ f);
    suspended = λ n m p q e f. a.suspended n m p q (sym (b.suspended n) ∙ e) (sym (b.suspended m) ∙ f);
  }
