-- A system still agrees with its records after a cyclic left some of its CPUs, or all of them.
use Rattle.std.proofs.Common.{◌≡◌, ◌≢◌, ℕ, ◌≤◌, ◌⊎◌, inl, inr, Bool, true, false, Some, List, length, slice_set, refl, sym, ap}
use Rattle.std.proofs.Common.{◌∙◌, subst, arith}
use Rattle.std.specs.Prelude.{remove}
use Rattle.std.proofs.lemmas.Option.{slice_get_within, get_or_from_slice_get}
use mathlib.Core.Logic.{dite}
use Rattle.cyc_types.specs.Counting.{no_counts}
use native.Mathlib.Decide.{ℕ_discrete}
use Rattle.cyc_places.specs.declared.record.Placement.{Placement}
use Rattle.cyc_places.specs.declared.record.Placement.TheVariants.{On, Everywhere}
use Rattle.cyc_places.specs.declared.record.Record.{Record}
use Rattle.cyc_places.specs.Places.{IsRecord, HasNoRecord, HasRisingIds, ended_on}
use Rattle.cyc_agreement.specs.Cpus.{CpusView}
use Rattle.cyc_agreement.specs.System.{has, removal_on, is_online, is_everywhere}
use Rattle.cyc_agreement.specs.Agreement.{Agrees, Stands}
use Rattle.cyc_agreement.proofs.Spots.{same_some}
use Rattle.cyc_agreement.proofs.Lists.{false_true}
use Rattle.cyc_agreement.proofs.Recording.{one_record}
use Rattle.cyc_agreement.proofs.Given.{online_same}
use Rattle.cyc_agreement.specs.Holding.{LeaveWhole, EndedWithin, Holds}
use Rattle.cyc_agreement.specs.Withdrawing.{system, Owns, Withdraws}
use Rattle.cyc_agreement.proofs.Removed.{either, stands_still, left_one, other_left}
use Rattle.cyc_agreement.proofs.Withdrawing.{now_here}

-- a placement that is not everywhere is one CPU
one_home : (p : Placement) (n m : ℕ) → is_everywhere p ≡ false → Stands n p → Stands m p → n ≡ m
one_home (On k bound) n m e a b = sym a ∙ b
one_home (Everywhere first skew) n m e a b = absurd (false_true (sym e))

stands_at : (p : Placement) (n m : ℕ) (bound : Bool) → p ≡ On n bound → Stands m p → m ≡ n
stands_at (On k own) n m bound e a = sym a ∙ same e
  where
    same : {i j : ℕ} {b c : Bool} → On i b ≡ On j c → i ≡ j
    same {i} {j} {b} {c} f = cc
stands_at (Everywhere first skew) n m bound e a = absurd (let odd : Everywhere first skew ≡ On n bound = e in cc)

-- where a removal is open, it still is wherever its cyclic is
pub whole_still : {R : Type 0} (id position : ℕ) (v w : CpusView R) (rs rs' : List Record) → LeaveWhole v
    → Withdraws id position v w rs rs'
    → ((n : ℕ) → has n id w ≡ true → removal_on n w ≡ Some id) → LeaveWhole w
whole_still id position v w rs rs' whole d leaving m n q is h = dite (ℕ_discrete q id)
    (λ e. leaving n (ap (λ i. has n i w) (sym e) ∙ h) ∙ ap Some (sym e))
    (λ ne. d.stay_open n q ne (whole m n q (d.were_open m q ne is) (sym (d.others n q ne) ∙ h)))

module _ {R : Type 0} (v w : CpusView R) (rs rs' : List Record) (last id position : ℕ) (a : Agrees (system v rs last))
    (rising : HasRisingIds rs)
    (o : Owns id position v rs) (d : Withdraws id position v w rs rs') where
  named : d.before.id ≡ id
  named = ap (λ (r : Record). r.id) (same_some (sym d.was ∙ o.here)) ∙ o.named

  id_now : d.after.id ≡ id
  id_now = d.same_id ∙ named

  -- the cyclic is where its record says
  stood : (n : ℕ) → has n id w ≡ true → Stands n d.after.placement × (is_online n w ≡ true)
  stood n h = let (k, r, is, own, stands, on) = a.known n id (d.fewer n h) in
      let same : r ≡ d.before = same_some (sym is
      ∙ subst (λ i. IsRecord rs i d.before) (sym (one_record rs position k d.before r rising d.was is (own ∙ sym named))) d.was)
      in (
        subst (λ p. Stands n p) (ap (λ (q : Record). q.placement) same
            ∙ sym d.same_placement) stands,
        online_same v w n d.online ∙ on,
      )

  was_stood : (n : ℕ) → has n id v ≡ true → Stands n d.after.placement
  was_stood n h = let (k, r, is, own, stands, on) = a.known n id h in
      let same : r ≡ d.before = same_some (sym is
      ∙ subst (λ i. IsRecord rs i d.before) (sym (one_record rs position k d.before r rising d.was is (own ∙ sym named))) d.was)
      in
      subst (λ p. Stands n p) (ap (λ (q : Record). q.placement) same ∙ sym d.same_placement) stands

  others_stay : (j n : ℕ) (q : Record) → IsRecord rs j q → q.id ≢ id → is_everywhere q.placement ≡ true → is_online n w ≡ true
      → (has n q.id w ≡ true) ⊎ ((m : ℕ) × (removal_on m w ≡ Some q.id))
  others_stay j n q at other p up = pass (a.everywhere j n q at p (sym (online_same v w n d.online) ∙ up))
    where
      pass : (has n q.id v ≡ true) ⊎ ((m : ℕ) × (removal_on m v ≡ Some q.id)) → (has n q.id w ≡ true)
          ⊎ ((m : ℕ) × (removal_on m w ≡ Some q.id))
      pass (inl h) = inl (d.others n q.id other ∙ h)
      pass (inr (m, e)) = inr (m, d.stay_open m q.id other e)

  apart : (q : Record) → q.id ≢ d.before.id → q.id ≢ id
  apart q ne e = ne (e ∙ sym named)

  -- what stays of its counts is bounded
  pub within_still : EndedWithin (system v rs last) → EndedWithin (system w rs' last)
  within_still within k n most q at m = by
      (either rs position d.before d.after rising d.was k q (subst (λ l. IsRecord l k q) d.records at))
    where
      by : ((k ≡ position) × (q ≡ d.after)) ⊎ ((k ≢ position) × IsRecord rs k q × (q.id ≢ d.before.id))
          → (ended_on n q).sent ≤ most
      by (inl (e, f)) = subst (λ (r : Record). (ended_on n r).sent ≤ most) (sym f)
          (d.bounded n most (sym (d.most n) ∙ m) (within position n most d.before d.was (sym (d.most n) ∙ m)))
      by (inr (ne, before, other)) = within k n most q before (sym (d.most n) ∙ m)

  -- ---- it has not left all of its CPUs
  module _ (m : ℕ) (still : has m id w ≡ true) (open_there : removal_on m w ≡ Some id) where
    -- one that is on a single CPU is there
    same_home : (n : ℕ) → is_everywhere d.after.placement ≡ false → has n id v ≡ true → has n id w ≡ true
    same_home n single h = ap (λ i. has i id w) (one_home d.after.placement n m single (was_stood n h) (stood m still).0) ∙ still

    here_known : (n q : ℕ) → has n q w ≡ true → (j : ℕ) × (r : Record) × IsRecord (slice_set rs position d.after) j r × (r.id ≡ q)
        × Stands n r.placement × (is_online n w ≡ true)
    here_known n q h = dite (ℕ_discrete q id)
        (λ e. let (stands, on) = stood n (ap (λ i. has n i w) (sym e) ∙ h) in (
          position,
          d.after,
          subst (λ l. IsRecord l position d.after) d.records (now_here id position v w rs rs' d),
          id_now
              ∙ sym e,
          stands,
          on,
        ))
        (λ ne. let (j, r, at, own, stands, on) = a.known n q (sym (d.others n q ne) ∙ h) in (
          j,
          r,
          stands_still rs position d.before d.after rising d.was j r at (λ f. ne (sym own ∙ f ∙ named)),
          own,
          stands,
          online_same v w n d.online ∙ on,
        ))

    Old : ℕ → Record → Type 0
    Old j q = ((j ≡ position) × (q ≡ d.after)) ⊎ ((j ≢ position) × IsRecord rs j q × (q.id ≢ d.before.id))

    by_home : (j n : ℕ) (bound : Bool) (q : Record) → Old j q → q.placement ≡ On n bound → has n q.id w ≡ true
    unfolding Old
    by_home j n bound q (inl (e, f)) p = ap (λ (y : Record). has n y.id w) f ∙ ap (λ i. has n i w) id_now
        ∙ ap (λ k. has k id w) (sym (stands_at d.after.placement n m bound (sym (ap (λ (y : Record). y.placement) f) ∙ p)
        (stood m still).0)) ∙ still
    by_home j n bound q (inr (ne, at, other)) p = d.others n q.id (apart q other) ∙ a.home j n bound q at p

    by_everywhere : (j n : ℕ) (q : Record) → Old j q → is_everywhere q.placement ≡ true → is_online n w ≡ true
        → (has n q.id w ≡ true)
        ⊎ ((k : ℕ) × (removal_on k w ≡ Some q.id))
    unfolding Old
    by_everywhere j n q (inl (e, f)) p up = inr (m, open_there ∙ ap Some (sym (ap (λ (y : Record). y.id) f ∙ id_now)))
    by_everywhere j n q (inr (ne, at, other)) p up = others_stay j n q at (apart q other) p up

    by_ended : (j n : ℕ) (q : Record) → Old j q → has n q.id w ≡ true → ended_on n q ≡ no_counts
    unfolding Old
    by_ended j n q (inl (e, f)) h = ap (λ (y : Record). ended_on n y) f ∙ kept
      where
        here : has n id w ≡ true
        here = ap (λ i. has n i w) (sym (ap (λ (y : Record). y.id) f ∙ id_now)) ∙ h

        kept : ended_on n d.after ≡ no_counts
        kept = d.kept n here ∙ a.ended position n d.before d.was (ap (λ i. has n i v) named ∙ d.fewer n here)
    by_ended j n q (inr (ne, at, other)) h = a.ended j n q at (sym (d.others n q.id (apart q other)) ∙ h)

    none_ended : (n : ℕ) → is_everywhere d.after.placement ≡ false → ended_on n d.after ≡ no_counts
    none_ended n single = by (has n id v) refl
      where
        was_single : is_everywhere d.before.placement ≡ false
        was_single = ap (λ p. is_everywhere p) (sym d.same_placement) ∙ single

        by : (b : Bool) → has n id v ≡ b → ended_on n d.after ≡ no_counts
        by true h = d.kept n (same_home n single h) ∙ a.single position n d.before d.was was_single
        by false h = d.beside n h ∙ a.single position n d.before d.was was_single

    by_single : (j n : ℕ) (q : Record) → Old j q → is_everywhere q.placement ≡ false → ended_on n q ≡ no_counts
    unfolding Old
    by_single j n q (inl (e, f)) p = ap (λ (y : Record). ended_on n y) f
        ∙ none_ended n (sym (ap (λ (y : Record). is_everywhere y.placement) f) ∙ p)
    by_single j n q (inr (ne, at, other)) p = a.single j n q at p

    by_given : (j : ℕ) (q : Record) → Old j q → q.id ≤ last
    unfolding Old
    by_given j q (inl (e, f)) = let g : q.id ≡ d.before.id = ap (λ (y : Record). y.id) f
        ∙ d.same_id in let l = a.given position d.before d.was in omega (arith, g, l)
    by_given j q (inr (ne, at, other)) = a.given j q at

    pub agrees_leaving : Agrees (system w rs' last)
    unfolding Old
    agrees_leaving = subst (λ l. Agrees (system w l last)) (sym d.records) (record {
      known = here_known;
      home = λ j n bound q at. by_home j n bound q (either rs position d.before d.after rising d.was j q at);
      everywhere = λ j n q at. by_everywhere j n q (either rs position d.before d.after rising d.was j q at);
      ended = λ j n q at. by_ended j n q (either rs position d.before d.after rising d.was j q at);
      single = λ j n q at. by_single j n q (either rs position d.before d.after rising d.was j q at);
      given = λ j q at. by_given j q (either rs position d.before d.after rising d.was j q at);
      few = subst (λ n. n ≤ 16) (sym d.long) a.few;
      long = ap (λ (l : List Bool). length l) d.online ∙ a.long ∙ sym d.long;
      some = (a.some.0, online_same v w a.some.0 d.online ∙ a.some.1);
      most = λ n k p q e f. a.most n k p q (sym (d.most n) ∙ e) (sym (d.most k) ∙ f);
      suspended = λ n k p q e f. a.suspended n k p q (sym (d.suspended n) ∙ e) (sym (d.suspended k) ∙ f);
    })

  -- ---- it has left all of its CPUs, and its record went
  module _ (none : (n : ℕ) → has n id w ≡ false) where
    left_known : (n q : ℕ) → has n q w ≡ true → (j : ℕ) × (r : Record)
        × IsRecord (remove (slice_set rs position d.after) position) j r
        × (r.id ≡ q) × Stands n r.placement × (is_online n w ≡ true)
    left_known n q h = dite (ℕ_discrete q id)
        (λ e. absurd (false_true (sym (none n) ∙ ap (λ i. has n i w) (sym e) ∙ h)))
        (λ ne. let (j, r, at, own, stands, on) = a.known n q (sym (d.others n q ne) ∙ h) in
        let (i, is) = other_left rs position d.before d.after rising d.was j r at (λ f. ne (sym own ∙ f ∙ named)) in
        (i, r, is, own, stands, online_same v w n d.online ∙ on))

    pub agrees_left : Agrees (system w (remove rs' position) last)
    agrees_left = subst (λ l. Agrees (system w (remove l position) last)) (sym d.records) (record {
      known = left_known;
      home = λ j n bound q at p. (let (i, was, other) = left_one rs position d.before d.after rising d.was j q at in
          d.others n q.id (apart q other) ∙ a.home i n bound q was p);
      everywhere = λ j n q at. (let (i, was, other) = left_one rs position d.before d.after rising d.was j q at in
          others_stay i n q was (apart q other));
      ended = λ j n q at h. (let (i, was, other) = left_one rs position d.before d.after rising d.was j q at in
          a.ended i n q was (sym (d.others n q.id (apart q other)) ∙ h));
      single = λ j n q at. (let (i, was, other) = left_one rs position d.before d.after rising d.was j q at in
          a.single i n q was);
      given = λ j q at. (let (i, was, other) = left_one rs position d.before d.after rising d.was j q at in a.given i q was);
      few = subst (λ n. n ≤ 16) (sym d.long) a.few;
      long = ap (λ (l : List Bool). length l) d.online ∙ a.long ∙ sym d.long;
      some = (a.some.0, online_same v w a.some.0 d.online ∙ a.some.1);
      most = λ n k p q e f. a.most n k p q (sym (d.most n) ∙ e) (sym (d.most k) ∙ f);
      suspended = λ n k p q e f. a.suspended n k p q (sym (d.suspended n) ∙ e) (sym (d.suspended k) ∙ f);
    })

  pub within_left : EndedWithin (system v rs last) → EndedWithin (system w (remove rs' position) last)
  within_left within k n most q at m =
      let (i, was, other) = left_one rs position d.before d.after rising d.was k q
      (subst (λ l. IsRecord (remove l position) k q) d.records at) in
      within i n most q was (sym (d.most n) ∙ m)

-- the record of a cyclic
pub owned : {R : Type 0} (v : CpusView R) (rs : List Record) (last id position : ℕ) → Agrees (system v rs last)
    → ((r : Record) × IsRecord rs position r × (r.id ≡ id)) → Owns id position v rs
owned v rs last id position a (r, is, own) = record {
  own = r;
  here = is;
  named = own;
  fresh = λ n h. a.ended position n r is (ap (λ i. has n i v) own ∙ h);
}

-- a cyclic on a CPU has a record
pub has_record : {R : Type 0} (v : CpusView R) (rs : List Record) (last id n : ℕ) → Agrees (system v rs last) → has n id v ≡ true
    → HasNoRecord id rs → ⊥
has_record v rs last id n a h none = let (k, r, is, own, stands, on) = a.known n id h in
    none k r (slice_get_within rs k r is) (ap (λ (q : Record). q.id) (get_or_from_slice_get rs k r r is) ∙ own)

-- what holds of every system
module _ {R : Type 0} (v w : CpusView R) (rs rs' : List Record) (last id position : ℕ) (h : Holds (system v rs last))
    (rising : HasRisingIds rs)
    (o : Owns id position v rs) (d : Withdraws id position v w rs rs') (leaving : (n : ℕ) → has n id w ≡ true
    → removal_on n w ≡ Some id) where
  pub holds_leaving : (m : ℕ) → has m id w ≡ true → removal_on m w ≡ Some id → Holds (system w rs' last)
  holds_leaving m here is = record {
    agrees = agrees_leaving v w rs rs' last id position h.agrees rising o d m here is;
    whole = whole_still id position v w rs rs' h.whole d leaving;
    within = within_still v w rs rs' last id position h.agrees rising o d h.within;
  }

  pub holds_left : ((n : ℕ) → has n id w ≡ false) → Holds (system w (remove rs' position) last)
  holds_left none = record {
    agrees = agrees_left v w rs rs' last id position h.agrees rising o d none;
    whole = whole_still id position v w rs rs' h.whole d leaving;
    within = within_left v w rs rs' last id position h.agrees rising o d h.within;
  }
