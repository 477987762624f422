-- A system still agrees with its records after a cyclic got another placement.
use Rattle.std.proofs.Common.{◌≡◌, ◌≢◌, ℕ, ◌<◌, ◌≤◌, ◌⊎◌, inl, inr, Bool, true, false, Some, List, length, slice_set, refl, sym}
use Rattle.std.proofs.Common.{ap, ◌∙◌, subst, arith}
use Rattle.std.specs.List.{slice_get}
use Rattle.std.proofs.lemmas.Option.{slice_get_within}
use mathlib.Core.Logic.{dite}
use Rattle.cyc_types.specs.Counting.{no_counts}
use native.Mathlib.Decide.{ℕ_discrete}
use Rattle.cyc_places.specs.declared.record.Placement.TheVariants.{On}
use Rattle.cyc_places.specs.declared.record.Record.{Record}
use Rattle.cyc_places.specs.Places.{IsRecord, HasRisingIds, with_placement, ended_on}
use Rattle.cyc_agreement.specs.Cpus.{CpusView}
use Rattle.cyc_agreement.proofs.CpuSpots.{get_set_same, get_set_other}
use Rattle.cyc_agreement.specs.System.{SystemView, has, removal_on, is_online, is_everywhere}
use Rattle.cyc_agreement.specs.Agreement.{Agrees, Stands}
use Rattle.cyc_agreement.specs.Refusals.{IsPresent}
use Rattle.cyc_agreement.proofs.Spots.{same_some}
use Rattle.cyc_agreement.proofs.Lists.{false_true}
use Rattle.cyc_agreement.proofs.Recording.{one_record}
use Rattle.cyc_agreement.proofs.Who.{SameBut}
use Rattle.cyc_agreement.proofs.Given.{online_same}

same_number : {n m : ℕ} {b c : Bool} → On n b ≡ On m c → n ≡ m
same_number {n} {m} {b} {c} e = cc

-- a cyclic that is on one CPU is on no other
pub not_elsewhere : {R : Type 0} (s : SystemView R) (k d m : ℕ) (bound : Bool) (r : Record) → Agrees s → HasRisingIds s.records
    → IsRecord s.records k r → r.placement ≡ On d bound
    → m ≢ d → has m r.id s.cpus ≡ false
not_elsewhere s k d m bound r a rising is placement ne = by (has m r.id s.cpus) refl
  where
    by : (b : Bool) → has m r.id s.cpus ≡ b → b ≡ false
    by false e = refl
    by true e = let (j, q, at, named, stands, on) = a.known m r.id e in
        let same : q ≡ r = same_some (sym at ∙ subst (λ i. IsRecord s.records i r)
        (sym (one_record s.records k j r q rising is at named)) is) in
        absurd (ne (sym (subst (λ p. Stands m p) (ap (λ (x : Record). x.placement) same ∙ placement) stands)))

-- the record's cyclic is on this one CPU now
module _ {R : Type 0} (s : SystemView R) (k d : ℕ) (bound was : Bool) (home : ℕ) (r : Record) (w : CpusView R) (a : Agrees s)
    (rising : HasRisingIds s.records)
    (is : IsRecord s.records k r) (placement : r.placement ≡ On home was) (b : SameBut r.id s.cpus w)
    (on : is_online d s.cpus ≡ true)
    (there : has d r.id w ≡ true) (only : (m : ℕ) → m ≢ d → has m r.id w ≡ false) where
  x : Record
  x = with_placement (On d bound) r

  now : List Record
  now = slice_set s.records k (with_placement (On d bound) r)

  low : k < length s.records
  low = slice_get_within s.records k r is

  -- a record afterwards is the changed one, or an old one with another id
  old : (j : ℕ) (q : Record) → IsRecord now j q → ((j ≡ k) × (q ≡ with_placement (On d bound) r))
      ⊎ ((j ≢ k) × IsRecord s.records j q × (q.id ≢ r.id))
  unfolding now
  old j q at = dite (ℕ_discrete j k)
      (λ e. inl (
        e,
        same_some (sym at ∙ ap (λ i. slice_get (slice_set s.records k (with_placement (On d bound) r)) i) e
            ∙ get_set_same s.records k (with_placement (On d bound) r) low),
      ))
      (λ ne. let before : IsRecord s.records j q = sym (get_set_other s.records k j (with_placement (On d bound) r) ne) ∙ at in
      inr (ne, before, λ e. ne (one_record s.records k j r q rising is before e)))

  everywhere_not : is_everywhere r.placement ≡ false
  everywhere_not = ap is_everywhere placement

  by_known : (n id : ℕ) → has n id w ≡ true → (j : ℕ) × (q : Record) × IsRecord now j q × (q.id ≡ id) × Stands n q.placement
      × (is_online n w ≡ true)
  unfolding now
  by_known n id h = dite (ℕ_discrete id r.id)
      (λ e. let here : has n r.id w ≡ true = ap (λ i. has n i w) (sym e)
      ∙ h in let at : n ≡ d = dite (ℕ_discrete n d) (λ f. f) (λ f. absurd (false_true (sym (only n f) ∙ here))) in (
        k,
        with_placement (On d bound) r,
        get_set_same s.records k (with_placement (On d bound) r) low,
        sym e,
        sym at,
        ap (λ m. is_online m w) at ∙ online_same s.cpus w d b.online ∙ on,
      ))
      (λ ne. let (j, q, at, named, stands, up) = a.known n id (sym (b.others n id ne) ∙ h) in (
        j,
        q,
        get_set_other s.records k j (with_placement (On d bound) r)
            (λ f. ne (sym named ∙ ap (λ (y : Record). y.id)
            (same_some (sym at ∙ subst (λ i. IsRecord s.records i r) (sym f) is)))) ∙ at,
        named,
        stands,
        online_same s.cpus w n b.online ∙ up,
      ))

  pub agrees_replaced : Agrees (record {
    cpus = w;
    records = slice_set s.records k (with_placement (On d bound) r);
    last =
        s.last;
  })
  unfolding now
  agrees_replaced = record {
    known = by_known;
    home = λ j n own q at p. by_home j n own q (old j q at) p;
    everywhere = λ j n q at p up. by_everywhere j n q (old j q at) p up;
    ended = λ j n q at h. by_ended j n q (old j q at) h;
    single = λ j n q at p. by_single j n q (old j q at) p;
    given = λ j q at. by_given j q (old j q at);
    few = subst (λ n. n ≤ 16) (sym b.long) a.few;
    long = ap (λ (o : List Bool). length o) b.online ∙ a.long ∙ sym b.long;
    some = (a.some.0, online_same s.cpus w a.some.0 b.online ∙ a.some.1);
    most = λ n m p q e f. a.most n m p q (sym (b.most n) ∙ e) (sym (b.most m) ∙ f);
    suspended = λ n m p q e f. a.suspended n m p q (sym (b.suspended n) ∙ e) (sym (b.suspended m) ∙ f);
  }
    where
      Old : ℕ → Record → Type 0
      Old j q = ((j ≡ k) × (q ≡ with_placement (On d bound) r)) ⊎ ((j ≢ k) × IsRecord s.records j q × (q.id ≢ r.id))

      by_home : (j n : ℕ) (own : Bool) (q : Record) → ((j ≡ k) × (q ≡ with_placement (On d bound) r))
          ⊎ ((j ≢ k) × IsRecord s.records j q × (q.id ≢ r.id)) → q.placement ≡ On n own → has n q.id w ≡ true
      by_home j n own q (inl (e, f)) p = ap (λ (y : Record). has n y.id w) f
          ∙ ap (λ m. has m r.id w) (sym (same_number (sym (ap (λ (y : Record). y.placement) f) ∙ p))) ∙ there
      by_home j n own q (inr (ne, at, other)) p = b.others n q.id other ∙ a.home j n own q at p

      by_everywhere : (j n : ℕ) (q : Record) → ((j ≡ k) × (q ≡ with_placement (On d bound) r))
          ⊎ ((j ≢ k) × IsRecord s.records j q × (q.id ≢ r.id)) → is_everywhere q.placement ≡ true → is_online n w ≡ true
          → (has n q.id w ≡ true) ⊎ ((m : ℕ) × (removal_on m w ≡ Some q.id))
      by_everywhere j n q (inl (e, f)) p up = absurd (false_true (sym (ap (λ (y : Record). is_everywhere y.placement) f) ∙ p))
      by_everywhere j n q (inr (ne, at, other)) p up = pass (a.everywhere j n q at p (sym (online_same s.cpus w n b.online) ∙ up))
        where
          pass : (has n q.id s.cpus ≡ true) ⊎ ((m : ℕ) × (removal_on m s.cpus ≡ Some q.id)) → (has n q.id w ≡ true)
              ⊎ ((m : ℕ) × (removal_on m w ≡ Some q.id))
          pass (inl h) = inl (b.others n q.id other ∙ h)
          pass (inr (m, e)) = inr (m, b.removals m q.id other e)

      by_ended : (j n : ℕ) (q : Record) → ((j ≡ k) × (q ≡ with_placement (On d bound) r))
          ⊎ ((j ≢ k) × IsRecord s.records j q × (q.id ≢ r.id)) → has n q.id w ≡ true → ended_on n q ≡ no_counts
      by_ended j n q (inl (e, f)) h = ap (λ (y : Record). ended_on n y) f ∙ a.single k n r is everywhere_not
      by_ended j n q (inr (ne, at, other)) h = a.ended j n q at (sym (b.others n q.id other) ∙ h)

      by_single : (j n : ℕ) (q : Record) → ((j ≡ k) × (q ≡ with_placement (On d bound) r))
          ⊎ ((j ≢ k) × IsRecord s.records j q × (q.id ≢ r.id)) → is_everywhere q.placement ≡ false → ended_on n q ≡ no_counts
      by_single j n q (inl (e, f)) p = ap (λ (y : Record). ended_on n y) f ∙ a.single k n r is everywhere_not
      by_single j n q (inr (ne, at, other)) p = a.single j n q at p

      by_given : (j : ℕ) (q : Record) → ((j ≡ k) × (q ≡ with_placement (On d bound) r))
          ⊎ ((j ≢ k) × IsRecord s.records j q × (q.id ≢ r.id)) → q.id ≤ s.last
      by_given j q (inl (e, f)) = let g = ap (λ (y : Record). y.id) f in let l = a.given k r is in omega (arith, g, l)
      by_given j q (inr (ne, at, other)) = a.given j q at

-- what is known of a cyclic that is present, and is on one CPU
pub record Standing {R : Type 0} (id k home : ℕ) (bound : Bool) (q : Record) (s : SystemView R) : Type 0 where
  pub named : q.id ≡ id
  pub here : has home id s.cpus ≡ true
  pub own_here : has home q.id s.cpus ≡ true
  pub only : (m : ℕ) → m ≢ home → has m id s.cpus ≡ false
  pub own_only : (m : ℕ) → m ≢ home → has m q.id s.cpus ≡ false
  pub online : is_online home s.cpus ≡ true

pub standing : {R : Type 0} (s : SystemView R) (id k home : ℕ) (bound : Bool) (r q : Record) → Agrees s → HasRisingIds s.records
    → IsPresent id k r s → IsRecord s.records k q
    → q.placement ≡ On home bound → Standing id k home bound q s
standing s id k home bound r q a rising p at placement =
    let same : q.id ≡ id = ap (λ (x : Record). x.id) (same_some (sym at ∙ p.here)) ∙ p.named in
    let own = a.home k home bound q at placement in record {
      named = same;
      own_here = own;
      here = ap (λ i. has home i s.cpus) (sym same) ∙ own;
      own_only = λ m ne. not_elsewhere s k home m bound q a rising at placement ne;
      only = λ m ne. ap (λ i. has m i s.cpus) (sym same) ∙ not_elsewhere s k home m bound q a rising at placement ne;
      online = (let (j, x, is, named, stands, on) = a.known home q.id own in on);
    }
