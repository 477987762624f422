-- What each call of the firing side teaches its holder.
use Rattle.std.proofs.Common.{◌≡◌, ℕ, zero, suc, ◌+◌, ◌%◌, ◌^◌, ◌<◌, ◌≤◌, ◌≢◌, eqb, Bool, true, false, cond, List, [], ◌∷◌, ◌++◌}
use Rattle.std.proofs.Common.{sym, refl, ap, ◌∙◌, subst, arith, eq-eqb, ne_eqb, pow_mono, get_or}
use Rattle.std.specs.Prelude.{Option, Some, None, is_none}
use mathlib.Core.Logic.{dite}
use native.Mathlib.Decide.{ℕ_discrete}
use Rattle.cyc_level.specs.Events.{hand_after_expire}
use Rattle.cyc_level.proofs.Maps.{some_same}
use Rattle.cyc_types.specs.Limits.{greatest_bank, cyclics}
use Rattle.cyc_types.specs.Firing.{Stay as Known, FiringView, Loads, Raises, Polls, Learns, Sound}
use Rattle.cyc_types.specs.Firing.{IsAdmitted, edited, seen_of, seen_in}
use Rattle.cyc_types.specs.declared.firing.Raised.{Raised as Answer}
use Rattle.cyc_types.specs.declared.firing.Raised.TheVariants as answers
use Rattle.ring_rule.specs.declared.RaiseStep.{RaiseStep}
use Rattle.ring_rule.specs.declared.RaiseStep.TheVariants.{Admitted, Loaded, Lost, Added, Stored, Published, Marked, Cleared}
use Rattle.ring_rule.specs.declared.RaiseStep.TheVariants.{Switched}
use Rattle.ring_rule.specs.declared.Setting.{Setting}
use Rattle.ring_rule.specs.Words.{index_range, entry}
use Rattle.cyc_level.specs.Runs.{StayCounts, one_more}
use Rattle.ring_rule.specs.Trail.{producer_index, open_stay, seen_pend, firer_hand_of, hard_bank_of}
use Rattle.cyc_ring.specs.Rows.{HoldsStays}
use Rattle.cyc_ring.specs.Views.{stay_with, trail_view, IsSeenSound}
use Rattle.cyc_ring.specs.Steps.{RaiseSteps}

by_id : (id : ℕ) (P : Bool → ℕ → Type 0) → P true id → ((j : ℕ) → j ≢ id → P false j) → (j : ℕ) → P (eqb j id) j
by_id id P here there j = dite (ℕ_discrete j id)
    (λ e. subst (λ (k : ℕ). P (eqb k id) k) (sym e) (subst (λ b. P b id) (sym (eq-eqb id id refl)) here))
    (λ ne. subst (λ b. P b j) (sym (ne_eqb j id ne)) (there j ne))

abbrev SoundCase : ℕ → ℕ → ℕ → Option StayCounts → Type 0
SoundCase ceiling bank n None = Unit {0}
SoundCase ceiling bank n (Some s) = (n ≤ ceiling) × (n + s.lost ≤ s.sent) × (s.index < 2 ^ bank)

to_case : (c bank n : ℕ) (o : Option StayCounts)
    → ((s : StayCounts) → o ≡ Some s → (n ≤ c) × (n + s.lost ≤ s.sent) × (s.index < 2 ^ bank)) → SoundCase c bank n o
to_case c bank n None h = tt
to_case c bank n (Some s) h = h s refl

of_case : (c bank n : ℕ) (o : Option StayCounts) → SoundCase c bank n o → (s : StayCounts) → o ≡ Some s → (n ≤ c)
    × (n + s.lost ≤ s.sent) × (s.index < 2 ^ bank)
of_case c bank n None h s e = absurd (cc)
of_case c bank n (Some st) h s e = subst (λ (x : StayCounts). (n ≤ c) × (n + x.lost ≤ x.sent) × (x.index < 2 ^ bank))
    (some_same st s e) h

loaded_stay : (b : Bool) (n m : ℕ) (o : Option StayCounts)
    → stay_with (cond b n m) o ≡ cond b (edited (λ s. record s { seen = n }) (stay_with m o)) (stay_with m o)
loaded_stay true n m None = refl
loaded_stay true n m (Some s) = refl
loaded_stay false n m o = refl

lost_stay : (b : Bool) (c m : ℕ) (o : Option StayCounts)
    → stay_with (cond b c m) (cond b (one_more 1 o) o)
    ≡ cond b (edited (λ s. record s { sent = s.sent + 1; lost = s.lost + 1; seen = c }) (stay_with m o)) (stay_with m o)
lost_stay true c m None = refl
lost_stay true c m (Some s) = refl
lost_stay false c m o = refl

no_more : (n : ℕ) → n + 0 ≡ n
no_more n = omega arith

expired_stay : (b : Bool) (n x m : ℕ) (o : Option StayCounts)
    → stay_with (cond b (n + 1) (cond b x m)) (cond b (one_more 0 o) o)
    ≡ cond b (edited (λ s. record s { sent = s.sent + 1; seen = n + 1 }) (stay_with m o)) (stay_with m o)
expired_stay true n x m None = refl
expired_stay true n x m (Some s) = λ z. Some record { index = s.index; sent = s.sent + 1; lost = no_more s.lost z; seen = n + 1 }
expired_stay false n x m o = refl

module _ (c : ℕ) (t : List RaiseStep) where
  seen_is : (id : ℕ) (st : StayCounts) → open_stay id t ≡ Some st → seen_of id (trail_view c t) ≡ seen_pend id t
  seen_is id st is = subst (λ (o : Option StayCounts). seen_in (stay_with (seen_pend id t) o) ≡ seen_pend id t) (sym is) refl

  pub learns_loads : (id found : ℕ) (st : StayCounts) → open_stay id t ≡ Some st → found % 2 ^ 32 ≤ seen_pend id t
      → Learns (trail_view c t) (Loads id (found % 2 ^ 32)) (trail_view c (Loaded id found ∷ t))
  learns_loads id found st is low = (
    (let e = seen_is id st is in omega (arith, e, low)),
    λ z. record (trail_view c t) { stays = λ j. loaded_stay (eqb j id) (found % 2 ^ 32) (seen_pend j t) (open_stay j t) z },
  )

  pub learns_lost : (id : ℕ) (st : StayCounts) → open_stay id t ≡ Some st → IsSeenSound c t → c ≤ seen_pend id t
      → Learns (trail_view c t) (Raises id answers.Lost) (trail_view c (Lost id c ∷ t))
  learns_lost id st is S full = (
    (let e = seen_is id st is in let s = S id st is in let top = s.0 in omega (arith, e, top, full)),
    λ z. record (trail_view c t) { stays = λ j. lost_stay (eqb j id) c (seen_pend j t) (open_stay j t) z },
  )

  up_none : (n id : ℕ) (h : Option ℕ) → 0 < n → hand_after_expire n id h ≡ h
  up_none zero id h p = absurd (omega (arith, p))
  up_none (suc n) id h p = refl

  pub learns_more : (id before found : ℕ) (st : StayCounts) → open_stay id t ≡ Some st → before < c → before ≤ seen_pend id t
      → 0 < found → found ≤ before
      → Learns (trail_view c t) (Raises id answers.More) (trail_view c (Added id found ∷ Loaded id before ∷ t))
  learns_more id before found st is below low some under = (
    found,
    some,
    omega (arith, under, below),
    (let e = seen_is id st is in omega (arith, e, low, under)),
    λ z. record (trail_view c t) {
      stays = λ j. expired_stay (eqb j id) found (before % 2 ^ 32) (seen_pend j t)
          (open_stay j t) z;
      hand_free = is_none (up_none found id (firer_hand_of t) some z);
    },
  )

  pub learns_first : (id before entry next : ℕ) → firer_hand_of t ≡ None
      → Learns (trail_view c t) (Raises id answers.First)
      (trail_view c (Published next ∷ Stored entry ∷ Added id 0 ∷ Loaded id before ∷ t))
  learns_first id before entry next bare =
      λ z. record (trail_view c t) {
        stays = λ j. expired_stay (eqb j id) 0 (before % 2 ^ 32) (seen_pend j t) (open_stay j t) z;
        hand_free = is_none (sym bare z);
      }

  pub learns_kept : (id found : ℕ) (st : StayCounts) → open_stay id t ≡ Some st → 0 < found % 2 ^ 32
      → found % 2 ^ 32 ≤ seen_pend id t → Learns (trail_view c t) (Polls id None) (trail_view c (Loaded id found ∷ t))
  learns_kept id found st is some low = let l = learns_loads id found st is low in (found % 2 ^ 32, some, l.0, l.1)

  -- the trail stays sound
  module _ (S : IsSeenSound c t) where
    abbrev bank : ℕ
    bank = hard_bank_of t

    C : (j : ℕ) → SoundCase c bank (seen_pend j t) (open_stay j t)
    C j = to_case c bank (seen_pend j t) (open_stay j t) (S j)

    sound_of : (t' : List RaiseStep) → ((j : ℕ) → SoundCase c (hard_bank_of t') (seen_pend j t') (open_stay j t'))
        → IsSeenSound c t'
    sound_of t' h j s e = of_case c (hard_bank_of t') (seen_pend j t') (open_stay j t') (h j) s e

    less_seen : (n m : ℕ) (o : Option StayCounts) → n ≤ m → SoundCase c bank m o → SoundCase c bank n o
    less_seen n m None low s = tt
    less_seen n m (Some st) low s = let a = s.0 in let b = s.1 in (omega (arith, a, low), omega (arith, b, low), s.2)

    pub sound_admits : (id index : ℕ) → index < 2 ^ bank → IsSeenSound c (Admitted id index ∷ t)
    sound_admits id index room = sound_of (Admitted id index ∷ t)
        (by_id id (λ b j. SoundCase c bank (cond b 0 (seen_pend j t))
        (cond b (Some record { index = index; sent = 0; lost = 0 }) (open_stay j t))) (omega arith, omega arith, room)
        (λ j _. C j))

    pub sound_loads : (id found : ℕ) → found % 2 ^ 32 ≤ seen_pend id t → IsSeenSound c (Loaded id found ∷ t)
    sound_loads id found low = sound_of (Loaded id found ∷ t)
        (by_id id (λ b j. SoundCase c bank (cond b (found % 2 ^ 32) (seen_pend j t)) (open_stay j t))
        (less_seen (found % 2 ^ 32) (seen_pend id t) (open_stay id t) low (C id)) (λ j _. C j))

    pub sound_marks : (id pend : ℕ) → pend ≤ seen_pend id t → IsSeenSound c (Marked id pend ∷ t)
    sound_marks id pend low = sound_of (Marked id pend ∷ t)
        (by_id id (λ b j. SoundCase c bank (cond b pend (seen_pend j t)) (open_stay j t))
        (less_seen pend (seen_pend id t) (open_stay id t) low (C id)) (λ j _. C j))

    lost_at : (n m : ℕ) (o : Option StayCounts) → n ≤ m → SoundCase c bank m o → SoundCase c bank n (one_more 1 o)
    lost_at n m None low s = tt
    lost_at n m (Some st) low s = let a = s.0 in let b = s.1 in (omega (arith, a, low), omega (arith, b, low), s.2)

    pub sound_lost : (id found : ℕ) → found ≤ seen_pend id t → IsSeenSound c (Lost id found ∷ t)
    sound_lost id found low = sound_of (Lost id found ∷ t)
        (by_id id (λ b j. SoundCase c bank (cond b found (seen_pend j t)) (cond b (one_more 1 (open_stay j t)) (open_stay j t)))
        (lost_at found (seen_pend id t) (open_stay id t) low (C id)) (λ j _. C j))

    added_at : (n m : ℕ) (o : Option StayCounts) → n < c → n ≤ m → SoundCase c bank m o → SoundCase c bank (n + 1) (one_more 0 o)
    added_at n m None below low s = tt
    added_at n m (Some st) below low s = let b = s.1 in (omega (arith, below), omega (arith, b, low), s.2)

    pub sound_added : (id before found : ℕ) → before < c → before ≤ seen_pend id t → found ≤ before
        → IsSeenSound c (Added id found ∷ Loaded id before ∷ t)
    sound_added id before found below low under =
        sound_of (Added id found ∷ Loaded id before ∷ t)
        (by_id id (λ b j. SoundCase c bank (cond b (found + 1) (cond b (before % 2 ^ 32) (seen_pend j t)))
        (cond b (one_more 0 (open_stay j t)) (open_stay j t)))
        (added_at found (seen_pend id t) (open_stay id t) (omega (arith, below, under)) (omega (arith, low, under)) (C id))
        (λ j _. C j))

    pub sound_cleared : (id : ℕ) → IsSeenSound c (Cleared id ∷ t)
    sound_cleared id = sound_of (Cleared id ∷ t)
        (by_id id (λ b j. SoundCase c bank (seen_pend j t) (cond b None (open_stay j t))) tt (λ j _. C j))

    wider : (n wide : ℕ) (o : Option StayCounts) → bank ≤ wide → SoundCase c bank n o → SoundCase c wide n o
    wider n wide None more s = tt
    wider n wide (Some st) more s = let p : 2 ^ bank ≤ 2 ^ wide = pow_mono {i = bank} {j = wide} more in let a = s.2 in
        (s.0, s.1, omega (arith, a, p))

    pub sound_expands : (wide : ℕ) → bank ≤ wide → IsSeenSound c (Switched wide ∷ t)
    sound_expands wide more = sound_of (Switched wide ∷ t) (λ j. wider (seen_pend j t) wide (open_stay j t) more (C j))

-- what a stay_with stay is
was_known : (n : ℕ) (o : Option StayCounts) (s : Known) → stay_with n o ≡ Some s → (st : StayCounts) × (o ≡ Some st)
    × (st.index ≡ s.index) × (st.sent ≡ s.sent) × (st.lost ≡ s.lost) × (n ≡ s.seen)
was_known n None s e = absurd (cc)
was_known n (Some st) s e = let same = some_same record { index = st.index; sent = st.sent; lost = st.lost; seen = n } s e in (
  st,
  refl,
  ap (λ (x : Known). x.index) same,
  ap (λ (x : Known). x.sent) same,
  ap (λ (x : Known). x.lost) same,
  ap (λ (x : Known). x.seen) same,
)

module _ (c : ℕ) (t : List RaiseStep) where
  pub admitted_stay_of : (id : ℕ) (s : Known) → (trail_view c t).stays id ≡ Some s → (st : StayCounts)
      × (open_stay id t ≡ Some st) × (st.index ≡ s.index) × (st.sent ≡ s.sent) × (st.lost ≡ s.lost) × (seen_pend id t ≡ s.seen)
  admitted_stay_of id s e = was_known (seen_pend id t) (open_stay id t) s e

  pub not_admitted : (id : ℕ) → (trail_view c t).stays id ≡ None → open_stay id t ≡ None
  not_admitted id e = at (open_stay id t) e
    where
      at : (o : Option StayCounts) → stay_with (seen_pend id t) o ≡ None → o ≡ None
      at None e = refl
      at (Some s) e = absurd (cc)

  pub sound_view : IsSeenSound c t → ((a b : ℕ) (s u : StayCounts) → open_stay a t ≡ Some s → open_stay b t ≡ Some u
      → s.index ≡ u.index → a ≡ b) → hard_bank_of t ≤ greatest_bank → 0 < c → Sound (trail_view c t)
  sound_view S one most some = record {
    some_ceiling = some;
    capped = λ id s e. let w = admitted_stay_of id s e in let x = S id w.0 w.1 in let a = x.0 in let b = w.5 in
        omega (arith, a, b);
    owed = λ id s e. let w = admitted_stay_of id s e in let x = S id w.0 w.1 in let a = x.1 in let b = w.5 in let d = w.3 in
        let f = w.4 in omega (arith, a, b, d, f);
    apart = λ a b s u e f i. let v = admitted_stay_of a s e in let w = admitted_stay_of b u f in
        one a b v.0 w.0 v.1 w.1 (v.2 ∙ (i ∙ sym w.2));
    inside = λ id s e. let w = admitted_stay_of id s e in let x = S id w.0 w.1 in
        subst (λ (y : ℕ). y < 2 ^ hard_bank_of t) w.2 x.2;
    greatest = most;
  }

-- a raise with any answer
module _ (k : Setting) (t t' steps : List RaiseStep) (gained : t' ≡ steps ++ t) (id : ℕ) (st : StayCounts)
    (is : open_stay id t ≡ Some st) (S : IsSeenSound k.ceiling t) (bare : firer_hand_of t ≡ None) where
  abbrev V : List RaiseStep → FiringView
  V = trail_view k.ceiling

  same : (xs : List RaiseStep) → steps ≡ xs → xs ++ t ≡ t'
  same xs e = ap (λ (l : List RaiseStep). l ++ t) (sym e) ∙ sym gained

  pub learns_raises : (answer : Answer) → RaiseSteps k t (Raises id answer) steps → Learns (V t) (Raises id answer) (V t')
  learns_raises answers.Lost f = subst (λ (u : List RaiseStep). Learns (V t) (Raises id answers.Lost) (V u))
      (same (Lost id k.ceiling ∷ []) f.1) (learns_lost k.ceiling t id st is S f.0)
  learns_raises answers.More f = subst (λ (u : List RaiseStep). Learns (V t) (Raises id answers.More) (V u))
      (same (Added id f.1 ∷ Loaded id f.0 ∷ []) f.6) (learns_more k.ceiling t id f.0 f.1 st is f.2 f.3 f.4 f.5)
  learns_raises answers.First f = subst (λ (u : List RaiseStep). Learns (V t) (Raises id answers.First) (V u)) (same _ f.5)
      (learns_first k.ceiling t id f.0 (entry id (f.1).index) ((producer_index k.start t + 1) % index_range) bare)

module _ (c : ℕ) (ids sent lost : List ℕ) (t : List RaiseStep) (F : HoldsStays ids sent lost t) (id : ℕ) (P : Known → Type 0)
    (a : IsAdmitted id (trail_view c t) P) where
  pub the_stay : (st : StayCounts) × (open_stay id t ≡ Some st) × (st.index ≡ (a.0).index) × (st.sent ≡ (a.0).sent)
      × (st.lost ≡ (a.0).lost) × (seen_pend id t ≡ (a.0).seen)
  the_stay = admitted_stay_of c t id a.0 a.1

pub free_index : (c : ℕ) (ids sent lost : List ℕ) (t : List RaiseStep) → HoldsStays ids sent lost t → (i : ℕ) → i < cyclics
    → ((j : ℕ) (s : Known) → (trail_view c t).stays j ≡ Some s → ¬ (s.index ≡ i)) → get_or ids i 0 ≡ 0
free_index c ids sent lost t F i low unused = dite (ℕ_discrete (get_or ids i 0) 0) (λ e. e)
    (λ ne. absurd (unused (get_or ids i 0) record {
      index = i;
      sent = get_or sent i 0;
      lost = get_or lost i 0;
      seen =
          seen_pend (get_or ids i 0) t;
    } (ap (stay_with (seen_pend (get_or ids i 0) t)) (F.used i low ne)) refl))

pub sound_seat : (c : ℕ) (ids sent lost : List ℕ) (t : List RaiseStep) → HoldsStays ids sent lost t → IsSeenSound c t
    → hard_bank_of t ≤ greatest_bank → 0 < c → Sound (trail_view c t)
sound_seat c ids sent lost t F S most some =
    sound_view c t S (λ a b s u e f i. let x = F.only a s e in let y = F.only b u f in sym x.1
    ∙ (ap (λ (n : ℕ). get_or ids n 0) i ∙ y.1)) most some
