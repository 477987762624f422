-- The load of an unused pend word is the event Admit.
use Rattle.std.proofs.Common.{◌≡◌, ℕ, ◌+◌, ◌*◌, ◌^◌, ◌<◌, ◌≤◌, eqb, cond, List, ◌∷◌, length, get_or, sym, refl, ap, ◌∙◌, subst}
use Rattle.std.proofs.Common.{arith, eq-eqb, ne_eqb}
use mathlib.Core.Option.{none}
use mathlib.Core.Logic.{dite}
use native.Mathlib.Decide.{ℕ_discrete}
use Rattle.std.specs.Prelude.{Option, Some, None}
use Rattle.atomic_table.specs.Table.{step}
use Rattle.cyc_level.specs.declared.Event.TheVariants.{Admit}
use Rattle.cyc_level.specs.Level.{AdmittedCyclic, Cyclics, SoftLevel, count_in, in_hand}
use Rattle.cyc_level.specs.Lawful.{IsId}
use Rattle.cyc_level.specs.Events.{changed_at, Enabled, after}
use Rattle.cyc_level.specs.Runs.{StayCounts}
use Rattle.cyc_level.proofs.Maps.{some_same, none_some, not_none, at_cases}
use Rattle.ring_rule.specs.FiringSteps.{AdmitLaw}
use Rattle.cyc_types.specs.Limits.{cyclics}
use Rattle.ring_rule.specs.Words.{pend_word, entry_id}
use Rattle.ring_rule.specs.declared.RaiseStep.{RaiseStep}
use Rattle.ring_rule.specs.declared.RaiseStep.TheVariants.{Admitted}
use Rattle.ring_rule.specs.declared.DrainStep.{DrainStep}
use Rattle.ring_rule.specs.declared.Setting.{Setting}
use Rattle.ring_rule.specs.Trail.{open_stay, ended_calls, firer_hand_of, seen_pend, hard_bank_of, made_calls, consumer_index}
use Rattle.ring_rule.specs.Log.{raise_side, drain_side}
use Rattle.ring_rule.specs.Shown.{IsSameStay, TrailsShow, StillHolds}
use Rattle.ring_rule.specs.Steps.{with_raise_step, TellsAdmit}
use Rattle.ring_rule.proofs.Words.{pend_distinct, Keeps, holds_kept}
use Rattle.ring_rule.proofs.Seats.{level, raises, raise_goes}
use Rattle.ring_rule.proofs.Stays.{not_held}
use Rattle.ring_rule.proofs.Now.{RingNow, ring_now, loaded}
use Rattle.ring_rule.proofs.Stands.{firing_step}

-- an id with no stay is not admitted
pub absent : (m e : ℕ) (o : Option StayCounts) (p : Option AdmittedCyclic) → o ≡ None → IsSameStay m e o p → (p ≡ None) × (m ≡ e)
absent m e None None is h = (refl, h)
absent m e None (Some c) is h = absurd h
absent m e (Some s) p is h = absurd (cc)

pub present : (m e : ℕ) (o : Option StayCounts) (c : AdmittedCyclic) (p : Option AdmittedCyclic) → p ≡ Some c → IsSameStay m e o p
    → (s : StayCounts) × (o ≡ Some s) × (s.index ≡ c.index)
present m e None c None is h = absurd (cc)
present m e None c (Some d) is h = absurd h
present m e (Some s) c None is h = absurd (cc)
present m e (Some s) c (Some d) is h = (s, refl, h.0 ∙ ap (λ (x : AdmittedCyclic). x.index) (some_same d c is))

module _ (k : Setting) (ws : List ℕ) (rs : List RaiseStep) (ds : List DrainStep) (l : SoftLevel) (N : RingNow k ws rs ds l)
    (id i : ℕ)
    (none : open_stay id rs ≡ None)
    (unused : (j : ℕ) (s : StayCounts) → open_stay j rs ≡ Some s → ¬ (s.index ≡ i)) (within : i < cyclics) where
  abbrev new : AdmittedCyclic
  new = record { index = i; sent = 0; done = 0; lost = 0; count = 0 }

  gone : (l.cyclics id ≡ None) × (made_calls id ds ≡ ended_calls id rs)
  gone = absent (made_calls id ds) (ended_calls id rs) (open_stay id rs) (l.cyclics id) none (N.shows.stays id)

  free : (j : ℕ) (c : AdmittedCyclic) → l.cyclics j ≡ Some c → ¬ (c.index ≡ i)
  free j c e x = let s = present (made_calls j ds) (ended_calls j rs) (open_stay j rs) c (l.cyclics j) e (N.shows.stays j) in
      unused j s.0 s.1 (s.2 ∙ x)

  pub zero_found : get_or ws (pend_word i) 0 ≡ 0
  zero_found = N.shows.unused i within free

  abbrev m' : Cyclics
  m' = changed_at l.cyclics id (λ _. Some new)

  kept : Keeps l.cyclics m'
  kept j c e = at_cases l.cyclics id (λ _. Some new) (λ k o. l.cyclics k ≡ Some c → (d : AdmittedCyclic) × (o ≡ Some d)
      × (d.index ≡ c.index))
      (λ h. none_some ((d : AdmittedCyclic) × (Some new ≡ Some d) × (d.index ≡ c.index)) c (l.cyclics id) gone.0 h)
      (λ k _ h. (c, h, refl)) j e

  pub admits_enabled : IsId id → firer_hand_of rs ≡ None → i < 2 ^ hard_bank_of rs → Enabled (Admit id i) l
  admits_enabled real bare room = (
    N.shows.firer_is
        ∙ bare,
    real,
    gone.0,
    free,
    subst (λ (b : ℕ). i < 2 ^ b) (sym N.shows.hard_is) room,
  )

  same_new : (j : ℕ) → IsSameStay (made_calls j ds) (ended_calls j rs)
      (cond (eqb j id) (Some record { index = i; sent = 0; lost = 0 }) (open_stay j rs))
      (cond (eqb j id) (Some new) (l.cyclics j))
  same_new j = dite (ℕ_discrete j id)
      (λ e. subst (λ b. IsSameStay (made_calls j ds) (ended_calls j rs)
      (cond b (Some record { index = i; sent = 0; lost = 0 }) (open_stay j rs)) (cond b (Some new) (l.cyclics j)))
      (sym (eq-eqb j id e))
      (refl, refl, refl, subst (λ (j : ℕ). made_calls j ds ≡ 0 + ended_calls j rs) (sym e) (let g = gone.1 in omega (arith, g))))
      (λ ne. subst (λ b. IsSameStay (made_calls j ds) (ended_calls j rs)
      (cond b (Some record { index = i; sent = 0; lost = 0 }) (open_stay j rs)) (cond b (Some new) (l.cyclics j)))
      (sym (ne_eqb j id ne)) (N.shows.stays j))

  clear : in_hand id l.marked ≡ 0
  clear = not_held id l.marked (λ e. not_none (l.cyclics id) (N.law.marked_admitted id e) gone.0)

  pub admits_shown : TrailsShow k.start ws (Admitted id i ∷ rs) ds (after (Admit id i) l)
  admits_shown = let sh = N.shows in record {
    hard_is = sh.hard_is;
    soft_is = sh.soft_is;
    hard_shown = sh.hard_shown;
    soft_shown = sh.soft_shown;
    firer_is = sh.firer_is;
    drainer_is = sh.drainer_is;
    marked_is = sh.marked_is;
    stays = same_new;
    pends = at_cases l.cyclics id (λ _. Some new) (λ j o. (d : AdmittedCyclic) → o ≡ Some d
        → get_or ws (pend_word d.index) 0 ≡ d.count + 2 ^ 32 * in_hand j l.marked)
        (λ d e. subst (λ (d : AdmittedCyclic). get_or ws (pend_word d.index) 0 ≡ d.count + 2 ^ 32 * in_hand id l.marked)
        (some_same new d e) (let z = zero_found in let y = clear in omega (arith, z, y)))
        (λ j ne. sh.pends j);
    unused = λ a lt no. sh.unused a lt (λ j d e x. let y = kept j d e in no j y.0 y.1 (y.2 ∙ x));
    new_held = holds_kept ws ws l.cyclics m' kept l.hard_bank l.new_list
        (cond (eqb l.hard_bank l.soft_bank) (consumer_index k.start ds) k.start) (λ _ _ _. refl) refl sh.new_held;
    old_held = λ apart. holds_kept ws ws l.cyclics m' kept l.soft_bank l.old_list (consumer_index k.start ds) (λ _ _ _. refl) refl
        (sh.old_held apart);
    produced = sh.produced;
  }

  pub admits_still : StillHolds k.start ws (Admitted id i ∷ rs) ds (after (Admit id i) l)
  admits_still = let le = N.still in record {
    seen_is_enough = at_cases l.cyclics id (λ _. Some new) (λ j o. count_in o ≤ cond (eqb j id) 0 (seen_pend j rs)) (omega arith)
        (λ j ne. subst (λ b. count_in (l.cyclics j) ≤ cond b 0 (seen_pend j rs)) (sym (ne_eqb j id ne)) (le.seen_is_enough j));
    hand_stored = tt;
    fresh = le.fresh;
    held_is = λ e h. let x = le.held_is e h in let y = kept (entry_id e) x.0 x.1 in (y.0, y.1, y.2 ∙ x.2);
    followed_is = le.followed_is;
    bank_is = le.bank_is;
    some_left = le.some_left;
    none_left = le.none_left;
  }

pub admit_law : AdmitLaw
admit_law k slots seat me i id role bare unused empty room low real word is_word =
    firing_step k slots seat me word (λ n. n) (TellsAdmit id (step slots word 0 0 none) me) role
    (λ s R _ at _. let t : List RaiseStep = (raise_side R.log) in let same : me.0.raise_trail ≡ t =
    (raises k s R seat me.0 at me.1 word 0 role).1.0 in
    let l : SoftLevel = level k s R in let N : RingNow k s.words t (drain_side R.log) l = ring_now k s R in
    let bare' : open_stay id t ≡ None = ap (open_stay id) (sym same) ∙ bare in
    let unused' : (j : ℕ) (s : StayCounts) → open_stay j t ≡ Some s
    → ¬ (s.index ≡ i) = λ j s e. unused j s (ap (open_stay j) same ∙ e) in (
      (Admitted id i),
      raise_goes k s R seat me.0 at me.1 word (get_or s.words word 0) role (Admitted id i) (
        (admits_enabled k s.words t (drain_side R.log) l N id i bare' unused' low real (ap firer_hand_of (sym same) ∙ empty)
            (subst (λ (t : List RaiseStep). i < 2 ^ hard_bank_of t) same room)),
        R.enabled,
      )
          (loaded (λ x. TrailsShow k.start x (Admitted id i ∷ t) (drain_side R.log) (after (Admit id i) l)) s.words word
          (admits_shown k s.words t (drain_side R.log) l N id i bare' unused' low))
          (loaded (λ x. StillHolds k.start x (Admitted id i ∷ t) (drain_side R.log) (after (Admit id i) l)) s.words word
          (admits_still k s.words t (drain_side R.log) l N id i bare' unused' low))
          is_word (sym (ap (λ (j : ℕ). get_or s.words j 0) is_word
          ∙ zero_found k s.words t (drain_side R.log) l N id i bare' unused' low)) refl,
      (
        ap (λ (j : ℕ). get_or s.words j 0) is_word ∙ zero_found k s.words t (drain_side R.log) l N id i bare' unused' low,
        λ j below same_word. (
          length R.log,
          ap (λ (x : ℕ). (with_raise_step (length R.log) (Admitted id x) me.0, me.1))
              (pend_distinct i j low below (sym is_word ∙ same_word)),
        ),
      ),
    ))
