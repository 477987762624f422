-- The load of a pend word by the firing side: Lose at the ceiling, where it begins a raise, and otherwise no event.
use Rattle.std.proofs.Common.{◌≡◌, ℕ, ◌+◌, ◌-◌, ◌*◌, ◌%◌, ◌^◌, ◌<◌, ◌≤◌, eqb, cond, List, ◌∷◌, get_or, sym, refl, ap, ◌∙◌, subst}
use Rattle.std.proofs.Common.{arith, eq-eqb, ne_eqb, mod-eq_of_lt, length}
use mathlib.Core.Option.{none}
use mathlib.Core.Logic.{dite}
use native.Mathlib.Decide.{ℕ_discrete}
use Rattle.std.specs.Prelude.{Option, Some, None}
use Rattle.std.specs.Option.{option_map}
use Rattle.atomic_table.specs.Table.{step}
use Rattle.cyc_level.specs.declared.Event.TheVariants.{Lose}
use Rattle.cyc_level.specs.Level.{AdmittedCyclic, Cyclics, SoftLevel, count, count_in, in_hand}
use Rattle.cyc_level.specs.Events.{changed_at, cyclic_after_lose, Enabled, after}
use Rattle.cyc_level.specs.Runs.{StayCounts, one_more}
use Rattle.cyc_level.proofs.Maps.{some_same, is_some_and, at_cases}
use Rattle.ring_rule.specs.FiringSteps.{LoadToRaiseLaw}
use Rattle.ring_rule.specs.Words.{pend_word, entry_id}
use Rattle.ring_rule.specs.declared.RaiseStep.{RaiseStep}
use Rattle.ring_rule.specs.declared.RaiseStep.TheVariants.{Loaded, Lost}
use Rattle.ring_rule.specs.declared.DrainStep.{DrainStep}
use Rattle.ring_rule.specs.declared.Setting.{Setting}
use Rattle.ring_rule.specs.Trail.{open_stay, ended_calls, firer_hand_of, marked_of, seen_pend, made_calls, consumer_index}
use Rattle.ring_rule.specs.Log.{raise_side, drain_side, stay_word}
use Rattle.ring_rule.specs.Shown.{TrailsShow, StillHolds}
use Rattle.ring_rule.specs.Steps.{TellsLoadToRaise}
use Rattle.ring_rule.proofs.Words.{keeps_option_map, holds_kept}
use Rattle.ring_rule.proofs.Seats.{level, raises, raise_goes}
use Rattle.ring_rule.proofs.Stays.{behind, same_if, same_dropped, not_held}
use Rattle.ring_rule.proofs.Now.{RingNow, ring_now, loaded}
use Rattle.ring_rule.proofs.Stands.{firing_step}

module _ (k : Setting) (small : k.ceiling < 2 ^ 32) (ws : List ℕ) (rs : List RaiseStep) (ds : List DrainStep) (l : SoftLevel)
    (N : RingNow k ws rs ds l) (i id : ℕ) (st : StayCounts) (is : open_stay id rs ≡ Some st) (at_i : i ≡ pend_word st.index)
    (free : ¬ (marked_of rs ≡ Some id)) where
  pub known : (c : AdmittedCyclic) × (l.cyclics id ≡ Some c) × (st.index ≡ c.index) × (st.sent ≡ c.sent) × (st.lost ≡ c.lost)
      × (made_calls id ds ≡ c.done + ended_calls id rs)
  known = behind (made_calls id ds) (ended_calls id rs) (open_stay id rs) (l.cyclics id) st is (N.shows.stays id)

  abbrev c : AdmittedCyclic
  c = known.0

  abbrev n : ℕ
  n = get_or ws i 0

  pub found : n ≡ c.count
  found = let p = N.shows.pends id c known.1 in let z : in_hand id l.marked ≡ 0 =
      not_held id l.marked (λ e. free (sym N.shows.marked_is ∙ e)) in
      ap (λ (a : ℕ). get_or ws a 0) (at_i ∙ ap pend_word known.2) ∙ (p ∙ omega (arith, z))

  pub top : n ≤ seen_pend id rs
  top = let a = N.still.seen_is_enough id in let b : count l id ≡ c.count = ap count_in known.1 in let f = found in
      omega (arith, a, b, f)

  pub topmost : n ≤ k.ceiling
  topmost = let f = found in let b = N.law.below_ceiling id c known.1 in let t = N.ceiling_is in omega (arith, f, b, t)

  counts : (n' : ℕ) → n' ≡ n → (m : Cyclics) → ((j : ℕ) → count_in (m j) ≡ count_in (l.cyclics j)) → (j : ℕ)
      → count_in (m j) ≤ cond (eqb j id) n' (seen_pend j rs)
  counts n' e m same j = dite (ℕ_discrete j id)
      (λ x. subst (λ b. count_in (m j) ≤ cond b n' (seen_pend j rs)) (sym (eq-eqb j id x))
      (let f = found in let s = same j in let y : count_in (l.cyclics j) ≡ c.count = ap (λ (j : ℕ). count_in (l.cyclics j)) x
      ∙ ap count_in known.1 in omega (arith, f, s, y, e)))
      (λ ne. subst (λ b. count_in (m j) ≤ cond b n' (seen_pend j rs)) (sym (ne_eqb j id ne))
      (let s = same j in let a = N.still.seen_is_enough j in omega (arith, s, a)))

  below : n % 2 ^ 32 ≡ n
  below = let f = found in let b = N.law.below_ceiling id c known.1 in let t = N.ceiling_is in
      mod-eq_of_lt (omega (arith, f, b, t, small))

  pub loads_still : StillHolds k.start ws (Loaded id n ∷ rs) ds l
  loads_still = let le = N.still in record {
    seen_is_enough = counts (n % 2 ^ 32) below l.cyclics (λ j. refl);
    hand_stored = tt;
    fresh = le.fresh;
    held_is = le.held_is;
    followed_is = le.followed_is;
    bank_is = le.bank_is;
    some_left = le.some_left;
    none_left = le.none_left;
  }

  abbrev m' : Cyclics
  m' = changed_at l.cyclics id (option_map cyclic_after_lose)

  same_count : (o : Option AdmittedCyclic) → count_in (option_map cyclic_after_lose o) ≡ count_in o
  same_count None = refl
  same_count (Some d) = refl

  still : (j : ℕ) → count_in (m' j) ≡ count_in (l.cyclics j)
  still = at_cases l.cyclics id (option_map cyclic_after_lose) (λ j o. count_in o ≡ count_in (l.cyclics j))
      (same_count (l.cyclics id)) (λ j _. refl)

  same_index : (d : AdmittedCyclic) → (cyclic_after_lose d).index ≡ d.index
  same_index d = refl

  back : (o : Option AdmittedCyclic) (d : AdmittedCyclic) → option_map cyclic_after_lose o ≡ Some d → (e : AdmittedCyclic)
      × (o ≡ Some e)
      × (cyclic_after_lose e ≡ d)
  back None d e = absurd (cc)
  back (Some x) d e = (x, refl, some_same (cyclic_after_lose x) d e)

  pub loses_enabled : firer_hand_of rs ≡ None → n ≡ k.ceiling → st.sent < 2 ^ 64 - 1 → Enabled (Lose id) l
  loses_enabled bare full room = (
    N.shows.firer_is
        ∙ bare,
    (λ e. free (sym N.shows.marked_is ∙ e)),
    is_some_and (λ (c : AdmittedCyclic). (c.count ≡ l.ceiling) × (c.sent < 2 ^ 64 - 1))
        (l.cyclics id) c known.1 (sym found ∙ (full ∙ sym N.ceiling_is), subst (λ (x : ℕ). x < 2 ^ 64 - 1) known.3 room),
  )

  pub loses_shown : TrailsShow k.start ws (Lost id n ∷ rs) ds (after (Lose id) l)
  loses_shown = let sh = N.shows in let kept = keeps_option_map l.cyclics id cyclic_after_lose same_index in record {
    hard_is = sh.hard_is;
    soft_is = sh.soft_is;
    hard_shown = sh.hard_shown;
    soft_shown = sh.soft_shown;
    firer_is = sh.firer_is;
    drainer_is = sh.drainer_is;
    marked_is = sh.marked_is;
    stays = λ j. same_if (eqb j id) (made_calls j ds) (ended_calls j rs) (open_stay j rs) (one_more 1 (open_stay j rs))
        (l.cyclics j) (option_map cyclic_after_lose (l.cyclics j)) (sh.stays j)
        (same_dropped (made_calls j ds) (ended_calls j rs) (open_stay j rs) (l.cyclics j) (sh.stays j));
    pends = at_cases l.cyclics id (option_map cyclic_after_lose) (λ j o. (d : AdmittedCyclic) → o ≡ Some d
        → get_or ws (pend_word d.index) 0 ≡ d.count + 2 ^ 32 * in_hand j l.marked)
        (λ d e. let b = back (l.cyclics id) d e in
        subst (λ (d : AdmittedCyclic). get_or ws (pend_word d.index) 0 ≡ d.count + 2 ^ 32 * in_hand id l.marked) b.2
        (sh.pends id b.0 b.1)) (λ j _. sh.pends j);
    unused = λ a lt no. sh.unused a lt (λ j d e x. let y = kept j d e in no j y.0 y.1 (y.2 ∙ x));
    new_held = holds_kept ws ws l.cyclics m' kept l.hard_bank l.new_list
        (cond (eqb l.hard_bank l.soft_bank) (consumer_index k.start ds) k.start) (λ _ _ _. refl) refl sh.new_held;
    old_held = λ apart. holds_kept ws ws l.cyclics m' kept l.soft_bank l.old_list (consumer_index k.start ds) (λ _ _ _. refl) refl
        (sh.old_held apart);
    produced = sh.produced;
  }

  pub loses_still : StillHolds k.start ws (Lost id n ∷ rs) ds (after (Lose id) l)
  loses_still = let le = N.still in record {
    seen_is_enough = counts n refl m' still;
    hand_stored = tt;
    fresh = le.fresh;
    held_is = λ e h. let x = le.held_is e h in let y =
        keeps_option_map l.cyclics id cyclic_after_lose same_index (entry_id e) x.0 x.1 in (y.0, y.1, y.2 ∙ x.2);
    followed_is = le.followed_is;
    bank_is = le.bank_is;
    some_left = le.some_left;
    none_left = le.none_left;
  }

pub load_to_raise_law : LoadToRaiseLaw
load_to_raise_law k slots seat me i id st role is at_i free bare room ceiling same_c =
    firing_step k slots seat me i (λ n. n) (TellsLoadToRaise id ceiling (step slots i 0 0 none) me) role
    (λ s R _ at _. let small : k.ceiling < 2 ^ 32 = R.fits.0 in let t : List RaiseStep = (raise_side R.log) in
    let same : me.0.raise_trail ≡ t = (raises k s R seat me.0 at me.1 i 0 role).1.0 in
    let l : SoftLevel = level k s R in let N : RingNow k s.words t (drain_side R.log) l = ring_now k s R in
    let is' : open_stay id t ≡ Some st = ap (open_stay id) (sym same) ∙ is in let free' : ¬ (marked_of t ≡ Some id) =
    λ e. free (ap marked_of same ∙ e) in
    let n : ℕ = get_or s.words i 0 in let high =
    subst (λ (t : List RaiseStep). n ≤ seen_pend id t) (sym same)
    (top k small s.words t (drain_side R.log) l N i id st is' at_i free') in let most : n ≤ ceiling =
    subst (λ (x : ℕ). n ≤ x) (sym same_c) (topmost k small s.words t (drain_side R.log) l N i id st is' at_i free') in
    dite (ℕ_discrete n ceiling)
    (λ full. (
      (Lost id n),
      raise_goes k s R seat me.0 at me.1 i n role (Lost id n) (
        (loses_enabled k small s.words t (drain_side R.log) l N i id st is' at_i free' (ap firer_hand_of (sym same) ∙ bare)
            (full ∙ same_c) room),
        R.enabled,
      )
          (loaded (λ x. TrailsShow k.start x (Lost id n ∷ t) (drain_side R.log) (after (Lose id) l)) s.words i
          (loses_shown k small s.words t (drain_side R.log) l N i id st is' at_i free'))
          (loaded (λ x. StillHolds k.start x (Lost id n ∷ t) (drain_side R.log) (after (Lose id) l)) s.words i
          (loses_still k small s.words t (drain_side R.log) l N i id st is' at_i free'))
          (at_i ∙ ap stay_word (sym is')) refl refl,
      (high, most, (λ _. (length R.log, refl)), λ ne. absurd (ne full)),
    ))
    (λ less. (
      (Loaded id n),
      raise_goes k s R seat me.0 at me.1 i n role (Loaded id n) R.enabled
          (loaded (λ x. TrailsShow k.start x (Loaded id n ∷ t) (drain_side R.log) l) s.words i N.shows)
          (loaded (λ x. StillHolds k.start x (Loaded id n ∷ t) (drain_side R.log) l) s.words i
          (loads_still k small s.words t (drain_side R.log) l N i id st is' at_i free'))
          (at_i ∙ ap stay_word (sym is')) refl refl,
      (high, most, (λ e. absurd (less e)), λ _. (length R.log, refl)),
    )))
