-- The steps of a removal: Mark, the loads that follow it, and Clear.
use Rattle.std.proofs.Common.{◌≡◌, ℕ, ◌+◌, ◌-◌, ◌*◌, ◌%◌, ◌^◌, ◌<◌, ◌≤◌, ◌≢◌, eqb, cond, List, [], ◌∷◌, length, get_or, set, sym}
use Rattle.std.proofs.Common.{refl, ap, ◌∙◌, subst, arith, eq-eqb, ne_eqb, mod-eq_of_lt, get_or-set_other, get_or-set_same}
use mathlib.Core.Option.{none}
use mathlib.Core.Logic.{dite}
use native.Mathlib.Decide.{ℕ_discrete}
use Rattle.std.specs.Prelude.{Some, None}
use Rattle.atomic_table.specs.Table.{step}
use Rattle.cyc_level.specs.declared.Event.TheVariants.{Mark, Clear}
use Rattle.cyc_level.specs.Level.{AdmittedCyclic, Cyclics, SoftLevel, count, count_in, times_in, in_hand, place_count}
use Rattle.cyc_level.specs.Lawful.{one_if_any}
use Rattle.cyc_level.specs.Events.{changed_at, Enabled, after}
use Rattle.cyc_level.specs.Runs.{StayCounts, stay_calls}
use Rattle.cyc_level.proofs.Maps.{some_same, is_some_of, at_other, at_cases, hand_here, hand_else}
use Rattle.ring_rule.specs.FiringSteps.{MarkLaw, ClearLaw, LoadLaw}
use Rattle.cyc_types.specs.Limits.{cyclics}
use Rattle.ring_rule.specs.declared.RaiseStep.{RaiseStep}
use Rattle.ring_rule.specs.declared.RaiseStep.TheVariants.{Loaded, Marked, Cleared}
use Rattle.ring_rule.specs.declared.DrainStep.{DrainStep}
use Rattle.ring_rule.specs.declared.Setting.{Setting}
use Rattle.ring_rule.specs.Words.{pend_word, mark_bit, slot_word, producer_word, entry_id, hard_word, soft_word}
use Rattle.ring_rule.specs.Trail.{
  open_stay,
  ended_calls,
  firer_hand_of,
  marked_of,
  seen_pend,
  id_in_entry,
  made_calls,
  consumer_index,
}
use Rattle.ring_rule.specs.Log.{raise_side, drain_side, stay_word}
use Rattle.ring_rule.specs.Shown.{IsSameStay, BankHolds, TrailsShow, StillHolds}
use Rattle.ring_rule.specs.Steps.{TellsLoad, TellsMark, TellsClear}
use Rattle.ring_rule.proofs.Words.{pend_low, pend_distinct, slot_high, keeps_all, holds_high}
use Rattle.ring_rule.proofs.Seats.{level, raises, raise_goes}
use Rattle.ring_rule.proofs.Stays.{behind, held_once}
use Rattle.ring_rule.proofs.Now.{RingNow, ring_now, loaded, index_low, same_pend}
use Rattle.ring_rule.proofs.Stands.{firing_step}

module _ (ws ws' : List ℕ) (m : Cyclics) (id : ℕ) (high : (j : ℕ) → cyclics ≤ j → get_or ws' j 0 ≡ get_or ws j 0) where
  abbrev without : Cyclics
  without = changed_at m id (λ _. None)

  holds_cleared : (bank : ℕ) (xs : List ℕ) (i : ℕ) → times_in id xs ≡ 0 → BankHolds ws m bank i xs
      → BankHolds ws' without bank i xs
  holds_cleared bank [] i bare h = high (producer_word bank) (omega arith) ∙ h
  holds_cleared bank (x ∷ xs) i bare h = let ne : x ≢ id = λ e. let a = hand_here id in
      let b : in_hand id (Some x) ≡ in_hand id (Some id) = ap (λ (y : ℕ). in_hand id (Some y)) e in omega (arith, a, b, bare) in
      let c = h.0 in (
        (c.0, at_other m id (λ _. None) x ne ∙ c.1, high (slot_word bank i) (slot_high bank i) ∙ c.2),
        holds_cleared bank xs (i + 1) (omega (arith, bare)) h.1,
      )

module _ (k : Setting) (ws : List ℕ) (rs : List RaiseStep) (ds : List DrainStep) (l : SoftLevel) (N : RingNow k ws rs ds l)
    (i id : ℕ)
    (st : StayCounts) (is : open_stay id rs ≡ Some st) (at_i : i ≡ pend_word st.index) where
  pub known : (c : AdmittedCyclic) × (l.cyclics id ≡ Some c) × (st.index ≡ c.index) × (st.sent ≡ c.sent) × (st.lost ≡ c.lost)
      × (made_calls id ds ≡ c.done + ended_calls id rs)
  known = behind (made_calls id ds) (ended_calls id rs) (open_stay id rs) (l.cyclics id) st is (N.shows.stays id)

  abbrev c : AdmittedCyclic
  c = known.0

  here : pend_word c.index ≡ i
  here = sym (at_i ∙ ap pend_word known.2)

  own_low : c.index < cyclics
  own_low = index_low k ws rs ds l N id c known.1

  low : i < cyclics
  low = subst (λ (x : ℕ). x < cyclics) here (pend_low c.index own_low)

  abbrev n : ℕ
  n = get_or ws i 0

  high : (v j : ℕ) → cyclics ≤ j → get_or (set ws i v) j 0 ≡ get_or ws j 0
  high v j h = let x = low in get_or-set_other ws i j v 0 (λ e. omega arith)

  inside : i < length ws
  inside = let w = N.wide in let x = low in omega (arith, w, x)

  -- a load, also of a marked id
  module _ (small : k.ceiling < 2 ^ 32) where
    pub count_found : n % 2 ^ 32 ≡ c.count
    count_found = let p = N.shows.pends id c known.1 in let e : n ≡ get_or ws (pend_word c.index) 0 =
        ap (λ (a : ℕ). get_or ws a 0) (sym here) in let m = held_once id l.marked in
        let b = N.law.below_ceiling id c known.1 in let t = N.ceiling_is in omega (arith, p, e, m, b, t, small)

    pub load_top : n % 2 ^ 32 ≤ seen_pend id rs
    load_top = let a = N.still.seen_is_enough id in let b : count l id ≡ c.count = ap count_in known.1 in let f = count_found in
        omega (arith, a, b, f)

    pub load_still : StillHolds k.start ws (Loaded id n ∷ rs) ds l
    load_still = let le = N.still in record {
      seen_is_enough = λ j. dite (ℕ_discrete j id)
          (λ x. subst (λ b. count l j ≤ cond b (n % 2 ^ 32) (seen_pend j rs)) (sym (eq-eqb j id x))
          (let f = count_found in let e : count l j ≡ c.count = ap (λ (j : ℕ). count l j) x
          ∙ ap count_in known.1 in omega (arith, f, e)))
          (λ ne. subst (λ b. count l j ≤ cond b (n % 2 ^ 32) (seen_pend j rs)) (sym (ne_eqb j id ne)) (le.seen_is_enough j));
      hand_stored = tt;
      fresh = le.fresh;
      held_is = le.held_is;
      followed_is = le.followed_is;
      bank_is = le.bank_is;
      some_left = le.some_left;
      none_left = le.none_left;
    }

  -- Mark
  module _ (free : marked_of rs ≡ None) where
    unmarked : l.marked ≡ None
    unmarked = N.shows.marked_is ∙ free

    pub found : n ≡ c.count
    found = let p = N.shows.pends id c known.1 in let z : in_hand id l.marked ≡ 0 = ap (in_hand id) unmarked in
        sym (ap (λ (a : ℕ). get_or ws a 0) here) ∙ (p ∙ omega (arith, z))

    pub top : n ≤ seen_pend id rs
    top = let a = N.still.seen_is_enough id in let b : count l id ≡ c.count = ap count_in known.1 in let f = found in
        omega (arith, a, b, f)

    pub fits : k.ceiling < 2 ^ 32 → (n + 2 ^ 32) % 2 ^ 64 ≡ n + 2 ^ 32
    fits small = let f = found in let b = N.law.below_ceiling id c known.1 in let t = N.ceiling_is in
        mod-eq_of_lt (omega (arith, f, b, t, small))

    abbrev ws' : List ℕ
    ws' = set ws i (n + 2 ^ 32)

    pub mark_shown : TrailsShow k.start ws' (Marked id n ∷ rs) ds (after (Mark id) l)
    mark_shown = let sh = N.shows in record {
      hard_is = sh.hard_is;
      soft_is = sh.soft_is;
      hard_shown = high (n + 2 ^ 32) hard_word (omega arith) ∙ sh.hard_shown;
      soft_shown = high (n + 2 ^ 32) soft_word (omega arith) ∙ sh.soft_shown;
      firer_is = sh.firer_is;
      drainer_is = sh.drainer_is;
      marked_is = refl;
      stays = sh.stays;
      pends = λ j d e. dite (ℕ_discrete j id)
          (λ x. let same : c ≡ d = some_same c d (sym known.1 ∙ (ap l.cyclics (sym x) ∙ e)) in
          subst (λ (p : ℕ × AdmittedCyclic). get_or ws' (pend_word p.1.index) 0 ≡ p.1.count + 2 ^ 32 * in_hand p.0 (Some id))
          (λ z. (sym x z, same z))
          (ap (λ (a : ℕ). get_or ws' a 0) here ∙ (get_or-set_same ws i (n + 2 ^ 32) 0 inside
          ∙ (let f = found in let o = hand_here id in omega (arith, f, o)))))
          (λ ne. get_or-set_other ws i (pend_word d.index) (n + 2 ^ 32) 0
          (λ x. ne (same_pend l N.law j id d c e known.1 (x ∙ sym here)))
          ∙ (let p = sh.pends j d e in let a : in_hand j l.marked ≡ 0 = ap (in_hand j) unmarked in let b = hand_else j id ne in
          let q : get_or ws (pend_word d.index) 0 ≡ d.count + 2 ^ 32 * in_hand j (Some id) = omega (arith, p, a, b) in q));
      unused = λ a lt no. get_or-set_other ws i (pend_word a) (n + 2 ^ 32) 0
          (λ e. no id c known.1 (pend_distinct c.index a own_low lt (here ∙ sym e))) ∙ sh.unused a lt no;
      new_held = holds_high ws ws' l.cyclics l.cyclics (keeps_all l.cyclics) (high (n + 2 ^ 32)) l.hard_bank l.new_list
          (cond (eqb l.hard_bank l.soft_bank) (consumer_index k.start ds) k.start) sh.new_held;
      old_held = λ apart. holds_high ws ws' l.cyclics l.cyclics (keeps_all l.cyclics) (high (n + 2 ^ 32)) l.soft_bank l.old_list
          (consumer_index k.start ds) (sh.old_held apart);
      produced = sh.produced;
    }

    pub mark_still : StillHolds k.start ws' (Marked id n ∷ rs) ds (after (Mark id) l)
    mark_still = let le = N.still in record {
      seen_is_enough = λ j. dite (ℕ_discrete j id)
          (λ x. subst (λ b. count l j ≤ cond b n (seen_pend j rs)) (sym (eq-eqb j id x))
          (let f = found in let e : count l j ≡ c.count = ap (λ (j : ℕ). count l j) x
          ∙ ap count_in known.1 in omega (arith, f, e)))
          (λ ne. subst (λ b. count l j ≤ cond b n (seen_pend j rs)) (sym (ne_eqb j id ne)) (le.seen_is_enough j));
      hand_stored = tt;
      fresh = λ bank more most. high (n + 2 ^ 32) (producer_word bank) (omega arith) ∙ le.fresh bank more most;
      held_is = le.held_is;
      followed_is = le.followed_is;
      bank_is = le.bank_is;
      some_left = le.some_left;
      none_left = le.none_left;
    }

    pub mark_enabled : firer_hand_of rs ≡ None → Enabled (Mark id) l
    mark_enabled bare = (N.shows.firer_is ∙ bare, unmarked, is_some_of (l.cyclics id) c known.1)

  -- Clear
  module _ (mine : marked_of rs ≡ Some id) (none : seen_pend id rs ≡ 0) where
    abbrev wz : List ℕ
    wz = set ws i 0

    is_marked : l.marked ≡ Some id
    is_marked = N.shows.marked_is ∙ mine

    no_call : count l id ≡ 0
    no_call = let a = N.still.seen_is_enough id in omega (arith, a, none)

    nowhere : place_count l id ≡ 0
    nowhere = N.law.one_place id ∙ ap one_if_any no_call

    pub clear_enabled : firer_hand_of rs ≡ None → Enabled (Clear id) l
    clear_enabled bare = (N.shows.firer_is ∙ bare, is_marked, no_call)

    same_cleared : (j : ℕ) → IsSameStay (made_calls j ds)
        (cond (eqb j id) (ended_calls j rs + stay_calls (open_stay j rs)) (ended_calls j rs))
        (cond (eqb j id) None (open_stay j rs)) (cond (eqb j id) None (l.cyclics j))
    same_cleared j = dite (ℕ_discrete j id)
        (λ e. subst (λ b. IsSameStay (made_calls j ds)
        (cond b (ended_calls j rs + stay_calls (open_stay j rs)) (ended_calls j rs)) (cond b None (open_stay j rs))
        (cond b None (l.cyclics j))) (sym (eq-eqb j id e))
        (subst (λ (j : ℕ). made_calls j ds ≡ ended_calls j rs + stay_calls (open_stay j rs)) (sym e)
        (let m = known.5 in let s = known.3 in let x = known.4 in let sums = N.law.conserved id c known.1 in let z : c.count ≡ 0 =
        sym (ap count_in known.1) ∙ no_call in
        let y : stay_calls (open_stay id rs) ≡ st.sent - st.lost = ap stay_calls is in omega (arith, m, s, x, sums, z, y))))
        (λ ne. subst (λ b. IsSameStay (made_calls j ds)
        (cond b (ended_calls j rs + stay_calls (open_stay j rs)) (ended_calls j rs)) (cond b None (open_stay j rs))
        (cond b None (l.cyclics j))) (sym (ne_eqb j id ne)) (N.shows.stays j))

    left : (j : ℕ) (d : AdmittedCyclic) → j ≢ id → l.cyclics j ≡ Some d → changed_at l.cyclics id (λ _. None) j ≡ Some d
    left j d ne e = at_other l.cyclics id (λ _. None) j ne ∙ e

    pub clear_shown : TrailsShow k.start wz (Cleared id ∷ rs) ds (after (Clear id) l)
    clear_shown = let sh = N.shows in let gone = nowhere in record {
      hard_is = sh.hard_is;
      soft_is = sh.soft_is;
      hard_shown = high 0 hard_word (omega arith) ∙ sh.hard_shown;
      soft_shown = high 0 soft_word (omega arith) ∙ sh.soft_shown;
      firer_is = sh.firer_is;
      drainer_is = sh.drainer_is;
      marked_is = refl;
      stays = same_cleared;
      pends = at_cases l.cyclics id (λ _. None) (λ j o. (d : AdmittedCyclic) → o ≡ Some d
          → get_or wz (pend_word d.index) 0 ≡ d.count + 2 ^ 32 * in_hand j None) (λ d e. absurd (cc))
          (λ j ne d e. get_or-set_other ws i (pend_word d.index) 0 0
          (λ x. ne (same_pend l N.law j id d c e known.1 (x ∙ sym here)))
          ∙ (let p = sh.pends j d e in let a : in_hand j l.marked ≡ 0 = ap (in_hand j) is_marked
          ∙ hand_else j id ne in omega (arith, p, a)));
      unused = λ a lt no. dite (ℕ_discrete (pend_word a) i) (λ e. ap (λ (x : ℕ). get_or wz x 0) e
          ∙ get_or-set_same ws i 0 0 inside)
          (λ ne. get_or-set_other ws i (pend_word a) 0 0 ne ∙ sh.unused a lt (λ j d e x. dite (ℕ_discrete j id)
          (λ y. let same : c ≡ d = some_same c d (sym known.1 ∙ (ap l.cyclics (sym y) ∙ e)) in
          ne (ap pend_word (sym x ∙ ap (λ (z : AdmittedCyclic). z.index) (sym same)) ∙ here)) (λ y. no j d (left j d y e) x)));
      new_held = holds_cleared ws wz l.cyclics id (high 0) l.hard_bank l.new_list
          (cond (eqb l.hard_bank l.soft_bank) (consumer_index k.start ds) k.start) (omega (arith, gone)) sh.new_held;
      old_held = λ apart. holds_cleared ws wz l.cyclics id (high 0) l.soft_bank l.old_list (consumer_index k.start ds)
          (omega (arith, gone)) (sh.old_held apart);
      produced = sh.produced;
    }

    pub clear_still : StillHolds k.start wz (Cleared id ∷ rs) ds (after (Clear id) l)
    clear_still = let le = N.still in let gone = nowhere in record {
      seen_is_enough = at_cases l.cyclics id (λ _. None) (λ j o. count_in o ≤ seen_pend j rs) (omega arith)
          (λ j _. le.seen_is_enough j);
      hand_stored = tt;
      fresh = λ bank more most. high 0 (producer_word bank) (omega arith) ∙ le.fresh bank more most;
      held_is = λ e h. let x = le.held_is e h in let ne : entry_id e ≢ id = λ y. let a : in_hand id l.drainer_hand ≡ 1 =
          ap (in_hand id) (N.shows.drainer_is ∙ (ap id_in_entry h ∙ ap Some y)) ∙ hand_here id in omega (arith, a, gone) in
          (x.0, left (entry_id e) x.0 ne x.1, x.2);
      followed_is = le.followed_is;
      bank_is = le.bank_is;
      some_left = le.some_left;
      none_left = le.none_left;
    }

pub mark_law : MarkLaw
mark_law k slots seat me i id st role is at_i free bare =
    firing_step k slots seat me i (λ n. (n + mark_bit) % 2 ^ 64) (TellsMark id (step slots i mark_bit 0 none) me) role
    (λ s R _ at _. let small : k.ceiling < 2 ^ 32 = R.fits.0 in let t : List RaiseStep = (raise_side R.log) in
    let same : me.0.raise_trail ≡ t = (raises k s R seat me.0 at me.1 i 0 role).1.0 in let l : SoftLevel = level k s R in
    let N : RingNow k s.words t (drain_side R.log) l = ring_now k s R in
    let is' : open_stay id t ≡ Some st = ap (open_stay id) (sym same) ∙ is in let free' : marked_of t ≡ None =
    ap marked_of (sym same) ∙ free in let n : ℕ = get_or s.words i 0 in let f =
    fits k s.words t (drain_side R.log) l N i id st is' at_i free' small in (
      (Marked id n),
      raise_goes k s R seat me.0 at me.1 i ((n + 2 ^ 32) % 2 ^ 64) role (Marked id n) (
        (mark_enabled k s.words t (drain_side R.log) l N i id st is' at_i free' (ap firer_hand_of (sym same) ∙ bare)),
        R.enabled,
      )
          (subst (λ (x : ℕ). TrailsShow k.start (set s.words i x) (Marked id n ∷ t) (drain_side R.log) (after (Mark id) l))
          (sym f) (mark_shown k s.words t (drain_side R.log) l N i id st is' at_i free'))
          (subst (λ (x : ℕ). StillHolds k.start (set s.words i x) (Marked id n ∷ t) (drain_side R.log) (after (Mark id) l))
          (sym f) (mark_still k s.words t (drain_side R.log) l N i id st is' at_i free'))
          (at_i ∙ ap stay_word (sym is')) refl refl,
      (
        subst (λ (t : List RaiseStep). n ≤ seen_pend id t) (sym same)
            (top k s.words t (drain_side R.log) l N i id st is' at_i free'),
        (length R.log, refl),
      ),
    ))

pub clear_law : ClearLaw
clear_law k slots seat me i id st role is at_i mine zero_seen bare =
    firing_step k slots seat me i (λ _. 0) (λ _. TellsClear id (step slots i 0 0 none) me 0) role
    (λ s R _ at _. let t : List RaiseStep = (raise_side R.log) in let same : me.0.raise_trail ≡ t =
    (raises k s R seat me.0 at me.1 i 0 role).1.0 in let l : SoftLevel = level k s R in
    let N : RingNow k s.words t (drain_side R.log) l = ring_now k s R in
    let is' : open_stay id t ≡ Some st = ap (open_stay id) (sym same) ∙ is in let mine' : marked_of t ≡ Some id =
    ap marked_of (sym same) ∙ mine in let z' : seen_pend id t ≡ 0 = ap (seen_pend id) (sym same) ∙ zero_seen in (
      (Cleared id),
      raise_goes k s R seat me.0 at me.1 i 0 role (Cleared id) (
        (clear_enabled k s.words t (drain_side R.log) l N i id st is' at_i mine' z' (ap firer_hand_of (sym same) ∙ bare)),
        R.enabled,
      )
          (clear_shown k s.words t (drain_side R.log) l N i id st is' at_i mine' z')
          (clear_still k s.words t (drain_side R.log) l N i id st is' at_i mine' z')
          (at_i ∙ ap stay_word (sym is')) tt refl,
      (length R.log, refl),
    ))

pub load_law : LoadLaw
load_law k slots seat me i id st role is at_i =
    firing_step k slots seat me i (λ n. n) (TellsLoad id (step slots i 0 0 none) me) role
    (λ s R _ at _. let small : k.ceiling < 2 ^ 32 = R.fits.0 in let t : List RaiseStep = (raise_side R.log) in
    let same : me.0.raise_trail ≡ t = (raises k s R seat me.0 at me.1 i 0 role).1.0 in let l : SoftLevel = level k s R in
    let N : RingNow k s.words t (drain_side R.log) l = ring_now k s R in
    let is' : open_stay id t ≡ Some st = ap (open_stay id) (sym same) ∙ is in let n : ℕ = get_or s.words i 0 in (
      (Loaded id n),
      raise_goes k s R seat me.0 at me.1 i n role (Loaded id n) R.enabled
          (loaded (λ x. TrailsShow k.start x (Loaded id n ∷ t) (drain_side R.log) l) s.words i N.shows)
          (loaded (λ x. StillHolds k.start x (Loaded id n ∷ t) (drain_side R.log) l) s.words i
          (load_still k s.words t (drain_side R.log) l N i id st is' at_i small))
          (at_i ∙ ap stay_word (sym is')) refl refl,
      (
        subst (λ (t : List RaiseStep). n % 2 ^ 32 ≤ seen_pend id t) (sym same)
            (load_top k s.words t (drain_side R.log) l N i id st is' at_i small),
        (length R.log, refl),
      ),
    ))
