-- The `fetch_add` of 1 on a pend word is the event Expire.
use Rattle.std.proofs.Common.{◌≡◌, ℕ, ◌+◌, ◌-◌, ◌*◌, ◌%◌, ◌^◌, ◌<◌, ◌≤◌, eqb, cond, List, ◌∷◌, length, get_or, set, sym, refl, ap}
use Rattle.std.proofs.Common.{◌∙◌, subst, arith, eq-eqb, ne_eqb, mod-eq_of_lt, get_or-set_other, get_or-set_same}
use mathlib.Core.Option.{none}
use Rattle.std.specs.Prelude.{Option, Some, None}
use Rattle.std.specs.Option.{option_map}
use Rattle.atomic_table.specs.Table.{step}
use Rattle.cyc_level.specs.declared.Event.TheVariants.{Expire}
use Rattle.cyc_level.specs.Level.{AdmittedCyclic, SoftLevel, count, count_in, in_hand}
use Rattle.cyc_level.specs.Lawful.{Lawful}
use Rattle.cyc_level.specs.Events.{changed_at, cyclic_after_expire, hand_after_expire, Enabled, after}
use Rattle.cyc_level.specs.Runs.{StayCounts, one_more}
use Rattle.cyc_level.proofs.Maps.{some_same, is_some_and, at_cases}
use Rattle.ring_rule.specs.FiringSteps.{AddLaw}
use Rattle.cyc_types.specs.Limits.{cyclics}
use Rattle.ring_rule.specs.Words.{pend_word, entry_id, producer_word, hard_word, soft_word, word_count}
use Rattle.ring_rule.specs.declared.RaiseStep.{RaiseStep}
use Rattle.ring_rule.specs.declared.RaiseStep.TheVariants.{Added}
use Rattle.ring_rule.specs.declared.DrainStep.{DrainStep}
use Rattle.ring_rule.specs.Trail.{open_stay, ended_calls, firer_hand_of, marked_of, seen_pend, made_calls, consumer_index}
use Rattle.ring_rule.specs.Log.{raise_side, drain_side, stay_word}
use Rattle.ring_rule.specs.Shown.{TrailsShow, StillHolds}
use Rattle.ring_rule.specs.Steps.{TellsAdd}
use Rattle.ring_rule.proofs.Words.{pend_low, pend_distinct, keeps_option_map, holds_high}
use Rattle.ring_rule.proofs.Seats.{level, raises, raise_goes}
use Rattle.ring_rule.proofs.Stays.{behind, same_if, same_expired, not_held}
use Rattle.ring_rule.proofs.Now.{RingNow, ring_now, admitted_low, same_pend}
use Rattle.ring_rule.proofs.Stands.{firing_step}

module _ (start : ℕ) (ws : List ℕ) (wide : length ws ≡ word_count) (rs : List RaiseStep) (ds : List DrainStep) (l : SoftLevel)
    (law : Lawful l) (sh : TrailsShow start ws rs ds l) (le : StillHolds start ws rs ds l)
    (i id : ℕ) (st : StayCounts) (is : open_stay id rs ≡ Some st) (at_i : i ≡ pend_word st.index)
    (free : ¬ (marked_of rs ≡ Some id)) where
  pub known : (c : AdmittedCyclic) × (l.cyclics id ≡ Some c) × (st.index ≡ c.index) × (st.sent ≡ c.sent) × (st.lost ≡ c.lost)
      × (made_calls id ds ≡ c.done + ended_calls id rs)
  known = behind (made_calls id ds) (ended_calls id rs) (open_stay id rs) (l.cyclics id) st is (sh.stays id)

  abbrev c : AdmittedCyclic
  c = known.0

  here : pend_word c.index ≡ i
  here = sym (at_i ∙ ap pend_word known.2)

  index_low : c.index < cyclics
  index_low = admitted_low l law id c known.1

  low : i < cyclics
  low = subst (λ (x : ℕ). x < cyclics) here (pend_low c.index index_low)

  pub found : get_or ws i 0 ≡ c.count
  found = let p = sh.pends id c known.1 in let z : in_hand id l.marked ≡ 0 =
      not_held id l.marked (λ e. free (sym sh.marked_is ∙ e)) in
      sym (ap (λ (a : ℕ). get_or ws a 0) here) ∙ (p ∙ omega (arith, z))

  abbrev n : ℕ
  n = get_or ws i 0

  abbrev ws' : List ℕ
  ws' = set ws i (n + 1)

  counted : n ≡ count l id
  counted = found ∙ ap count_in (sym known.1)

  high : (j : ℕ) → cyclics ≤ j → get_or ws' j 0 ≡ get_or ws j 0
  high j h = let x = low in get_or-set_other ws i j (n + 1) 0 (λ e. omega arith)

  same_index : (d : AdmittedCyclic) → (cyclic_after_expire d).index ≡ d.index
  same_index d = refl

  pend_here : (o : Option AdmittedCyclic) → o ≡ Some c → (d : AdmittedCyclic) → option_map cyclic_after_expire o ≡ Some d
      → get_or ws' (pend_word d.index) 0 ≡ d.count + 2 ^ 32 * in_hand id l.marked
  pend_here o e d h = let z : in_hand id l.marked ≡ 0 = not_held id l.marked (λ e. free (sym sh.marked_is ∙ e)) in
      let same : cyclic_after_expire c ≡ d = some_same (cyclic_after_expire c) d (ap (option_map cyclic_after_expire) (sym e) ∙ h)
      in let x = low in let wide = wide in
      subst (λ (d : AdmittedCyclic). get_or ws' (pend_word d.index) 0 ≡ d.count + 2 ^ 32 * in_hand id l.marked) same
      (ap (λ (a : ℕ). get_or ws' a 0) here ∙ (get_or-set_same ws i (n + 1) 0 (omega arith)
      ∙ (let f = found in omega (arith, f, z))))

  pub adds_shown : TrailsShow start ws' (Added id n ∷ rs) ds (after (Expire id) l)
  adds_shown = record {
    hard_is = sh.hard_is;
    soft_is = sh.soft_is;
    hard_shown = high hard_word (omega arith) ∙ sh.hard_shown;
    soft_shown = high soft_word (omega arith) ∙ sh.soft_shown;
    firer_is = λ z. hand_after_expire (sym counted z) id (sh.firer_is z);
    drainer_is = sh.drainer_is;
    marked_is = sh.marked_is;
    stays = λ j. same_if (eqb j id) (made_calls j ds) (ended_calls j rs) (open_stay j rs) (one_more 0 (open_stay j rs))
        (l.cyclics j) (option_map cyclic_after_expire (l.cyclics j)) (sh.stays j)
        (same_expired (made_calls j ds) (ended_calls j rs) (open_stay j rs) (l.cyclics j) (sh.stays j));
    pends = at_cases l.cyclics id (option_map cyclic_after_expire) (λ j o. (d : AdmittedCyclic) → o ≡ Some d
        → get_or ws' (pend_word d.index) 0 ≡ d.count + 2 ^ 32 * in_hand j l.marked)
        (pend_here (l.cyclics id) known.1)
        (λ j ne d e. get_or-set_other ws i (pend_word d.index) (n + 1) 0
        (λ x. ne (same_pend l law j id d c e known.1 (x ∙ sym here))) ∙ sh.pends j d e);
    unused = λ a lt no. let kept = keeps_option_map l.cyclics id cyclic_after_expire same_index in
        get_or-set_other ws i (pend_word a) (n + 1) 0
        (λ e. let d = kept id c known.1 in no id d.0 d.1 (d.2 ∙ pend_distinct c.index a index_low lt (here ∙ sym e)))
        ∙ sh.unused a lt (λ j d e x. let y = kept j d e in no j y.0 y.1 (y.2 ∙ x));
    new_held = holds_high ws ws' l.cyclics (changed_at l.cyclics id (option_map cyclic_after_expire))
        (keeps_option_map l.cyclics id cyclic_after_expire same_index) high l.hard_bank l.new_list
        (cond (eqb l.hard_bank l.soft_bank) (consumer_index start ds) start) sh.new_held;
    old_held = λ apart. holds_high ws ws' l.cyclics (changed_at l.cyclics id (option_map cyclic_after_expire))
        (keeps_option_map l.cyclics id cyclic_after_expire same_index) high l.soft_bank l.old_list (consumer_index start ds)
        (sh.old_held apart);
    produced = sh.produced;
  }

  pub adds_still : StillHolds start ws' (Added id n ∷ rs) ds (after (Expire id) l)
  adds_still = record {
    seen_is_enough = at_cases l.cyclics id (option_map cyclic_after_expire)
        (λ j o. count_in o ≤ cond (eqb j id) (n + 1) (seen_pend j rs))
        (subst (λ b. count_in (option_map cyclic_after_expire (l.cyclics id)) ≤ cond b (n + 1) (seen_pend id rs))
        (sym (eq-eqb id id refl)) (subst (λ o. count_in (option_map cyclic_after_expire o) ≤ n + 1) (sym known.1)
        (let f = found in omega (arith, f))))
        (λ j ne. subst (λ b. count_in (l.cyclics j) ≤ cond b (n + 1) (seen_pend j rs)) (sym (ne_eqb j id ne))
        (le.seen_is_enough j));
    hand_stored = tt;
    fresh = λ bank more most. high (producer_word bank) (omega arith) ∙ le.fresh bank more most;
    held_is = λ e h. let x = le.held_is e h in let y =
        keeps_option_map l.cyclics id cyclic_after_expire same_index (entry_id e) x.0 x.1 in (y.0, y.1, y.2 ∙ x.2);
    followed_is = le.followed_is;
    bank_is = le.bank_is;
    some_left = le.some_left;
    none_left = le.none_left;
  }

  pub adds_enabled : (ceiling : ℕ) → l.ceiling ≡ ceiling → firer_hand_of rs ≡ None → seen_pend id rs < ceiling
      → st.sent < 2 ^ 64 - 1 → Enabled (Expire id) l
  adds_enabled ceiling is_ceiling bare below room = (
    sh.firer_is ∙ bare,
    (λ e. free (sym sh.marked_is ∙ e)),
    is_some_and (λ (c : AdmittedCyclic). (c.count < l.ceiling) × (c.sent < 2 ^ 64 - 1)) (l.cyclics id) c known.1 (
      (let a = le.seen_is_enough id in let b : count l id ≡ c.count = ap count_in known.1 in
          omega (arith, a, b, below, is_ceiling)),
      subst (λ (x : ℕ). x < 2 ^ 64 - 1) known.3 room,
    ),
  )

pub add_law : AddLaw
add_law k slots seat me i id st role is at_i free bare below room =
    firing_step k slots seat me i (λ n. (n + 1) % 2 ^ 64) (TellsAdd id (step slots i 1 0 none) me) role
    (λ s R _ at _. let small : k.ceiling < 2 ^ 32 = R.fits.0 in let t : List RaiseStep = (raise_side R.log) in
    let same : me.0.raise_trail ≡ t = (raises k s R seat me.0 at me.1 i 0 role).1.0 in
    let l : SoftLevel = level k s R in let N : RingNow k s.words t (drain_side R.log) l = ring_now k s R in let law : Lawful l =
    N.law in
    let is' : open_stay id t ≡ Some st = ap (open_stay id) (sym same) ∙ is in let free' : ¬ (marked_of t ≡ Some id) =
    λ e. free (ap marked_of same ∙ e) in
    let below' : seen_pend id t < k.ceiling = subst (λ (t : List RaiseStep). seen_pend id t < k.ceiling) same below in
    let n : ℕ = get_or s.words i 0 in
    let f = found k.start s.words N.wide t (drain_side R.log) l law N.shows N.still i id st is' at_i free' in
    let top : n ≤ seen_pend id t = subst (λ (x : ℕ). x ≤ seen_pend id t)
    (sym (counted k.start s.words N.wide t (drain_side R.log) l law N.shows N.still i id st is' at_i free'))
    (N.still.seen_is_enough id) in
    let fits : (n + 1) % 2 ^ 64 ≡ n + 1 = mod-eq_of_lt (omega (arith, top, below', small)) in (
      (Added id n),
      raise_goes k s R seat me.0 at me.1 i ((n + 1) % 2 ^ 64) role (Added id n) (
        (adds_enabled k.start s.words N.wide t (drain_side R.log) l law N.shows N.still i id st is' at_i free' k.ceiling
            N.ceiling_is (ap firer_hand_of (sym same) ∙ bare) below' room),
        R.enabled,
      )
          (subst (λ (x : ℕ). TrailsShow k.start (set s.words i x) (Added id n ∷ t) (drain_side R.log) (after (Expire id) l))
          (sym fits)
          (adds_shown k.start s.words N.wide t (drain_side R.log) l law N.shows N.still i id st is' at_i free'))
          (subst (λ (x : ℕ). StillHolds k.start (set s.words i x) (Added id n ∷ t) (drain_side R.log) (after (Expire id) l))
          (sym fits)
          (adds_still k.start s.words N.wide t (drain_side R.log) l law N.shows N.still i id st is' at_i free'))
          (at_i ∙ ap stay_word (sym is')) refl refl,
      (subst (λ (t : List RaiseStep). n ≤ seen_pend id t) (sym same) top, (length R.log, refl)),
    ))
