-- The `fetch_sub` of 1 on a pend word is the event Finish.
use Rattle.std.proofs.Common.{◌≡◌, ℕ, zero, suc, ◌+◌, ◌-◌, ◌*◌, ◌%◌, ◌^◌, ◌<◌, ◌≤◌, eqb, Bool, true, false, cond, List, ◌∷◌}
use Rattle.std.proofs.Common.{get_or, set, sym, refl, ap, ◌∙◌, subst, arith, ne_eqb, get_or-set_other, get_or-set_same, length}
use mathlib.Core.Option.{none}
use mathlib.Core.Logic.{dite}
use native.Mathlib.Decide.{ℕ_discrete}
use Rattle.std.specs.Prelude.{Option, Some, None}
use Rattle.std.specs.Option.{option_map}
use Rattle.atomic_table.specs.Table.{step}
use Rattle.cyc_level.specs.Level.{AdmittedCyclic, Cyclics, SoftLevel, count, count_in, in_hand}
use Rattle.cyc_level.specs.Lawful.{one_if_any}
use Rattle.cyc_level.specs.Events.{changed_at, cyclic_after_finish, hand_after_finish, after_finish}
use Rattle.cyc_level.specs.Runs.{StayCounts}
use Rattle.cyc_level.proofs.Maps.{some_same, is_some_of, at_cases, hand_here}
use Rattle.ring_rule.specs.SoftSteps.{SubtractLaw}
use Rattle.cyc_types.specs.Limits.{cyclics}
use Rattle.ring_rule.specs.Words.{pend_word, entry_id, entry_index, producer_word, hard_word, soft_word}
use Rattle.ring_rule.specs.declared.RaiseStep.{RaiseStep}
use Rattle.ring_rule.specs.declared.DrainStep.{DrainStep}
use Rattle.ring_rule.specs.declared.DrainStep.TheVariants.{Subtracted}
use Rattle.ring_rule.specs.declared.Setting.{Setting}
use Rattle.ring_rule.specs.Trail.{open_stay, ended_calls, seen_pend, held_entry, id_in_entry, drainer_hand_of, made_calls}
use Rattle.ring_rule.specs.Trail.{consumer_index}
use Rattle.ring_rule.specs.Log.{raise_side, drain_side, held_word}
use Rattle.ring_rule.specs.Shown.{IsSameStay, TrailsShow, StillHolds}
use Rattle.ring_rule.specs.Steps.{TellsSubtract}
use Rattle.ring_rule.proofs.Words.{pend_low, pend_distinct, keeps_option_map, holds_high, stored_high}
use Rattle.ring_rule.proofs.Seats.{level, drains, drain_goes}
use Rattle.ring_rule.proofs.Now.{RingNow, ring_now, admitted_low, same_pend}
use Rattle.ring_rule.proofs.Stands.{soft_step}

same_called : (b : Bool) (m e : ℕ) (o : Option StayCounts) (p : Option AdmittedCyclic)
    → (b ≡ true → (c : AdmittedCyclic) × (p ≡ Some c))
    → IsSameStay m e o p → IsSameStay (cond b 1 0 + m) e o (cond b (option_map cyclic_after_finish p) p)
same_called true m e None None ok h = let c = ok refl in let x : None ≡ Some c.0 = c.1 in absurd (cc)
same_called true m e None (Some c) ok h = h
same_called true m e (Some s) None ok h = h
same_called true m e (Some s) (Some c) ok h = let x = h.3 in (h.0, h.1, h.2, omega (arith, x))
same_called false m e o p ok h = subst (λ (x : ℕ). IsSameStay x e o p) (let x : m ≡ 0 + m = omega arith in x) h

laid_id : (n : ℕ) (h : Option ℕ) → id_in_entry (hand_after_finish n h) ≡ hand_after_finish n (id_in_entry h)
laid_id zero h = refl
laid_id (suc zero) h = refl
laid_id (suc (suc n)) h = refl

laid_held : (n e : ℕ) (h : Option ℕ) → hand_after_finish n h ≡ Some e → h ≡ Some e
laid_held zero e h x = absurd (cc)
laid_held (suc zero) e h x = absurd (cc)
laid_held (suc (suc n)) e h x = x

module _ (k : Setting) (small : k.ceiling < 2 ^ 32) (ws : List ℕ) (rs : List RaiseStep) (ds : List DrainStep) (l : SoftLevel)
    (N : RingNow k ws rs ds l) (e : ℕ) (has : held_entry ds ≡ Some e) where
  abbrev id : ℕ
  id = entry_id e

  abbrev i : ℕ
  i = pend_word (entry_index e)

  pub known : (c : AdmittedCyclic) × (l.cyclics id ≡ Some c) × (c.index ≡ entry_index e)
  known = N.still.held_is e has

  abbrev c : AdmittedCyclic
  c = known.0

  here : pend_word c.index ≡ i
  here = ap pend_word known.2

  index_low : c.index < cyclics
  index_low = admitted_low l N.law id c known.1

  hand_is : l.drainer_hand ≡ Some id
  hand_is = N.shows.drainer_is ∙ ap id_in_entry has

  abbrev n : ℕ
  n = get_or ws i 0

  abbrev mark : ℕ
  mark = in_hand id l.marked

  mark_low : mark ≤ 1
  mark_low = cases l.marked where
    cases : (o : Option ℕ) → in_hand id o ≤ 1
    cases None = omega arith
    cases (Some x) = elim (eqb id x) as (λ b. cond {A = ℕ} b 1 0 ≤ 1) [ true ↦ omega arith | false ↦ omega arith ]

  n_is : n ≡ c.count + 2 ^ 32 * mark
  n_is = sym (ap (λ (a : ℕ). get_or ws a 0) here) ∙ N.shows.pends id c known.1

  some_call : 0 < c.count
  some_call = let p = N.law.one_place id in let full : in_hand id l.drainer_hand ≡ 1 = ap (in_hand id) hand_is ∙ hand_here id in
      let same : one_if_any (count l id) ≡ one_if_any c.count = ap (λ o. one_if_any (count_in o)) known.1 in
      dite (ℕ_discrete c.count 0)
      (λ z. let q : one_if_any c.count ≡ 0 = ap one_if_any z in absurd (omega (arith, p, full, same, q)))
      (λ ne. omega (arith, ne))

  pub count_found : n % 2 ^ 32 ≡ c.count
  count_found = let a = n_is in let b = N.law.below_ceiling id c known.1 in let m = mark_low in let t = N.ceiling_is in
      omega (arith, a, b, m, small, t)

  pub one_found : 0 < n % 2 ^ 32
  one_found = let a = count_found in let s = some_call in omega (arith, a, s)

  pub lowered : (n + (2 ^ 64 - 1)) % 2 ^ 64 ≡ n - 1
  lowered = let a = n_is in let b = N.law.below_ceiling id c known.1 in let m = mark_low in let s = some_call in let t =
      N.ceiling_is in omega (arith, a, b, m, s, small, t)

  abbrev ws' : List ℕ
  ws' = set ws i (n - 1)

  low : i < cyclics
  low = subst (λ (x : ℕ). x < cyclics) here (pend_low c.index index_low)

  high : (j : ℕ) → cyclics ≤ j → get_or ws' j 0 ≡ get_or ws j 0
  high j h = let x = low in get_or-set_other ws i j (n - 1) 0 (λ e. omega arith)

  abbrev m' : Cyclics
  m' = changed_at l.cyclics id (option_map cyclic_after_finish)

  same_index : (d : AdmittedCyclic) → (cyclic_after_finish d).index ≡ d.index
  same_index d = refl

  counts : n % 2 ^ 32 ≡ count l id
  counts = count_found ∙ ap count_in (sym known.1)

  pend_here : (d : AdmittedCyclic) → option_map cyclic_after_finish (l.cyclics id) ≡ Some d
      → get_or ws' (pend_word d.index) 0 ≡ d.count + 2 ^ 32 * mark
  pend_here d h = let same : cyclic_after_finish c ≡ d =
      some_same (cyclic_after_finish c) d (ap (option_map cyclic_after_finish) (sym known.1) ∙ h) in let x = low in let wide =
      N.wide in
      subst (λ (d : AdmittedCyclic). get_or ws' (pend_word d.index) 0 ≡ d.count + 2 ^ 32 * mark) same
      (ap (λ (a : ℕ). get_or ws' a 0) here ∙ (get_or-set_same ws i (n - 1) 0 (omega arith)
      ∙ (let f = n_is in let s = some_call in omega (arith, f, s))))

  abbrev l' : SoftLevel
  l' = record l { cyclics = m'; drainer_hand = hand_after_finish (count l id) l.drainer_hand }

  pub finishes_shown : TrailsShow k.start ws' rs (Subtracted n ∷ ds) l'
  finishes_shown = let sh = N.shows in record {
    hard_is = sh.hard_is;
    soft_is = sh.soft_is;
    hard_shown = high hard_word (omega arith) ∙ sh.hard_shown;
    soft_shown = high soft_word (omega arith) ∙ sh.soft_shown;
    firer_is = sh.firer_is;
    drainer_is = (λ z. hand_after_finish (sym counts z) (sh.drainer_is z)) ∙ sym (laid_id (n % 2 ^ 32) (held_entry ds));
    marked_is = sh.marked_is;
    stays = λ j. let hand : drainer_hand_of ds ≡ Some id = ap id_in_entry has in
        subst (λ (x : Option ℕ). IsSameStay (in_hand j x + made_calls j ds) (ended_calls j rs) (open_stay j rs) (m' j)) (sym hand)
        (same_called (eqb j id) (made_calls j ds) (ended_calls j rs) (open_stay j rs) (l.cyclics j)
        (λ t. dite (ℕ_discrete j id) (λ e. (c, ap l.cyclics e ∙ known.1)) (λ ne. let f : eqb j id ≡ false = ne_eqb j id ne in
        let x : true ≡ false = sym t ∙ f in absurd (cc))) (sh.stays j));
    pends = at_cases l.cyclics id (option_map cyclic_after_finish) (λ j o. (d : AdmittedCyclic) → o ≡ Some d
        → get_or ws' (pend_word d.index) 0 ≡ d.count + 2 ^ 32 * in_hand j l.marked) pend_here
        (λ j ne d e. get_or-set_other ws i (pend_word d.index) (n - 1) 0
        (λ x. ne (same_pend l N.law j id d c e known.1 (x ∙ sym here))) ∙ sh.pends j d e);
    unused = λ a lt no. let kept = keeps_option_map l.cyclics id cyclic_after_finish same_index in
        get_or-set_other ws i (pend_word a) (n - 1) 0
        (λ e. let d = kept id c known.1 in no id d.0 d.1 (d.2 ∙ pend_distinct c.index a index_low lt (here ∙ sym e)))
        ∙ sh.unused a lt (λ j d e x. let y = kept j d e in no j y.0 y.1 (y.2 ∙ x));
    new_held = holds_high ws ws' l.cyclics m' (keeps_option_map l.cyclics id cyclic_after_finish same_index) high l.hard_bank
        l.new_list (cond (eqb l.hard_bank l.soft_bank) (consumer_index k.start ds) k.start) sh.new_held;
    old_held = λ apart. holds_high ws ws' l.cyclics m' (keeps_option_map l.cyclics id cyclic_after_finish same_index) high
        l.soft_bank l.old_list (consumer_index k.start ds) (sh.old_held apart);
    produced = sh.produced;
  }

  pub finishes_still : StillHolds k.start ws' rs (Subtracted n ∷ ds) l'
  finishes_still = let le = N.still in record {
    seen_is_enough = at_cases l.cyclics id (option_map cyclic_after_finish) (λ j o. count_in o ≤ seen_pend j rs)
        (subst (λ o. count_in (option_map cyclic_after_finish o) ≤ seen_pend id rs) (sym known.1)
        (let a = le.seen_is_enough id in let b : count l id ≡ c.count = ap count_in known.1 in omega (arith, a, b)))
        (λ j _. le.seen_is_enough j);
    hand_stored = stored_high ws ws' l.cyclics m' (keeps_option_map l.cyclics id cyclic_after_finish same_index) high l.hard_bank
        _ _ _ le.hand_stored;
    fresh = λ bank more most. high (producer_word bank) (omega arith) ∙ le.fresh bank more most;
    held_is = λ x h. let was = le.held_is x (laid_held (n % 2 ^ 32) x (held_entry ds) h) in let y =
        keeps_option_map l.cyclics id cyclic_after_finish same_index (entry_id x) was.0 was.1 in (y.0, y.1, y.2 ∙ was.2);
    followed_is = le.followed_is;
    bank_is = λ bank e. absurd (cc);
    some_left = λ end e. absurd (cc);
    none_left = λ end bank e. absurd (cc);
  }

pub subtract_law : SubtractLaw
subtract_law k slots seat me e role has i at_i =
    soft_step k slots seat me i (λ n. (n + (2 ^ 64 - 1)) % 2 ^ 64) (TellsSubtract (step slots i 1 0 none) me) role
    (λ s R _ at _. let small : k.ceiling < 2 ^ 32 = R.fits.0 in let t : List DrainStep = (drain_side R.log) in
    let same : me.0.drain_trail ≡ t = (drains k s R seat me.0 at me.1 i 0 role).1.0 in
    let l : SoftLevel = level k s R in let N : RingNow k s.words (raise_side R.log) t l = ring_now k s R in
    let has' : held_entry t ≡ Some e = ap held_entry (sym same) ∙ has in let hand : l.drainer_hand ≡ Some (entry_id e) =
    N.shows.drainer_is ∙ ap id_in_entry has' in
    let w : ℕ = pend_word (entry_index e) in let n : ℕ = get_or s.words w 0 in let x : ℕ = get_or s.words i 0 in
    let here : w ≡ i = sym at_i in
    let values : (j : ℕ) → w ≡ j → (get_or s.words w 0 + (2 ^ 64 - 1)) % 2 ^ 64 ≡ (get_or s.words j 0 + (2 ^ 64 - 1)) % 2 ^ 64 =
    λ j z. ap (λ (j : ℕ). (get_or s.words j 0 + (2 ^ 64 - 1)) % 2 ^ 64) z in
    let value : n - 1 ≡ (x + (2 ^ 64 - 1)) % 2 ^ 64 = sym (lowered k small s.words (raise_side R.log) t l N e has')
    ∙ values i here in let found : n ≡ x = ap (λ (j : ℕ). get_or s.words j 0) here in (
      (Subtracted x),
      drain_goes k s R seat me.0 at me.1 i ((x + (2 ^ 64 - 1)) % 2 ^ 64) role (Subtracted x)
          ((is_some_of l.drainer_hand (entry_id e) hand), R.enabled)
          (subst (λ (h : Option ℕ). TrailsShow k.start (set s.words i ((x + (2 ^ 64 - 1)) % 2 ^ 64)) (raise_side R.log)
          (Subtracted x ∷ t) (after_finish h l)) (sym hand)
          (subst (λ (y : ℕ × ℕ × ℕ). TrailsShow k.start (set s.words y.0 y.1) (raise_side R.log) (Subtracted y.2 ∷ t)
          (after_finish (Some (entry_id e)) l)) (λ z. (here z, value z, found z))
          (finishes_shown k small s.words (raise_side R.log) t l N e has')))
          (subst (λ (h : Option ℕ). StillHolds k.start (set s.words i ((x + (2 ^ 64 - 1)) % 2 ^ 64)) (raise_side R.log)
          (Subtracted x ∷ t) (after_finish h l)) (sym hand)
          (subst (λ (y : ℕ × ℕ × ℕ). StillHolds k.start (set s.words y.0 y.1) (raise_side R.log) (Subtracted y.2 ∷ t)
          (after_finish (Some (entry_id e)) l)) (λ z. (here z, value z, found z))
          (finishes_still k small s.words (raise_side R.log) t l N e has')))
          (at_i ∙ ap held_word (sym has')) refl refl,
      (subst (λ (y : ℕ). 0 < y % 2 ^ 32) found (one_found k small s.words (raise_side R.log) t l N e has'), (length R.log, refl)),
    ))
