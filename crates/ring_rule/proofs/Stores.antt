-- The store of a buffer word is no event.
use Rattle.std.proofs.Common.{◌≡◌, ℕ, ◌+◌, ◌%◌, ◌^◌, ◌<◌, ◌≤◌, ◌≢◌, eqb, cond, List, ◌∷◌, get_or, set, sym, refl, ap, ◌∙◌, subst}
use Rattle.std.proofs.Common.{arith, get_or-set_other, get_or-set_same, length}
use Rattle.atomic_table.proofs.Lists.{one_turn}
use mathlib.Core.Option.{none}
use Rattle.std.specs.Prelude.{Some}
use Rattle.atomic_table.specs.Table.{step}
use Rattle.cyc_level.specs.Level.{AdmittedCyclic, SoftLevel}
use Rattle.cyc_level.specs.Runs.{StayCounts}
use Rattle.cyc_level.proofs.Room.{new_fits}
use Rattle.ring_rule.specs.FiringSteps.{StoreLaw}
use Rattle.cyc_types.specs.Limits.{greatest_bank, cyclics}
use Rattle.ring_rule.specs.declared.RaiseStep.{RaiseStep}
use Rattle.ring_rule.specs.declared.RaiseStep.TheVariants.{Stored}
use Rattle.ring_rule.specs.declared.DrainStep.{DrainStep}
use Rattle.ring_rule.specs.declared.Setting.{Setting}
use Rattle.ring_rule.specs.Words.{pend_word, slot_word, producer_word, entry, hard_word, soft_word}
use Rattle.ring_rule.specs.Trail.{open_stay, ended_calls, firer_hand_of, hard_bank_of, producer_index, made_calls, consumer_index}
use Rattle.ring_rule.specs.Log.{raise_side, drain_side}
use Rattle.ring_rule.specs.Shown.{IsHandStored, TrailsShow, StillHolds}
use Rattle.ring_rule.specs.Steps.{TellsStore}
use Rattle.ring_rule.proofs.Words.{pend_low, same_turn, slot_high, slot_low, keeps_all, holds_kept}
use Rattle.ring_rule.proofs.Apart.{lower_bank}
use Rattle.ring_rule.proofs.Seats.{level, raises, raise_goes}
use Rattle.ring_rule.proofs.Stays.{behind}
use Rattle.ring_rule.proofs.Now.{RingNow, ring_now, index_low}
use Rattle.ring_rule.proofs.Stands.{firing_step}

-- two indexes of a bank less than its size apart lie in different words
pub other_slot : (bank i j : ℕ) → bank ≤ greatest_bank → i < j → j < i + 2 ^ bank → slot_word bank i ≢ slot_word bank j
other_slot bank i j most less near e = let same : i % 2 ^ bank ≡ j % 2 ^ bank =
    same_turn bank i j (omega (arith, most)) (omega (arith, e)) in let x = one_turn i j (2 ^ bank) (omega arith) near same in
    omega (arith, x)

module _ (k : Setting) (ws : List ℕ) (rs : List RaiseStep) (ds : List DrainStep) (l : SoftLevel) (N : RingNow k ws rs ds l)
    (id : ℕ)
    (st : StayCounts) (up : firer_hand_of rs ≡ Some id) (is : open_stay id rs ≡ Some st) where
  abbrev P : ℕ
  P = producer_index k.start rs

  abbrev i : ℕ
  i = slot_word l.hard_bank P

  abbrev v : ℕ
  v = entry id st.index

  abbrev ws' : List ℕ
  ws' = set ws i v

  abbrev base : ℕ
  base = cond (eqb l.hard_bank l.soft_bank) (consumer_index k.start ds) k.start

  known : (c : AdmittedCyclic) × (l.cyclics id ≡ Some c) × (st.index ≡ c.index) × (st.sent ≡ c.sent) × (st.lost ≡ c.lost)
      × (made_calls id ds ≡ c.done + ended_calls id rs)
  known = behind (made_calls id ds) (ended_calls id rs) (open_stay id rs) (l.cyclics id) st is (N.shows.stays id)

  high : cyclics ≤ i
  high = slot_high l.hard_bank P

  low : i < producer_word 0
  low = slot_low l.hard_bank P N.law.bank_bound

  kept : (j : ℕ) → j ≢ i → get_or ws' j 0 ≡ get_or ws j 0
  kept j ne = get_or-set_other ws i j v 0 ne

  pub puts_shown : TrailsShow k.start ws' (Stored v ∷ rs) ds l
  puts_shown = let sh = N.shows in let h = high in let b = low in record {
    hard_is = sh.hard_is;
    soft_is = sh.soft_is;
    hard_shown = kept hard_word (λ e. omega arith) ∙ sh.hard_shown;
    soft_shown = kept soft_word (λ e. omega arith) ∙ sh.soft_shown;
    firer_is = sh.firer_is;
    drainer_is = sh.drainer_is;
    marked_is = sh.marked_is;
    stays = sh.stays;
    pends = λ j c e. let x = pend_low c.index (index_low k ws rs ds l N j c e) in kept (pend_word c.index) (λ e. omega arith)
        ∙ sh.pends j c e;
    unused = λ j less no. let x = pend_low j less in kept (pend_word j) (λ e. omega arith) ∙ sh.unused j less no;
    new_held = holds_kept ws ws' l.cyclics l.cyclics (keeps_all l.cyclics) l.hard_bank l.new_list base
        (λ j from to. kept (slot_word l.hard_bank j) (let room = new_fits l N.law id (sh.firer_is ∙ up) in let p = sh.produced in
        other_slot l.hard_bank j P N.law.bank_bound (omega (arith, p)) (omega (arith, p, room))))
        (kept (producer_word l.hard_bank) (λ e. omega arith)) sh.new_held;
    old_held = λ apart. holds_kept ws ws' l.cyclics l.cyclics (keeps_all l.cyclics) l.soft_bank l.old_list
        (consumer_index k.start ds)
        (λ j from to. let b = N.law.soft_behind in
        kept (slot_word l.soft_bank j) (lower_bank l.soft_bank l.hard_bank j P (omega (arith, b, apart))))
        (kept (producer_word l.soft_bank) (λ e. omega arith)) (sh.old_held apart);
    produced = sh.produced;
  }

  pub puts_still : StillHolds k.start ws' (Stored v ∷ rs) ds l
  puts_still = let le = N.still in let h = high in let b = low in let wide = N.wide in record {
    seen_is_enough = le.seen_is_enough;
    hand_stored = subst (IsHandStored ws' l.cyclics l.hard_bank P (Some v)) (sym up)
        (known.0, known.1, get_or-set_same ws i v 0 (omega arith) ∙ ap (entry id) known.2);
    fresh = λ bank more most. kept (producer_word bank) (λ e. omega arith) ∙ le.fresh bank more most;
    held_is = le.held_is;
    followed_is = le.followed_is;
    bank_is = le.bank_is;
    some_left = le.some_left;
    none_left = le.none_left;
  }

pub store_law : StoreLaw
store_law k slots seat me id st role up is i at_i v is_v =
    firing_step k slots seat me i (λ _. v) (λ _. TellsStore (step slots i v 0 none) me v) role
    (λ s R _ at _. let t : List RaiseStep = (raise_side R.log) in let same : me.0.raise_trail ≡ t =
    (raises k s R seat me.0 at me.1 i v role).1.0 in
    let l : SoftLevel = level k s R in let N : RingNow k s.words t (drain_side R.log) l = ring_now k s R in
    let up' : firer_hand_of t ≡ Some id = ap firer_hand_of (sym same) ∙ up in let is' : open_stay id t ≡ Some st =
    ap (open_stay id) (sym same) ∙ is in
    let here : slot_word l.hard_bank (producer_index k.start t) ≡ i =
    ap (λ (b : ℕ). slot_word b (producer_index k.start t)) N.shows.hard_is
    ∙ (ap (λ (t : List RaiseStep). slot_word (hard_bank_of t) (producer_index k.start t)) (sym same) ∙ sym at_i) in (
      (Stored v),
      raise_goes k s R seat me.0 at me.1 i v role (Stored v) R.enabled
          (subst (λ (x : ℕ × ℕ). TrailsShow k.start (set s.words x.0 x.1) (Stored x.1 ∷ t) (drain_side R.log) l)
          (λ z. (here z, sym is_v z)) (puts_shown k s.words t (drain_side R.log) l N id st up' is'))
          (subst (λ (x : ℕ × ℕ). StillHolds k.start (set s.words x.0 x.1) (Stored x.1 ∷ t) (drain_side R.log) l)
          (λ z. (here z, sym is_v z)) (puts_still k s.words t (drain_side R.log) l N id st up' is'))
          (at_i ∙ ap (λ (t : List RaiseStep). slot_word (hard_bank_of t) (producer_index k.start t)) same) tt refl,
      (length R.log, refl),
    ))
