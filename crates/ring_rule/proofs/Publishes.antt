-- The store of a producer word is the event Publish.
use Rattle.std.proofs.Common.{◌≡◌, ℕ, ◌+◌, ◌%◌, ◌^◌, ◌≤◌, ◌≢◌, eqb, Bool, true, false, cond, List, [], ◌∷◌, ◌++◌, length, get_or}
use Rattle.std.proofs.Common.{set, sym, refl, ap, ◌∙◌, subst, arith, length-append, get_or-set_other, get_or-set_same}
use mathlib.Core.Option.{none}
use Rattle.std.specs.Prelude.{Option, Some}
use Rattle.atomic_table.specs.Table.{step}
use Rattle.cyc_level.specs.declared.Event.TheVariants.{Publish}
use Rattle.cyc_level.specs.Level.{Cyclics, SoftLevel}
use Rattle.cyc_level.specs.Events.{as_list, after}
use Rattle.cyc_level.proofs.Maps.{is_some_of}
use Rattle.ring_rule.specs.FiringSteps.{PublishLaw}
use Rattle.cyc_types.specs.Limits.{greatest_bank}
use Rattle.ring_rule.specs.declared.RaiseStep.{RaiseStep}
use Rattle.ring_rule.specs.declared.RaiseStep.TheVariants.{Published}
use Rattle.ring_rule.specs.declared.DrainStep.{DrainStep}
use Rattle.ring_rule.specs.declared.Setting.{Setting}
use Rattle.ring_rule.specs.Words.{pend_word, slot_word, producer_word, hard_word, soft_word}
use Rattle.ring_rule.specs.Trail.{firer_hand_of, hard_bank_of, producer_index, stored_entry, consumer_index}
use Rattle.ring_rule.specs.Log.{raise_side, drain_side}
use Rattle.ring_rule.specs.Shown.{HoldsEntry, BankHolds, IsHandStored, TrailsShow, StillHolds}
use Rattle.ring_rule.specs.Steps.{TellsPublish}
use Rattle.ring_rule.proofs.Words.{pend_low, slot_low, keeps_all, entry_kept, holds_kept}
use Rattle.ring_rule.proofs.Seats.{level, raises, raise_goes}
use Rattle.ring_rule.proofs.Now.{RingNow, ring_now, index_low}
use Rattle.ring_rule.proofs.Stands.{firing_step}

still_some : (b : Bool) (old new ys : List ℕ) → cond b new old ≢ [] → cond b (new ++ ys) old ≢ []
still_some true old [] ys ne e = ne refl
still_some true old (x ∷ xs) ys ne e = absurd (cc)
still_some false old new ys ne e = ne e

module _ (ws ws' : List ℕ) (m : Cyclics) (bank : ℕ) (same : (j : ℕ)
    → get_or ws' (slot_word bank j) 0 ≡ get_or ws (slot_word bank j) 0)
    (id : ℕ) where
  holds_snoc : (xs : List ℕ) (i : ℕ) → BankHolds ws m bank i xs → HoldsEntry ws m bank (i + length xs) id
      → get_or ws' (producer_word bank) 0 ≡ (i + length xs + 1) % 2 ^ 32 → BankHolds ws' m bank i (xs ++ id ∷ [])
  holds_snoc [] i h e end = let z : i + 0 ≡ i = omega arith in (
    entry_kept ws ws' m m (keeps_all m) bank i id (same i) (subst (λ (j : ℕ). HoldsEntry ws m bank j id) z e),
    end
        ∙ ap (λ (j : ℕ). (j + 1) % 2 ^ 32) z,
  )
  holds_snoc (x ∷ xs) i h e end = let z : i + length (x ∷ xs) ≡ i + 1 + length xs = omega arith in (
    entry_kept ws ws' m m (keeps_all m) bank i x (same i) h.0,
    holds_snoc xs (i + 1) h.1 (subst (λ (j : ℕ). HoldsEntry ws m bank j id) z e) (end ∙ ap (λ (j : ℕ). (j + 1) % 2 ^ 32) z),
  )

module _ (k : Setting) (ws : List ℕ) (rs : List RaiseStep) (ds : List DrainStep) (l : SoftLevel) (N : RingNow k ws rs ds l)
    (id e : ℕ)
    (up : firer_hand_of rs ≡ Some id) (there : stored_entry rs ≡ Some e) where
  abbrev P : ℕ
  P = producer_index k.start rs

  abbrev i : ℕ
  i = producer_word l.hard_bank

  abbrev v : ℕ
  v = (P + 1) % 2 ^ 32

  abbrev ws' : List ℕ
  ws' = set ws i v

  abbrev base : ℕ
  base = cond (eqb l.hard_bank l.soft_bank) (consumer_index k.start ds) k.start

  abbrev longer : List ℕ
  longer = l.new_list ++ as_list l.firer_hand

  is_listed : as_list l.firer_hand ≡ id ∷ []
  is_listed = ap as_list (N.shows.firer_is ∙ up)

  kept : (j : ℕ) → j ≢ i → get_or ws' j 0 ≡ get_or ws j 0
  kept j ne = get_or-set_other ws i j v 0 ne

  put_there : HoldsEntry ws l.cyclics l.hard_bank P id
  put_there = subst (λ (x : Option ℕ × Option ℕ). IsHandStored ws l.cyclics l.hard_bank P x.0 x.1)
      (λ z. (there z, up z)) N.still.hand_stored

  kept_slot : (bank j : ℕ) → bank ≤ greatest_bank → get_or ws' (slot_word bank j) 0 ≡ get_or ws (slot_word bank j) 0
  kept_slot bank j most = let low = slot_low bank j most in kept (slot_word bank j) (λ e. omega arith)

  pub publishes_shown : TrailsShow k.start ws' (Published v ∷ rs) ds (after Publish l)
  publishes_shown = let sh = N.shows in let most = N.law.bank_bound in let behind = N.law.soft_behind in let p = sh.produced in
      record {
        hard_is = sh.hard_is;
        soft_is = sh.soft_is;
        hard_shown = kept hard_word (λ e. omega arith) ∙ sh.hard_shown;
        soft_shown = kept soft_word (λ e. omega arith) ∙ sh.soft_shown;
        firer_is = refl;
        drainer_is = sh.drainer_is;
        marked_is = sh.marked_is;
        stays = sh.stays;
        pends = λ j c e. let x = pend_low c.index (index_low k ws rs ds l N j c e) in kept (pend_word c.index) (λ e. omega arith)
            ∙ sh.pends j c e;
        unused = λ j less no. let x = pend_low j less in kept (pend_word j) (λ e. omega arith) ∙ sh.unused j less no;
        new_held = subst (λ (x : List ℕ). BankHolds ws' l.cyclics l.hard_bank base (l.new_list ++ x)) (sym is_listed)
            (holds_snoc ws ws' l.cyclics l.hard_bank (λ j. kept_slot l.hard_bank j most) id l.new_list base sh.new_held
            (subst (λ (j : ℕ). HoldsEntry ws l.cyclics l.hard_bank j id) p put_there)
            (let wide = N.wide in get_or-set_same ws i v 0 (omega arith) ∙ ap (λ (j : ℕ). (j + 1) % 2 ^ 32) p));
        old_held = λ apart. holds_kept ws ws' l.cyclics l.cyclics (keeps_all l.cyclics) l.soft_bank l.old_list
            (consumer_index k.start ds)
            (λ j _ _. kept_slot l.soft_bank j (omega (arith, most, behind)))
            (kept (producer_word l.soft_bank) (λ e. apart (omega arith))) (sh.old_held apart);
        produced = let long : length longer ≡ length l.new_list + 1 = ap (λ (x : List ℕ). length (l.new_list ++ x)) is_listed
            ∙ length-append l.new_list (id ∷ []) in omega (arith, p, long);
      }

  pub publishes_still : StillHolds k.start ws' (Published v ∷ rs) ds (after Publish l)
  publishes_still = let le = N.still in record {
    seen_is_enough = le.seen_is_enough;
    hand_stored = tt;
    fresh = λ bank more most. kept (producer_word bank) (λ e. omega arith) ∙ le.fresh bank more most;
    held_is = le.held_is;
    followed_is = le.followed_is;
    bank_is = le.bank_is;
    some_left = λ end saw more. still_some (eqb l.hard_bank l.soft_bank) l.old_list l.new_list (as_list l.firer_hand)
        (le.some_left end saw more);
    none_left = le.none_left;
  }

pub publish_law : PublishLaw
publish_law k slots seat me id e role up there i at_i v is_v =
    firing_step k slots seat me i (λ _. v) (λ _. TellsPublish (step slots i v 0 none) me v) role
    (λ s R _ at _. let t : List RaiseStep = (raise_side R.log) in let same : me.0.raise_trail ≡ t =
    (raises k s R seat me.0 at me.1 i v role).1.0 in
    let l : SoftLevel = level k s R in let N : RingNow k s.words t (drain_side R.log) l = ring_now k s R in
    let up' : firer_hand_of t ≡ Some id = ap firer_hand_of (sym same) ∙ up in let there' : stored_entry t ≡ Some e =
    ap stored_entry (sym same) ∙ there in
    let here : producer_word l.hard_bank ≡ i = ap producer_word N.shows.hard_is
    ∙ (ap (λ (t : List RaiseStep). producer_word (hard_bank_of t)) (sym same) ∙ sym at_i) in
    let value : (producer_index k.start t + 1) % 2 ^ 32 ≡ v =
    ap (λ (t : List RaiseStep). (producer_index k.start t + 1) % 2 ^ 32) (sym same) ∙ sym is_v in (
      (Published v),
      raise_goes k s R seat me.0 at me.1 i v role (Published v) ((is_some_of l.firer_hand id (N.shows.firer_is ∙ up')), R.enabled)
          (subst (λ (x : ℕ × ℕ). TrailsShow k.start (set s.words x.0 x.1) (Published x.1 ∷ t) (drain_side R.log)
          (after Publish l)) (λ z. (here z, value z)) (publishes_shown k s.words t (drain_side R.log) l N id e up' there'))
          (subst (λ (x : ℕ × ℕ). StillHolds k.start (set s.words x.0 x.1) (Published x.1 ∷ t) (drain_side R.log)
          (after Publish l)) (λ z. (here z, value z)) (publishes_still k s.words t (drain_side R.log) l N id e up' there'))
          (at_i ∙ ap (λ (t : List RaiseStep). producer_word (hard_bank_of t)) same) tt refl,
      (length R.log, refl),
    ))
