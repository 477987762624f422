-- The load of a buffer word is the event Take.
use Rattle.std.proofs.Common.{◌≡◌, ℕ, ◌+◌, ◌%◌, ◌^◌, eqb, Bool, true, false, cond, List, [], ◌∷◌, length, get_or, sym, refl, ap}
use Rattle.std.proofs.Common.{◌∙◌, subst, arith, ne_eqb}
use mathlib.Core.Option.{none}
use Rattle.std.specs.Prelude.{Some}
use Rattle.atomic_table.specs.Table.{step}
use Rattle.cyc_level.specs.declared.Event.TheVariants.{Take}
use Rattle.cyc_level.specs.Level.{AdmittedCyclic, Cyclics, SoftLevel, soft_list}
use Rattle.cyc_level.specs.Lawful.{IsId}
use Rattle.cyc_level.specs.Events.{first_of, rest_of, after}
use Rattle.cyc_level.proofs.Maps.{some_same}
use Rattle.ring_rule.specs.SoftSteps.{TakeLaw}
use Rattle.ring_rule.specs.declared.RaiseStep.{RaiseStep}
use Rattle.ring_rule.specs.declared.DrainStep.{DrainStep}
use Rattle.ring_rule.specs.declared.DrainStep.TheVariants.{Took}
use Rattle.ring_rule.specs.declared.Setting.{Setting}
use Rattle.ring_rule.specs.Words.{slot_word, entry_id, entry_index}
use Rattle.ring_rule.specs.Trail.{producer_index, held_entry, id_in_entry, soft_bank_of, consumer_index, producer_seen}
use Rattle.ring_rule.specs.Log.{raise_side, drain_side}
use Rattle.ring_rule.specs.Shown.{HoldsEntry, BankHolds, TrailsShow, StillHolds}
use Rattle.ring_rule.specs.Steps.{TellsTake}
use Rattle.ring_rule.proofs.Words.{first_some, first_held}
use Rattle.ring_rule.proofs.Seats.{level, drains, drain_goes}
use Rattle.ring_rule.proofs.Now.{RingNow, ring_now, loaded, index_low, softs_held}
use Rattle.ring_rule.proofs.Stands.{soft_step}

module _ (ws : List ℕ) (m : Cyclics) (bank id : ℕ) where
  rest_held : (xs : List ℕ) (i : ℕ) → first_of xs ≡ Some id → BankHolds ws m bank i xs → BankHolds ws m bank (i + 1) (rest_of xs)
  rest_held [] i e h = absurd (cc)
  rest_held (x ∷ xs) i e h = h.1

  new_after : (b : Bool) (old new : List ℕ) (i start : ℕ) → first_of (cond b new old) ≡ Some id
      → BankHolds ws m bank (cond b i start) new → BankHolds ws m bank (cond b (i + 1) start) (cond b (rest_of new) new)
  new_after true old new i start e h = rest_held new i e h
  new_after false old new i start e h = h

rest_long : (xs : List ℕ) (id : ℕ) → first_of xs ≡ Some id → length xs ≡ 1 + length (rest_of xs)
rest_long [] id e = absurd (cc)
rest_long (x ∷ xs) id e = omega arith

produced_after : (b : Bool) (old new : List ℕ) (i start p id : ℕ) → first_of (cond b new old) ≡ Some id
    → p ≡ cond b i start + length new → p ≡ cond b (i + 1) start + length (cond b (rest_of new) new)
produced_after true old new i start p id e h = let r = rest_long new id e in omega (arith, h, r)
produced_after false old new i start p id e h = h

module _ (k : Setting) (ws : List ℕ) (rs : List RaiseStep) (ds : List DrainStep) (l : SoftLevel) (N : RingNow k ws rs ds l)
    (id : ℕ)
    (oldest : first_of (soft_list l) ≡ Some id) where
  abbrev C : ℕ
  C = consumer_index k.start ds

  abbrev n : ℕ
  n = get_or ws (slot_word l.soft_bank C) 0

  pub found : HoldsEntry ws l.cyclics l.soft_bank C id
  found = first_held ws l.cyclics l.soft_bank id (soft_list l) C oldest (softs_held k ws rs ds l N)

  pub is_id : entry_id n ≡ id
  is_id = let f = found in let e = f.2 in let low = index_low k ws rs ds l N id f.0 f.1 in omega (arith, e, low)

  pub named : IsId (entry_id n)
  named = let f = found in subst IsId (sym is_id) (N.law.ids id f.0 f.1)

  is_index : (found.0).index ≡ entry_index n
  is_index = let f = found in let e = f.2 in let low = index_low k ws rs ds l N id f.0 f.1 in omega (arith, e, low)

  pub takes_shown : TrailsShow k.start ws rs (Took n ∷ ds) (after Take l)
  takes_shown = let sh = N.shows in record {
    hard_is = sh.hard_is;
    soft_is = sh.soft_is;
    hard_shown = sh.hard_shown;
    soft_shown = sh.soft_shown;
    firer_is = sh.firer_is;
    drainer_is = oldest ∙ ap Some (sym is_id);
    marked_is = sh.marked_is;
    stays = sh.stays;
    pends = sh.pends;
    unused = sh.unused;
    new_held = new_after ws l.cyclics l.hard_bank id (eqb l.hard_bank l.soft_bank) l.old_list l.new_list C k.start oldest
        sh.new_held;
    old_held = λ apart. let b : eqb l.hard_bank l.soft_bank ≡ false = ne_eqb l.hard_bank l.soft_bank apart in
        subst (λ x. BankHolds ws l.cyclics l.soft_bank (C + 1) (cond x l.old_list (rest_of l.old_list))) (sym b)
        (rest_held ws l.cyclics l.soft_bank id l.old_list C (ap (λ x. first_of (cond x l.new_list l.old_list)) (sym b)
        ∙ oldest) (sh.old_held apart));
    produced = produced_after (eqb l.hard_bank l.soft_bank) l.old_list l.new_list C k.start
        (producer_index k.start rs) id oldest sh.produced;
  }

  pub takes_still : StillHolds k.start ws rs (Took n ∷ ds) (after Take l)
  takes_still = let le = N.still in record {
    seen_is_enough = le.seen_is_enough;
    hand_stored = le.hand_stored;
    fresh = le.fresh;
    held_is = λ e h. let same : n ≡ e = some_same n e h in
        subst (λ (x : ℕ). (c : AdmittedCyclic) × (l.cyclics (entry_id x) ≡ Some c) × (c.index ≡ entry_index x)) same
        (found.0, ap l.cyclics is_id ∙ found.1, is_index);
    followed_is = le.followed_is;
    bank_is = λ bank e. absurd (cc);
    some_left = λ end e. absurd (cc);
    none_left = λ end bank e. absurd (cc);
  }

pub take_law : TakeLaw
take_law k slots seat me end role bare saw more i lies =
    soft_step k slots seat me i (λ n. n) (TellsTake (step slots i 0 0 none) me) role
    (λ s R _ at _. let t : List DrainStep = (drain_side R.log) in let same : me.0.drain_trail ≡ t =
    (drains k s R seat me.0 at me.1 i 0 role).1.0 in
    let l : SoftLevel = level k s R in let N : RingNow k s.words (raise_side R.log) t l = ring_now k s R in
    let left = N.still.some_left end (ap producer_seen (sym same) ∙ saw)
    (λ e. more (e ∙ ap (λ t. consumer_index k.start t % 2 ^ 32) (sym same))) in
    let first = first_some (soft_list l) left in let id : ℕ = first.0 in let oldest : first_of (soft_list l) ≡ Some id =
    first.1 in
    let here : slot_word l.soft_bank (consumer_index k.start t) ≡ i =
    (ap (λ (b : ℕ). slot_word b (consumer_index k.start t)) N.shows.soft_is
    ∙ ap (λ (t : List DrainStep). slot_word (soft_bank_of t) (consumer_index k.start t)) (sym same)) ∙ sym lies in (
      (Took (get_or s.words i 0)),
      drain_goes k s R seat me.0 at me.1 i (get_or s.words i 0) role (Took (get_or s.words i 0))
          ((N.shows.drainer_is ∙ ap id_in_entry (ap held_entry (sym same) ∙ bare), left), R.enabled)
          (loaded (λ x. TrailsShow k.start x (raise_side R.log) (Took (get_or s.words i 0) ∷ t) (after Take l)) s.words i
          (subst (λ (j : ℕ). TrailsShow k.start s.words (raise_side R.log) (Took (get_or s.words j 0) ∷ t) (after Take l)) here
          (takes_shown k s.words (raise_side R.log) t l N id oldest)))
          (loaded (λ x. StillHolds k.start x (raise_side R.log) (Took (get_or s.words i 0) ∷ t) (after Take l)) s.words i
          (subst (λ (j : ℕ). StillHolds k.start s.words (raise_side R.log) (Took (get_or s.words j 0) ∷ t) (after Take l)) here
          (takes_still k s.words (raise_side R.log) t l N id oldest)))
          (lies ∙ ap (λ (t : List DrainStep). slot_word (soft_bank_of t) (consumer_index k.start t)) same) refl refl,
      (
        subst (λ (j : ℕ). IsId (entry_id (get_or s.words j 0))) here (named k s.words (raise_side R.log) t l N id oldest),
        (length R.log, refl),
      ),
    ))
