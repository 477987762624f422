-- The steps on the two bank words: Switch, Follow, and the firing side's look at the soft bank.
use Rattle.std.proofs.Common.{◌≡◌, ℕ, ◌+◌, ◌%◌, ◌^◌, ◌<◌, ◌≤◌, ◌≢◌, eqb, Bool, true, cond, List, [], ◌∷◌, length, get_or, set}
use Rattle.std.proofs.Common.{sym, refl, ap, ◌∙◌, subst, arith, eq-eqb, ne_eqb, eqb-true, get_or-set_other, get_or-set_same}
use mathlib.Core.Option.{none}
use Rattle.std.specs.Prelude.{Some, None}
use Rattle.atomic_table.specs.Table.{step}
use Rattle.cyc_level.specs.declared.Event.TheVariants.{Switch, Follow}
use Rattle.cyc_level.specs.Level.{SoftLevel}
use Rattle.cyc_level.specs.Events.{Enabled, after}
use Rattle.ring_rule.specs.FiringSteps.{SwitchLaw, LoadSoftBankLaw}
use Rattle.ring_rule.specs.SoftSteps.{FollowLaw}
use Rattle.cyc_types.specs.Limits.{greatest_bank}
use Rattle.ring_rule.specs.declared.RaiseStep.{RaiseStep}
use Rattle.ring_rule.specs.declared.RaiseStep.TheVariants.{Switched, LoadedSoftBank}
use Rattle.ring_rule.specs.declared.DrainStep.{DrainStep}
use Rattle.ring_rule.specs.declared.DrainStep.TheVariants.{Followed}
use Rattle.ring_rule.specs.declared.Setting.{Setting}
use Rattle.ring_rule.specs.Words.{pend_word, slot_word, producer_word, hard_word, soft_word}
use Rattle.ring_rule.specs.Trail.{ended_calls, firer_hand_of, hard_bank_of, producer_index, has_followed, soft_bank_of}
use Rattle.ring_rule.specs.Trail.{consumer_index, producer_seen, bank_seen}
use Rattle.ring_rule.specs.Log.{raise_side, drain_side}
use Rattle.ring_rule.specs.Shown.{BankHolds, TrailsShow, StillHolds}
use Rattle.ring_rule.specs.Steps.{TellsSwitch, TellsLoadSoftBank, TellsFollow}
use Rattle.ring_rule.proofs.Words.{pend_low, slot_low, keeps_all, holds_kept, stored_kept}
use Rattle.ring_rule.proofs.Seats.{level, raises, drains, raise_goes, drain_goes}
use Rattle.ring_rule.proofs.Now.{RingNow, ring_now, loaded, index_low}
use Rattle.ring_rule.proofs.Stands.{firing_step, soft_step}

module _ (k : Setting) (ws : List ℕ) (rs : List RaiseStep) (ds : List DrainStep) (l : SoftLevel) (N : RingNow k ws rs ds l) where
  abbrev C : ℕ
  C = consumer_index k.start ds

  other : (i v j : ℕ) → j ≢ i → get_or (set ws i v) j 0 ≡ get_or ws j 0
  other i v j ne = get_or-set_other ws i j v 0 ne

  holds_low : (i v bank : ℕ) (xs : List ℕ) (from : ℕ) → bank ≤ greatest_bank → hard_word ≤ i → BankHolds ws l.cyclics bank from xs
      → BankHolds (set ws i v) l.cyclics bank from xs
  holds_low i v bank xs from most high h = holds_kept ws (set ws i v) l.cyclics l.cyclics (keeps_all l.cyclics) bank xs from
      (λ j _ _. let low = slot_low bank j most in other i v (slot_word bank j) (λ e. omega arith))
      (other i v (producer_word bank) (λ e. omega arith)) h

  -- Switch
  module _ (bank : ℕ) (empty : firer_hand_of rs ≡ None) (even : has_followed rs ≡ true) (more : hard_bank_of rs < bank)
      (most : bank ≤ greatest_bank) where
    abbrev ws' : List ℕ
    ws' = set ws hard_word bank

    equal : l.hard_bank ≡ l.soft_bank
    equal = N.still.followed_is even

    greater : l.hard_bank < bank
    greater = let e = N.shows.hard_is in omega (arith, e, more)

    split : bank ≢ l.soft_bank
    split e = let a = equal in let b = greater in omega (arith, a, b, e)

    was : BankHolds ws l.cyclics l.soft_bank C l.new_list
    was = subst (λ (x : ℕ × Bool). BankHolds ws l.cyclics x.0 (cond x.1 C k.start) l.new_list)
        (λ z. (equal z, eq-eqb l.hard_bank l.soft_bank equal z)) N.shows.new_held

    pub switch_enabled : Enabled (Switch bank) l
    switch_enabled = (N.shows.firer_is ∙ empty, equal, greater, most)

    pub switch_shown : TrailsShow k.start ws' (Switched bank ∷ rs) ds (after (Switch bank) l)
    switch_shown = let sh = N.shows in let wide = N.wide in let g = N.law.bank_bound in let b = N.law.soft_behind in let off =
        ne_eqb bank l.soft_bank split in record {
          hard_is = refl;
          soft_is = sh.soft_is;
          hard_shown = get_or-set_same ws hard_word bank 0 (omega arith);
          soft_shown = other hard_word bank soft_word (λ e. omega arith) ∙ sh.soft_shown;
          firer_is = sh.firer_is;
          drainer_is = sh.drainer_is;
          marked_is = sh.marked_is;
          stays = sh.stays;
          pends = λ j c e. let x = pend_low c.index (index_low k ws rs ds l N j c e) in
              other hard_word bank (pend_word c.index) (λ e. omega arith) ∙ sh.pends j c e;
          unused = λ j less no. let x = pend_low j less in other hard_word bank (pend_word j) (λ e. omega arith)
              ∙ sh.unused j less no;
          new_held = subst (λ x. get_or ws' (producer_word bank) 0 ≡ cond x C k.start % 2 ^ 32) (sym off)
              (other hard_word bank (producer_word bank) (λ e. omega arith) ∙ N.still.fresh bank greater most);
          old_held = λ _. holds_low hard_word bank l.soft_bank l.new_list C (omega (arith, g, b)) (omega arith) was;
          produced = subst (λ x. k.start ≡ cond x C k.start + 0) (sym off) (omega arith);
        }

    pub switch_still : StillHolds k.start ws' (Switched bank ∷ rs) ds (after (Switch bank) l)
    switch_still = let le = N.still in let gr = greater in let off = ne_eqb bank l.soft_bank split in record {
      seen_is_enough = le.seen_is_enough;
      hand_stored = tt;
      fresh = λ b up top. other hard_word bank (producer_word b) (λ e. omega arith) ∙ le.fresh b (omega (arith, gr, up)) top;
      held_is = le.held_is;
      followed_is = λ e. absurd (cc);
      bank_is = λ b saw ne. absurd (ne (le.bank_is b saw ne ∙ equal));
      some_left = λ end saw ne e. le.some_left end saw ne
          (ap (λ y. cond y l.new_list l.old_list) (eq-eqb l.hard_bank l.soft_bank equal)
          ∙ (sym (ap (λ y. cond y [] l.new_list) off) ∙ e));
      none_left = λ end b saw is look ne. absurd (ne (le.bank_is b look ne ∙ equal));
    }

  -- the firing side's look

  pub look_still : StillHolds k.start ws (LoadedSoftBank (get_or ws soft_word 0) ∷ rs) ds l
  look_still = let le = N.still in record {
    seen_is_enough = le.seen_is_enough;
    hand_stored = tt;
    fresh = le.fresh;
    held_is = le.held_is;
    followed_is = λ e. N.shows.hard_is ∙ (sym (eqb-true (get_or ws soft_word 0) (hard_bank_of rs) e) ∙ N.shows.soft_shown);
    bank_is = le.bank_is;
    some_left = le.some_left;
    none_left = le.none_left;
  }

  -- Follow
  module _ (bank end : ℕ) (saw : bank_seen ds ≡ Some bank) (apart : bank ≢ soft_bank_of ds)
      (ended_calls : producer_seen ds ≡ Some end) (none : end ≡ C % 2 ^ 32) where
    abbrev ws'' : List ℕ
    ws'' = set ws soft_word bank

    away : ¬ (bank ≡ l.soft_bank)
    away e = apart (e ∙ N.shows.soft_is)

    is_hard : bank ≡ l.hard_bank
    is_hard = N.still.bank_is bank saw away

    differ : ¬ (l.hard_bank ≡ l.soft_bank)
    differ e = away (is_hard ∙ e)

    pub follow_enabled : Enabled Follow l
    follow_enabled = (differ, N.still.none_left end bank ended_calls none saw away)

    pub follow_shown : TrailsShow k.start ws'' rs (Followed bank ∷ ds) (after Follow l)
    follow_shown = let sh = N.shows in let wide = N.wide in let off = ne_eqb l.hard_bank l.soft_bank differ in let on =
        eq-eqb l.hard_bank l.hard_bank refl in record {
          hard_is = sh.hard_is;
          soft_is = sym is_hard;
          hard_shown = other soft_word bank hard_word (λ e. omega arith) ∙ sh.hard_shown;
          soft_shown = get_or-set_same ws soft_word bank 0 (omega arith) ∙ is_hard;
          firer_is = sh.firer_is;
          drainer_is = sh.drainer_is;
          marked_is = sh.marked_is;
          stays = sh.stays;
          pends = λ j c e. let x = pend_low c.index (index_low k ws rs ds l N j c e) in
              other soft_word bank (pend_word c.index) (λ e. omega arith) ∙ sh.pends j c e;
          unused = λ j less no. let x = pend_low j less in other soft_word bank (pend_word j) (λ e. omega arith)
              ∙ sh.unused j less no;
          new_held = holds_low soft_word bank l.hard_bank l.new_list
              (cond (eqb l.hard_bank l.hard_bank) k.start k.start) N.law.bank_bound (omega arith)
              (subst (λ (x : ℕ). BankHolds ws l.cyclics l.hard_bank x l.new_list) (ap (λ b. cond b C k.start) off
              ∙ ap (λ b. cond b k.start k.start) (sym on)) sh.new_held);
          old_held = λ ne. absurd (ne refl);
          produced = sh.produced ∙ ap (λ (x : ℕ). x + length l.new_list) (ap (λ b. cond b C k.start) off
              ∙ ap (λ b. cond b k.start k.start) (sym on));
        }

    pub follow_still : StillHolds k.start ws'' rs (Followed bank ∷ ds) (after Follow l)
    follow_still = let le = N.still in record {
      seen_is_enough = le.seen_is_enough;
      hand_stored = stored_kept ws ws'' l.cyclics l.cyclics (keeps_all l.cyclics) l.hard_bank _ _ _
          (let low = slot_low l.hard_bank (producer_index k.start rs) N.law.bank_bound in
          other soft_word bank (slot_word l.hard_bank (producer_index k.start rs)) (λ e. omega arith)) le.hand_stored;
      fresh = λ b up top. other soft_word bank (producer_word b) (λ e. omega arith) ∙ le.fresh b up top;
      held_is = le.held_is;
      followed_is = λ _. refl;
      bank_is = λ b e. absurd (cc);
      some_left = λ e x. absurd (cc);
      none_left = λ e b x. absurd (cc);
    }

pub switch_law : SwitchLaw
switch_law k slots seat me bank role bare even more most =
    firing_step k slots seat me hard_word (λ _. bank) (λ _. TellsSwitch (step slots hard_word bank 0 none) me bank) role
    (λ s R _ at _. let t : List RaiseStep = (raise_side R.log) in let same : me.0.raise_trail ≡ t =
    (raises k s R seat me.0 at me.1 hard_word bank role).1.0 in let l : SoftLevel = level k s R in
    let N : RingNow k s.words t (drain_side R.log) l = ring_now k s R in
    let bare' : firer_hand_of t ≡ None = ap firer_hand_of (sym same) ∙ bare in let even' : has_followed t ≡ true =
    ap (has_followed) (sym same) ∙ even in let more' : hard_bank_of t < bank =
    subst (λ (t : List RaiseStep). hard_bank_of t < bank) same more in (
      (Switched bank),
      raise_goes k s R seat me.0 at me.1 hard_word bank role (Switched bank)
          ((switch_enabled k s.words t (drain_side R.log) l N bank bare' even' more' most), R.enabled)
          (switch_shown k s.words t (drain_side R.log) l N bank bare' even' more' most)
          (switch_still k s.words t (drain_side R.log) l N bank bare' even' more' most)
          refl tt refl,
      (length R.log, refl),
    ))

pub load_soft_bank_law : LoadSoftBankLaw
load_soft_bank_law k slots seat me role =
    firing_step k slots seat me soft_word (λ n. n) (TellsLoadSoftBank (step slots soft_word 0 0 none) me) role
    (λ s R _ at _. let t : List RaiseStep = (raise_side R.log) in let same : me.0.raise_trail ≡ t =
    (raises k s R seat me.0 at me.1 soft_word 0 role).1.0 in let l : SoftLevel = level k s R in
    let N : RingNow k s.words t (drain_side R.log) l = ring_now k s R in let n : ℕ = get_or s.words soft_word 0 in (
      (LoadedSoftBank n),
      raise_goes k s R seat me.0 at me.1 soft_word n role (LoadedSoftBank n) R.enabled
          (loaded (λ x. TrailsShow k.start x (LoadedSoftBank n ∷ t) (drain_side R.log) l) s.words soft_word N.shows)
          (loaded (λ x. StillHolds k.start x (LoadedSoftBank n ∷ t) (drain_side R.log) l) s.words soft_word
          (look_still k s.words t (drain_side R.log) l N))
          refl refl refl,
      (
        λ e. N.shows.soft_shown ∙ (sym (N.still.followed_is (ap (has_followed) (sym same) ∙ e))
            ∙ (N.shows.hard_is ∙ ap (hard_bank_of) (sym same))),
        (length R.log, refl),
      ),
    ))

pub follow_law : FollowLaw
follow_law k slots seat me bank end role saw apart ended_calls bare =
    soft_step k slots seat me soft_word (λ _. bank) (λ _. TellsFollow (step slots soft_word bank 0 none) me bank) role
    (λ s R _ at _. let t : List DrainStep = (drain_side R.log) in let same : me.0.drain_trail ≡ t =
    (drains k s R seat me.0 at me.1 soft_word bank role).1.0 in let l : SoftLevel = level k s R in
    let N : RingNow k s.words (raise_side R.log) t l = ring_now k s R in
    let saw' : bank_seen t ≡ Some bank = ap bank_seen (sym same) ∙ saw in let apart' : bank ≢ soft_bank_of t =
    λ e. apart (e ∙ ap (soft_bank_of) (sym same)) in let ended' : producer_seen t ≡ Some end = ap producer_seen (sym same)
    ∙ ended_calls in
    let bare' : end ≡ consumer_index k.start t % 2 ^ 32 = bare
    ∙ ap (λ (t : List DrainStep). consumer_index k.start t % 2 ^ 32) same in (
      (Followed bank),
      drain_goes k s R seat me.0 at me.1 soft_word bank role (Followed bank)
          ((follow_enabled k s.words (raise_side R.log) t l N bank end saw' apart' ended' bare'), R.enabled)
          (follow_shown k s.words (raise_side R.log) t l N bank end saw' apart' ended' bare')
          (follow_still k s.words (raise_side R.log) t l N bank end saw' apart' ended' bare')
          refl tt refl,
      (length R.log, refl),
    ))
