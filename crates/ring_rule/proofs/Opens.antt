-- A ring that is opened keeps the rule.
use Rattle.std.proofs.Common.{◌≡◌, ℕ, zero, suc, ◌%◌, ◌^◌, ◌<◌, ◌≤◌, ltb, cond, List, [], ◌∷◌, length, get_or, sym, refl, ap, ◌∙◌}
use Rattle.std.proofs.Common.{subst, arith, mod-eq_of_lt, lt-ltb, le-ltb}
use Rattle.std.proofs.lemmas.List.{ext_get_or}
use Rattle.std.proofs.lemmas.List.FromFn.{get_or-map-range_with_len}
use mathlib.Core.Option.{some, some-injective, some-ne-none}
use lib.ListN.{get_elem?}
use Rattle.atomic_table.specs.Table.{opening}
use Rattle.cyc_level.specs.Level.{empty_level}
use Rattle.ring_rule.specs.declared.SeatView.{SeatView}
use Rattle.ring_rule.specs.declared.Setting.{Setting}
use Rattle.ring_rule.specs.Words.{pend_word, first_word, producer_word, hard_word, soft_word, word_count}
use Rattle.ring_rule.specs.Log.{replay}
use Rattle.ring_rule.specs.Shown.{TrailsShow, StillHolds}
use Rattle.ring_rule.specs.Rule.{opening_view, IsSeat, MeetsRule}
use Rattle.ring_rule.proofs.Words.{pend_low}
use Rattle.ring_rule.proofs.Seats.{as_wide}

module _ (k : Setting) (ws : List ℕ) (long : length ws ≡ word_count) (all : (j : ℕ) → j < word_count
    → get_or ws j 0 ≡ first_word k.start j) (small : k.start < 2 ^ 32) (ceiling_fits : k.ceiling < 2 ^ 32) where
  low : (j : ℕ) → j < producer_word 0 → get_or ws j 0 ≡ 0
  low j h = all j (omega arith) ∙ ap (λ b. cond b 0 (cond (ltb j hard_word) k.start 0)) (lt-ltb j (producer_word 0) h)

  ends : (j : ℕ) → producer_word 0 ≤ j → j < hard_word → get_or ws j 0 ≡ k.start % 2 ^ 32
  ends j from to = all j (omega arith) ∙ (ap (λ b. cond b 0 (cond (ltb j hard_word) k.start 0)) (le-ltb j (producer_word 0) from)
      ∙ (ap (λ b. cond b k.start 0) (lt-ltb j hard_word to) ∙ sym (mod-eq_of_lt small)))

  opened_shown : TrailsShow k.start ws [] [] (empty_level k.ceiling)
  opened_shown = record {
    hard_is = refl;
    soft_is = refl;
    hard_shown = all hard_word (omega arith);
    soft_shown = all soft_word (omega arith);
    firer_is = refl;
    drainer_is = refl;
    marked_is = refl;
    stays = λ j. refl;
    pends = λ j c e. absurd (cc);
    unused = λ j h _. low (pend_word j) (let p = pend_low j h in omega (arith, p));
    new_held = ends (producer_word 0) (omega arith) (omega arith);
    old_held = λ ne. absurd (ne refl);
    produced = omega arith;
  }

  opened_still : StillHolds k.start ws [] [] (empty_level k.ceiling)
  opened_still = record {
    seen_is_enough = λ j. omega arith;
    hand_stored = tt;
    fresh = λ bank more most. ends (producer_word bank) (omega arith) (omega arith);
    held_is = λ e h. absurd (cc);
    followed_is = λ _. refl;
    bank_is = λ bank e. absurd (cc);
    some_left = λ end e. absurd (cc);
    none_left = λ end bank e. absurd (cc);
  }

  -- the words are the first ones
  words_are : ws ≡ replay k.start []
  words_are = ext_get_or 0 ws (replay k.start []) (long ∙ sym (as_wide k.start []))
      (λ j less. let low : j < word_count = omega (arith, less, long) in all j low
      ∙ sym (get_or-map-range_with_len (first_word k.start) 0 word_count j j 0 low (omega arith)))

  known : (j : ℕ) (v : SeatView) → get_elem? (opening_view ∷ []) j ≡ some v → IsSeat [] 0 0 j v v.role
  known zero v e = subst (λ (v : SeatView). IsSeat [] 0 0 0 v v.role) (some-injective opening_view v e)
      (refl, refl, (refl, refl), (refl, refl))
  known (suc j) v e = absurd (some-ne-none v (sym e))

  pub opens : MeetsRule k (opening ws [] opening_view)
  opens = record {
    log = [];
    raise_seat = 0;
    drain_seat = 0;
    fits = (ceiling_fits, small);
    words = words_are;
    all_true = tt;
    firing_side = (opening_view, refl, tt);
    soft_side = (opening_view, refl, tt);
    seats = known;
    enabled = tt;
    shown = (
      subst (λ (w : List ℕ). TrailsShow k.start w [] [] (empty_level k.ceiling)) words_are opened_shown,
      subst (λ (w : List ℕ). StillHolds k.start w [] [] (empty_level k.ceiling)) words_are opened_still,
    );
  }
