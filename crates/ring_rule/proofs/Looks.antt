-- The soft side's loads of the hard bank and of a producer word are no events.
use Rattle.std.proofs.Common.{◌≡◌, ℕ, ◌%◌, ◌^◌, ◌≤◌, ◌≢◌, List, [], ◌∷◌, length, get_or, sym, refl, ap, ◌∙◌, subst, arith}
use Rattle.std.proofs.Common.{pow_mono}
use mathlib.Core.Option.{none}
use Rattle.atomic_table.specs.Table.{step}
use Rattle.cyc_level.specs.Level.{SoftLevel, soft_list}
use Rattle.cyc_level.proofs.Maps.{some_same}
use Rattle.cyc_level.proofs.Room.{roomy}
use Rattle.ring_rule.specs.SoftSteps.{LoadProducerLaw, LoadHardBankLaw}
use Rattle.cyc_types.specs.Limits.{greatest_bank, cyclics}
use Rattle.ring_rule.specs.declared.RaiseStep.{RaiseStep}
use Rattle.ring_rule.specs.declared.DrainStep.{DrainStep}
use Rattle.ring_rule.specs.declared.DrainStep.TheVariants.{LoadedHardBank, LoadedProducer}
use Rattle.ring_rule.specs.declared.Setting.{Setting}
use Rattle.ring_rule.specs.Words.{producer_word, hard_word}
use Rattle.ring_rule.specs.Trail.{soft_bank_of, consumer_index}
use Rattle.ring_rule.specs.Log.{raise_side, drain_side}
use Rattle.ring_rule.specs.Shown.{BankHolds, TrailsShow, StillHolds}
use Rattle.ring_rule.specs.Steps.{TellsLoadHardBank, TellsLoadProducer}
use Rattle.ring_rule.proofs.Words.{holds_end}
use Rattle.ring_rule.proofs.Seats.{level, drains, drain_goes}
use Rattle.ring_rule.proofs.Now.{RingNow, ring_now, loaded, softs_held}
use Rattle.ring_rule.proofs.Stands.{soft_step}

empty_of : (xs : List ℕ) → length xs ≡ 0 → xs ≡ []
empty_of [] e = refl
empty_of (x ∷ xs) e = absurd (omega (arith, e))

module _ (k : Setting) (ws : List ℕ) (rs : List RaiseStep) (ds : List DrainStep) (l : SoftLevel) (N : RingNow k ws rs ds l) where
  abbrev C : ℕ
  C = consumer_index k.start ds

  some_in : (xs : List ℕ) → BankHolds ws l.cyclics l.soft_bank C xs → ¬ (get_or ws (producer_word l.soft_bank) 0 ≡ C % 2 ^ 32)
      → xs ≢ []
  some_in [] h ne e = ne h
  some_in (x ∷ xs) h ne e = absurd (cc)

  none_in : ¬ (l.hard_bank ≡ l.soft_bank) → get_or ws (producer_word l.soft_bank) 0 ≡ C % 2 ^ 32 → l.old_list ≡ []
  none_in apart e = let h = holds_end ws l.cyclics l.soft_bank l.old_list C (N.shows.old_held apart) in let b =
      N.law.soft_behind in let g = N.law.bank_bound in
      let r = roomy l N.law (2 ^ l.soft_bank) l.old_list (λ id. omega arith) (λ id c x t. N.law.in_soft_bank id c x t) in
      let p : 2 ^ l.soft_bank ≤ 2 ^ greatest_bank = pow_mono {i = l.soft_bank} {j = greatest_bank} (omega (arith, b, g)) in
      let q : 2 ^ greatest_bank ≡ cyclics = refl in empty_of l.old_list (omega (arith, h, e, r, p, q))

  pub ends_still : StillHolds k.start ws rs (LoadedProducer (get_or ws (producer_word l.soft_bank) 0) ∷ ds) l
  ends_still = let le = N.still in record {
    seen_is_enough = le.seen_is_enough;
    hand_stored = le.hand_stored;
    fresh = le.fresh;
    held_is = le.held_is;
    followed_is = le.followed_is;
    bank_is = le.bank_is;
    some_left = λ end e ne. some_in (soft_list l) (softs_held k ws rs ds l N) (λ x. ne (sym (some_same _ end e) ∙ x));
    none_left = λ end bank e is saw ne. none_in (λ x. ne (le.bank_is bank saw ne ∙ x)) (some_same _ end e ∙ is);
  }

  pub banks_still : StillHolds k.start ws rs (LoadedHardBank (get_or ws hard_word 0) ∷ ds) l
  banks_still = let le = N.still in record {
    seen_is_enough = le.seen_is_enough;
    hand_stored = le.hand_stored;
    fresh = le.fresh;
    held_is = le.held_is;
    followed_is = le.followed_is;
    bank_is = λ bank e ne. sym (some_same _ bank e) ∙ N.shows.hard_shown;
    some_left = λ end e. absurd (cc);
    none_left = λ end bank e. absurd (cc);
  }

pub load_producer_law : LoadProducerLaw
load_producer_law k slots seat me role i at_i =
    soft_step k slots seat me i (λ n. n) (TellsLoadProducer (step slots i 0 0 none) me) role
    (λ s R _ at _. let t : List DrainStep = (drain_side R.log) in let same : me.0.drain_trail ≡ t =
    (drains k s R seat me.0 at me.1 i 0 role).1.0 in let l : SoftLevel = level k s R in
    let N : RingNow k s.words (raise_side R.log) t l = ring_now k s R in
    let here : producer_word l.soft_bank ≡ i = ap producer_word N.shows.soft_is
    ∙ (ap (λ (t : List DrainStep). producer_word (soft_bank_of t)) (sym same) ∙ sym at_i) in let n : ℕ = get_or s.words i 0 in (
      (LoadedProducer n),
      drain_goes k s R seat me.0 at me.1 i n role (LoadedProducer n) R.enabled
          (loaded (λ x. TrailsShow k.start x (raise_side R.log) (LoadedProducer n ∷ t) l) s.words i N.shows)
          (loaded (λ x. StillHolds k.start x (raise_side R.log) (LoadedProducer n ∷ t) l) s.words i
          (subst (λ (j : ℕ). StillHolds k.start s.words (raise_side R.log) (LoadedProducer (get_or s.words j 0) ∷ t) l) here
          (ends_still k s.words (raise_side R.log) t l N)))
          (at_i ∙ ap (λ (t : List DrainStep). producer_word (soft_bank_of t)) same) refl refl,
      (length R.log, refl),
    ))

pub load_hard_bank_law : LoadHardBankLaw
load_hard_bank_law k slots seat me role =
    soft_step k slots seat me hard_word (λ n. n) (TellsLoadHardBank (step slots hard_word 0 0 none) me) role
    (λ s R _ at _. let t : List DrainStep = (drain_side R.log) in let same : me.0.drain_trail ≡ t =
    (drains k s R seat me.0 at me.1 hard_word 0 role).1.0 in let l : SoftLevel = level k s R in
    let N : RingNow k s.words (raise_side R.log) t l = ring_now k s R in let n : ℕ = get_or s.words hard_word 0 in (
      (LoadedHardBank n),
      drain_goes k s R seat me.0 at me.1 hard_word n role (LoadedHardBank n) R.enabled
          (loaded (λ x. TrailsShow k.start x (raise_side R.log) (LoadedHardBank n ∷ t) l) s.words hard_word N.shows)
          (loaded (λ x. StillHolds k.start x (raise_side R.log) (LoadedHardBank n ∷ t) l) s.words hard_word
          (banks_still k s.words (raise_side R.log) t l N))
          refl refl refl,
      (
        (let x = N.shows.hard_shown in let y = N.shows.soft_is in let b = N.law.soft_behind in
            let z : soft_bank_of me.0.drain_trail ≡ soft_bank_of t = ap (soft_bank_of) same in omega (arith, x, y, b, z)),
        (let x = N.shows.hard_shown in let b = N.law.bank_bound in omega (arith, x, b)),
        (length R.log, refl),
      ),
    ))
