-- All that is known of a ring at one moment.
use Rattle.std.proofs.Common.{◌≡◌, ℕ, ◌^◌, ◌<◌, ◌≤◌, eqb, Bool, true, cond, List, [], ◌∷◌, length, get_or, set, sym, refl, subst}
use Rattle.std.proofs.Common.{pow_mono, arith, eq-eqb, ne_eqb}
use lib.Seq.{set-get_or}
use mathlib.Core.Logic.{dite}
use native.Mathlib.Decide.{ℕ_discrete}
use Rattle.std.specs.Prelude.{Some}
use Rattle.cyc_level.specs.Level.{AdmittedCyclic, SoftLevel, soft_list}
use Rattle.cyc_level.specs.Lawful.{Lawful}
use Rattle.cyc_level.specs.Events.{AllEnabled}
use Rattle.cyc_level.proofs.Keeps.{always_lawful, same_ceiling}
use Rattle.cyc_level.specs.Limits.{greatest_bank, cyclics}
use Rattle.ring_rule.specs.Words.{pend_word, word_count}
use Rattle.ring_rule.specs.declared.RaiseStep.{RaiseStep}
use Rattle.ring_rule.specs.declared.DrainStep.{DrainStep}
use Rattle.ring_rule.specs.declared.Setting.{Setting}
use Rattle.ring_rule.specs.Trail.{consumer_index}
use Rattle.ring_rule.specs.Shown.{BankHolds, TrailsShow, StillHolds}
use Rattle.ring_rule.specs.Log.{RingStep, raise_side, drain_side, events_of, level_after_steps, replay}
use Rattle.ring_rule.specs.Rule.{RingState, IsShown, AllShown, MeetsRule}
use Rattle.ring_rule.proofs.Words.{pend_distinct}
use Rattle.ring_rule.proofs.Seats.{level, as_wide}

pub record RingNow (k : Setting) (ws : List ℕ) (rs : List RaiseStep) (ds : List DrainStep) (l : SoftLevel) : Type 0 where
  pub small : k.ceiling < 2 ^ 32
  pub wide : length ws ≡ word_count
  pub law : Lawful l
  pub ceiling_is : l.ceiling ≡ k.ceiling
  pub shows : TrailsShow k.start ws rs ds l
  pub still : StillHolds k.start ws rs ds l

pub shown_now : (k : Setting) (log : List RingStep) → AllShown k log → IsShown k log
shown_now k [] h = h
shown_now k (x ∷ log) h = h.0

-- the same after a log of which no state is at hand
pub log_now : (k : Setting) (log : List RingStep) → k.ceiling < 2 ^ 32 → AllEnabled k.ceiling (events_of log) → AllShown k log
    → RingNow k (replay k.start log) (raise_side log) (drain_side log) (level_after_steps k.ceiling log)
log_now k log small on shown = let now = shown_now k log shown in record {
  small = small;
  wide = as_wide k.start log;
  law = always_lawful k.ceiling (events_of log) on;
  ceiling_is = same_ceiling k.ceiling (events_of log);
  shows = now.0;
  still = now.1;
}

pub ring_now : (k : Setting) (s : RingState) (R : MeetsRule k s)
    → RingNow k s.words (raise_side R.log) (drain_side R.log) (level k s R)
ring_now k s R = subst (λ (ws : List ℕ). RingNow k ws (raise_side R.log) (drain_side R.log) (level k s R)) (sym R.words)
    (log_now k R.log R.fits.0 R.enabled R.shown)

-- a load leaves the words
pub loaded : (P : List ℕ → Type 0) (ws : List ℕ) (i : ℕ) → P ws → P (set ws i (get_or ws i 0))
loaded P ws i h = subst P (sym (set-get_or ws i 0)) h

module _ (l : SoftLevel) (law : Lawful l) where
  pub admitted_low : (id : ℕ) (c : AdmittedCyclic) → l.cyclics id ≡ Some c → c.index < cyclics
  admitted_low id c e = let a = law.in_hard_bank id c e in let b = law.bank_bound in let p : 2 ^ l.hard_bank ≤ 2 ^ greatest_bank =
      pow_mono {i = l.hard_bank} {j = greatest_bank} b in let q : 2 ^ greatest_bank ≡ cyclics = refl in omega (arith, a, p, q)

  -- two admitted cyclics have two pend words
  pub same_pend : (i j : ℕ) (c d : AdmittedCyclic) → l.cyclics i ≡ Some c → l.cyclics j ≡ Some d
      → pend_word c.index ≡ pend_word d.index
      → i ≡ j
  same_pend i j c d e f same = law.distinct_indexes i j c d e f
      (pend_distinct c.index d.index (admitted_low i c e) (admitted_low j d f) same)

-- the soft side's list stands in its bank from the consumer index on
pub softs_shown : (start : ℕ) (ws : List ℕ) (rs : List RaiseStep) (ds : List DrainStep) (l : SoftLevel)
    → TrailsShow start ws rs ds l
    → BankHolds ws l.cyclics l.soft_bank (consumer_index start ds) (soft_list l)
softs_shown start ws rs ds l sh = dite (ℕ_discrete l.hard_bank l.soft_bank)
    (λ e. let b : eqb l.hard_bank l.soft_bank ≡ true = eq-eqb l.hard_bank l.soft_bank e in
    subst (λ (x : ℕ × Bool). BankHolds ws l.cyclics x.0 (consumer_index start ds) (cond x.1 l.new_list l.old_list))
    (λ z. (e z, sym b z))
    (subst (λ x. BankHolds ws l.cyclics l.hard_bank (cond x (consumer_index start ds) start) l.new_list) b sh.new_held))
    (λ ne. subst (λ x. BankHolds ws l.cyclics l.soft_bank (consumer_index start ds) (cond x l.new_list l.old_list))
    (sym (ne_eqb l.hard_bank l.soft_bank ne)) (sh.old_held ne))

module _ (k : Setting) (ws : List ℕ) (rs : List RaiseStep) (ds : List DrainStep) (l : SoftLevel) (N : RingNow k ws rs ds l) where
  pub index_low : (id : ℕ) (c : AdmittedCyclic) → l.cyclics id ≡ Some c → c.index < cyclics
  index_low = admitted_low l N.law

  pub softs_held : BankHolds ws l.cyclics l.soft_bank (consumer_index k.start ds) (soft_list l)
  softs_held = softs_shown k.start ws rs ds l N.shows
