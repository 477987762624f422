-- What the rule says of each id's books.
use Rattle.std.proofs.Common.{◌≡◌, ℕ, ◌+◌, ◌*◌, ◌^◌, ◌≤◌, List, get_or, sym, refl, ap, ◌∙◌, subst, arith}
use Rattle.std.specs.Prelude.{Option, Some, None}
use Rattle.cyc_level.specs.declared.Event.{Event}
use Rattle.cyc_level.specs.Level.{AdmittedCyclic, SoftLevel, count, count_in, in_hand}
use Rattle.cyc_level.specs.Events.{AllEnabled}
use Rattle.cyc_level.specs.Runs.{
  firing_events,
  StayCounts,
  past_calls,
  past_stays,
  past_finishes,
  expirations_of_id,
  losses,
  finishes,
}
use Rattle.cyc_level.specs.Runs.{AreFinished}
use Rattle.cyc_level.proofs.Stays.{IsSplit, split_finishes, over_stays, expirations_firing, losses_firing, past_calls_firing}
use Rattle.cyc_level.proofs.Stays.{past_stays_firing}
use Rattle.ring_rule.specs.declared.RaiseStep.{RaiseStep}
use Rattle.ring_rule.specs.declared.DrainStep.{DrainStep}
use Rattle.ring_rule.specs.declared.Setting.{Setting}
use Rattle.ring_rule.specs.Words.{pend_word}
use Rattle.ring_rule.specs.Trail.{open_stay, ended_stays, ended_calls, seen_pend, made_calls, raise_events}
use Rattle.ring_rule.specs.Shown.{IsSameStay}
use Rattle.ring_rule.specs.Log.{RingStep, raise_side, drain_side, events_of, level_after_steps, replay}
use Rattle.ring_rule.specs.Conservation.{IsBooked, IsPending, IsAccounted}
use Rattle.ring_rule.proofs.Stays.{behind, held_once}
use Rattle.ring_rule.proofs.Now.{RingNow}
use Rattle.ring_rule.proofs.Log.{firing_side}

module _ (k : Setting) (ws : List ℕ) (rs : List RaiseStep) (ds : List DrainStep) (l : SoftLevel) (N : RingNow k ws rs ds l) where
  pub booked : IsBooked ws rs ds
  booked id st is = let b = behind (made_calls id ds) (ended_calls id rs) (open_stay id rs) (l.cyclics id) st is
      (N.shows.stays id) in let c : AdmittedCyclic = b.0 in
      let p : get_or ws (pend_word st.index) 0 ≡ c.count + 2 ^ 32 * in_hand id l.marked =
      ap (λ (a : ℕ). get_or ws (pend_word a) 0) b.2 ∙ N.shows.pends id c b.1 in
      let low = N.law.below_ceiling id c b.1 in let t = N.ceiling_is in let m = held_once id l.marked in let sums =
      N.law.conserved id c b.1 in let s = b.3 in let x = b.4 in let small = N.small in
      (c.done, omega (arith, p, low, t, m, sums, s, x, small), b.5)

-- the finishes that the soft side's trail has are those of the run
same_made : (made past past' finished : ℕ) (o : Option StayCounts) (p : Option AdmittedCyclic) → past ≡ past'
    → IsSameStay made past o p
    → IsSplit finished past' p → made ≡ finished
same_made made past past' finished None None e h f = omega (arith, e, h, f)
same_made made past past' finished None (Some c) e h f = absurd h
same_made made past past' finished (Some s) None e h f = absurd h
same_made made past past' finished (Some s) (Some c) e h f = let x = h.3 in omega (arith, e, x, f)

-- no call is pending of an id that isn't admitted
pending : (made past seen : ℕ) (o : Option StayCounts) (p : Option AdmittedCyclic) → IsSameStay made past o p → count_in p ≤ seen
    → IsPending (count_in p) seen o
pending made past seen None None h low = refl
pending made past seen None (Some c) h low = absurd h
pending made past seen (Some s) None h low = absurd h
pending made past seen (Some s) (Some c) h low = low

module _ (k : Setting) (log : List RingStep) (on : AllEnabled k.ceiling (events_of log))
    (N : RingNow k (replay k.start log) (raise_side log) (drain_side log) (level_after_steps k.ceiling log)) where
  abbrev rs : List RaiseStep
  rs = raise_side log

  abbrev ds : List DrainStep
  ds = drain_side log

  abbrev es : List Event
  es = events_of log

  -- what the firing side's trail says, the run says
  same_of_run : {A : Type 0} (f : List Event → A) → ((es : List Event) → f (firing_events es) ≡ f es) → f (raise_events rs) ≡ f es
  same_of_run f same = ap f (sym (firing_side log)) ∙ same es

  pub accounted : IsAccounted rs ds
  accounted id = let l : SoftLevel = level_after_steps k.ceiling log in let t = (over_stays k.ceiling id es on).total in
      let a = same_of_run (expirations_of_id id) (expirations_firing id) in let b = same_of_run (losses id) (losses_firing id) in
      let c = same_of_run (past_calls id) (past_calls_firing id) in
      let m = same_made (made_calls id ds) (ended_calls id rs) (past_calls id es) (finishes k.ceiling id es) (open_stay id rs)
      (l.cyclics id) c (N.shows.stays id) (split_finishes k.ceiling id es on) in (
        count l id,
        pending (made_calls id ds) (ended_calls id rs) (seen_pend id rs) (open_stay id rs) (l.cyclics id)
            (N.shows.stays id) (N.still.seen_is_enough id),
        omega (arith, t, a, b, m),
      )

  pub finished_stays : (id : ℕ) → AreFinished (ended_stays id rs) (past_finishes k.ceiling id es)
  finished_stays id = subst (λ xs. AreFinished xs (past_finishes k.ceiling id es))
      (sym (same_of_run (past_stays id) (past_stays_firing id))) (over_stays k.ceiling id es on).ended
