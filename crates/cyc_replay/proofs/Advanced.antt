-- An advance of the machine, from the setting of its clock to the fire of the last CPU.
use Rattle.std.proofs.Common.{◌≡◌, ℕ, ◌<◌, ◌≤◌, refl, ap, sym, ◌∙◌, List, [], length, None, Some, subst, true, false, arith}
use Rattle.std.specs.Prelude.{nat_le}
use Rattle.std.proofs.lemmas.Bool.Decides.{nat_tests}
use Rattle.cyc_types.specs.Series.{never}
use Rattle.cyc_types.specs.Tally.{TallyView, tally_count}
use Rattle.cyc_types.specs.declared.refusal.Refusal.TheVariants.{BadNow, Suspended}
use Rattle.cyc_core.specs.Tables.{Tables}
use Rattle.cyc_script.specs.Limits.{most_steps}
use Rattle.cyc_script.specs.declared.step.Step.TheVariants.{Advance}
use Rattle.cyc_system.specs.System.{RunningSystem, running_system}
use Rattle.cyc_model.specs.State.{State, Outcome, cpus_online}
use Rattle.cyc_types.specs.Reasons.{when, or_else, bad_now}
use Rattle.cyc_model.specs.Advance.{advance, advance_refusal}
use Rattle.cyc_system_model.specs.SystemAdvancing.{at_clock, fired_and_lost, HasFired, IsAdvanced}
use Rattle.cyc_replay.specs.declared.machine.Machine.{Machine}
use Rattle.cyc_replay.specs.Machine.{ShowsMachine, IsReached, IsWide}
use Rattle.cyc_replay.specs.Words.{Comes, TakesWord}
use Rattle.cyc_replay.proofs.Doing.{called_done, word_done}
use Rattle.cyc_model.proofs.Still.{still_fires}
use Rattle.cyc_replay.proofs.Named.{reached_good}
use Rattle.cyc_replay.proofs.Remembering.{remembers_on, remembers_does}
use Rattle.cyc_replay.specs.Advancing.{IsAdvancing}
use Rattle.cyc_system_model.specs.Room.{HaveRoomFor}

below_never : (now : ℕ) → now < never → nat_le never now ≡ false
below_never now low = grind (arith, nat_tests)

in_time : (now : ℕ) (s : State) → now < never → s.suspended ≡ false → advance_refusal now s ≡ None
in_time now s low awake = ap (λ b. or_else (when b Suspended) (or_else (bad_now now) None)) awake
    ∙ ap (λ b. or_else (when b BadNow) None) (below_never now low)

pub stands_still : (now : ℕ) (s : State) → s.suspended ≡ true → advance_refusal now s ≡ Some Suspended
stands_still now s on = ap (λ b. or_else (when b Suspended) (or_else (bad_now now) None)) on

-- the clock is set
pub holds_at : (now : ℕ) (s : State) (m : Machine) → ShowsMachine s m → ShowsMachine (at_clock now s) (record m { clock = now })
holds_at now s m h = record {
  system = h.system;
  shows = (let w = h.shows in
      record { cpus = w.cpus; placed = w.placed; ended = w.ended; fresh = w.fresh; last = w.last });
  clock = refl;
  suspended = h.suspended;
  called = h.called;
  names = h.names;
  remembers = remembers_on s (at_clock now s) m (record m { clock = now }) h.remembers
      (record { names = refl; named = refl }) (let same : s.last_id ≤ s.last_id = omega arith in same)
      (λ id low gone. gone) (λ id low gone. gone) (λ id low gone. refl);
  tally = h.tally;
  most = h.most;
  room = h.room;
}

pub begins : (step now : ℕ) (s : State) (m : Machine) → step ≤ most_steps → IsReached step s → ShowsMachine s m → now < never
    → s.suspended ≡ false
    → HasFired tally_count 0 (fired_and_lost 0 0) (at_clock now s) (running_system m.tally m.system)
    (running_system m.tally m.system)
    → IsAdvancing step 0 (fired_and_lost 0 0) s (running_system m.tally m.system) (record m { clock = now })
begins step now s m few r h before awake fired = record {
  reached = r;
  few = few;
  before = before;
  awake = awake;
  suspended = h.suspended;
  fired = fired;
  called = h.called;
  system = h.system;
  names = h.names;
  remembers = remembers_on s s m (record m { clock = now }) h.remembers (record { names = refl; named = refl })
      (omega arith)
      (λ id low gone. gone) (λ id low gone. gone) (λ id low gone. refl);
  tally = h.tally;
  most = h.most;
  room = h.room;
}

-- the clock is the one that was set
pub fired_at : (step n expired lost now : ℕ) (s : State) (first : RunningSystem TallyView Tables) (t : Machine)
    → IsAdvancing step n (fired_and_lost expired lost) s first t → t.clock ≡ now
    → HasFired tally_count n (fired_and_lost expired lost) (at_clock now s) first (running_system t.tally t.system)
fired_at step n expired lost now s first t a clock =
    subst (λ k. HasFired tally_count n (fired_and_lost expired lost) (at_clock k s) first (running_system t.tally t.system))
    clock a.fired

-- after the last fire
pub advanced : (step k n expired lost now : ℕ) (s : State) (first : RunningSystem TallyView Tables) (t : Machine)
    → IsAdvancing step n (fired_and_lost expired lost) s first t → t.clock ≡ now → now < never
    → IsAdvanced tally_count now (fired_and_lost expired lost) s first (running_system t.tally t.system)
    → Comes [] s (advance k now s) t
advanced step k n expired lost now s first t a clock before d =
    let still = still_fires now (cpus_online s) (record s { clock = now }) in
    let o = d.comes k in
    record {
      holds = record {
        system = a.system;
        shows = o.shows;
        clock = still.clock ∙ sym clock;
        suspended = still.suspended ∙ a.suspended;
        called = λ id.
            let now_called = d.called k id in let was = a.called id in
            let told = called_done [] (λ j. j) k (Advance now) s id (in_time now s before a.awake) in
            omega (arith, now_called, was, told);
        names = still.names ∙ a.names;
        remembers = remembers_does [] (λ j. j) k (Advance now) s t t tt (reached_good step s a.reached)
            (in_time now s before a.awake) a.remembers
            (record { names = refl; named = refl }) (let last = still.last in omega (arith, last));
        tally = subst (λ j. IsWide j t.tally) (sym (ap length still.names)) a.tally;
        most = a.most;
        room = subst (λ j. HaveRoomFor j t.system.cpus) (sym (ap length still.names)) a.room;
      };
      admissions = o.admissions;
      free = o.free;
    }

-- the word, and where it is refused
pub advance_taken : (texts : List (List ℕ)) (step now : ℕ) (line : List ℕ) (s : State) (t : Machine) → now < never
    → s.suspended ≡ false
    → line ≡ (advance step now s).line → Comes [] s (advance step now s) t → TakesWord texts step (Advance now) line s t
advance_taken texts step now line s t before awake same comes = record {
  given = [];
  line_is = λ indexes gives. same ∙ ap (λ (o : Outcome). o.line)
      (sym (word_done texts indexes step (Advance now) s (in_time now s before awake)));
  comes = λ indexes gives. subst (λ o. Comes [] s o t)
      (sym (word_done texts indexes step (Advance now) s (in_time now s before awake))) comes;
}
