-- A juggle and an offline as words.
use Rattle.std.proofs.Common.{◌≡◌, ◌≢◌, ℕ, List, refl, ap, sym, ◌∙◌, arith}
use Rattle.std.specs.Prelude.{Result, Ok, Err}
use Rattle.cyc_types.specs.declared.refusal.JuggleReport.{JuggleReport}
use Rattle.cyc_types.specs.declared.refusal.Refusal.{Refusal}
use Rattle.cyc_types.specs.declared.refusal.Refusal.TheVariants.{Left, Pending, Memory}
use Rattle.cyc_types.specs.Refusals.{number_of}
use Rattle.cyc_text.specs.Lines.{accepted, refused, moved, cyclics_left}
use Rattle.cyc_script.specs.declared.step.Step.TheVariants as steps
use Rattle.cyc_model.specs.Questions.{plain}
use Rattle.cyc_model.specs.State.{State}
use Rattle.cyc_model.specs.Script.{refusal_of}
use Rattle.cyc_model.proofs.Still.{still_juggle, still_offline}
use Rattle.cyc_system_model.specs.SystemWords.{IsDoneWith, IsRefusedFor, IsAtOnce}
use Rattle.cyc_replay.specs.declared.machine.Machine.{Machine}
use Rattle.cyc_replay.specs.Machine.{ShowsMachine, IsReached, numbers_of}
use Rattle.cyc_replay.specs.Words.{TakesWord}
use Rattle.cyc_replay.proofs.Doing.{AcceptsWith}
use Rattle.cyc_replay.proofs.Remembering.{SameNames}
use Rattle.cyc_replay.proofs.Doing.{Keeps, Leaves, refuses, lasts_with}
use Rattle.cyc_replay.proofs.Taking.{truly_refused, refused_takes, takes_with}
use Rattle.cyc_system_model.specs.Answers.{IsRefused}
use Rattle.cyc_words.specs.declared.answer.WordAnswer.TheVariants.{Juggled}
use Rattle.cyc_words.specs.Words.{word_answer, done}
use Rattle.cyc_replay.specs.WordLines.{word_line}
pub use Rattle.cyc_model.proofs.Known.{same_each}

-- the cyclics of the CPU had their turns, with this report; or both refuse, for one reason
abbrev pub Juggles : ℕ → Result JuggleReport Refusal → State → Machine → Type 0
Juggles n (Ok report) s m = AcceptsWith (λ step. moved step report) (steps.Juggle n) s m
Juggles n (Err e) s m = IsRefused e (refusal_of plain (steps.Juggle n) s) × ShowsMachine s m

-- the CPU takes no further part; or what moved stays moved, where cyclics are left, or calls of a component are outstanding; or
-- both refuse, for one reason
abbrev pub GoesOffline : ℕ → Result (Unit {0}) Refusal → State → Machine → Type 0
GoesOffline n (Ok done) s m = AcceptsWith accepted (steps.Offline n) s m
GoesOffline n (Err (Left report)) s m = AcceptsWith (λ step. cyclics_left step report) (steps.Offline n) s m
GoesOffline n (Err Pending) s m = AcceptsWith (λ step. refused step (number_of Pending)) (steps.Offline n) s m
GoesOffline n (Err e) s m = IsRefused e (refusal_of plain (steps.Offline n) s) × ShowsMachine s m

module _ (step n : ℕ) (s : State) (m w : Machine) (r : IsReached step s) (h : ShowsMachine s m)
    (kept : Keeps s w.system) (clock : w.clock ≡ m.clock) (tally : w.tally ≡ m.tally) (same : SameNames m w) where
  juggle_leaves : Leaves (steps.Juggle n) s w
  juggle_leaves = record {
    clock = λ texts indexes k. (still_juggle indexes k n s).clock;
    suspended = λ texts indexes k. (still_juggle indexes k n s).suspended;
    names = λ texts indexes k. (still_juggle indexes k n s).names ∙ h.names ∙ sym (ap numbers_of same.names);
    last = λ texts indexes k. let as_it_was = (still_juggle indexes k n s).last in omega (arith, as_it_was);
  }

  offline_leaves : Leaves (steps.Offline n) s w
  offline_leaves = record {
    clock = λ texts indexes k. (still_offline indexes k n s).clock;
    suspended = λ texts indexes k. (still_offline indexes k n s).suspended;
    names = λ texts indexes k. (still_offline indexes k n s).names ∙ h.names ∙ sym (ap numbers_of same.names);
    last = λ texts indexes k. let as_it_was = (still_offline indexes k n s).last in omega (arith, as_it_was);
  }

  pub juggles : (answer : Result JuggleReport Refusal)
      → ((report : JuggleReport) → answer ≡ Ok report → IsDoneWith (λ k. moved k report) (steps.Juggle n) s w.system)
      → ((e : Refusal) → answer ≡ Err e → IsRefusedFor e (steps.Juggle n) s w.system) → Juggles n answer s w
  juggles (Ok report) done refuse =
      lasts_with (λ k. moved k report) step (steps.Juggle n) s m w r tt h kept (done report refl) clock tally same juggle_leaves
  juggles (Err e) done refuse = let why = refuse e refl in (why.0, refuses s m w h kept why.1 clock tally same)

  pub goes_offline : (answer : Result (Unit {0}) Refusal) → (answer ≡ Ok tt → IsDoneWith accepted (steps.Offline n) s w.system)
      → ((report : JuggleReport) → answer ≡ Err (Left report)
      → IsDoneWith (λ k. cyclics_left k report) (steps.Offline n) s w.system)
      → (answer ≡ Err Pending → IsDoneWith (λ k. refused k (number_of Pending)) (steps.Offline n) s w.system)
      → ((e : Refusal) → IsAtOnce e → answer ≡ Err e → IsRefusedFor e (steps.Offline n) s w.system)
      → GoesOffline n answer s w
  goes_offline (Ok done) off left pending refuse =
      lasts_with accepted step (steps.Offline n) s m w r tt h kept (off refl) clock tally same offline_leaves
  goes_offline (Err (Left report)) off left pending refuse =
      lasts_with (λ k. cyclics_left k report) step (steps.Offline n) s m w r tt h kept
      (left report refl) clock tally same offline_leaves
  goes_offline (Err Pending) off left pending refuse =
      lasts_with (λ k. refused k (number_of Pending)) step (steps.Offline n) s m w r tt h kept
      (pending refl) clock tally same offline_leaves
  goes_offline (Err e) off left pending refuse =
      let why = refuse e tt refl in (why.0, refuses s m w h kept why.1 clock tally same)

-- ---- with their lines

pub juggle_takes : (texts : List (List ℕ)) (step n : ℕ) (answer : Result JuggleReport Refusal) (line : List ℕ) (s : State)
    (m : Machine)
    → line ≡ word_line texts step (steps.Juggle n) (word_answer Juggled answer) → answer ≢ Err Memory → Juggles n answer s m
    → TakesWord texts step (steps.Juggle n) line s m
juggle_takes texts step n (Ok report) line s m is other does_it =
    takes_with texts step (λ k. moved k report) (steps.Juggle n) line s m does_it is
juggle_takes texts step n (Err e) line s m is other (why, h) =
    refused_takes texts step (steps.Juggle n) line e s m
    (truly_refused e (refusal_of plain (steps.Juggle n) s) (λ memory. other (ap Err memory)) why) is h

pub offline_takes : (texts : List (List ℕ)) (step n : ℕ) (answer : Result (Unit {0}) Refusal) (line : List ℕ) (s : State)
    (m : Machine)
    → line ≡ word_line texts step (steps.Offline n) (word_answer done answer) → answer ≢ Err Memory → GoesOffline n answer s m
    → TakesWord texts step (steps.Offline n) line s m
offline_takes texts step n (Ok x) line s m is other does_it = takes_with texts step accepted
    (steps.Offline n) line s m does_it is
offline_takes texts step n (Err (Left report)) line s m is other does_it =
    takes_with texts step (λ k. cyclics_left k report) (steps.Offline n) line s m does_it is
offline_takes texts step n (Err Pending) line s m is other does_it =
    takes_with texts step (λ k. refused k (number_of Pending)) (steps.Offline n) line s m does_it is
offline_takes texts step n (Err e) line s m is other (why, h) =
    refused_takes texts step (steps.Offline n) line e s m
    (truly_refused e (refusal_of plain (steps.Offline n) s) (λ memory. other (ap Err memory)) why) is h

-- ---- what each of several does
