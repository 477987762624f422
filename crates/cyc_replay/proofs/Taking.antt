-- A step that says no more than whether it was done, with its line.
use Rattle.std.proofs.Common.{◌≡◌, ◌≢◌, ℕ, Option, List, [], Some, refl, ap, sym, ◌∙◌, subst, arith}
use Rattle.std.specs.Prelude.{Result, Ok, Err, OnOk}
use Rattle.cyc_types.specs.declared.refusal.Refusal.{Refusal}
use Rattle.cyc_types.specs.declared.refusal.Refusal.TheVariants.{Memory}
use Rattle.cyc_text.specs.Lines.{accepted}
use Rattle.cyc_script.specs.declared.step.Step.{Step}
use Rattle.cyc_model.specs.Questions.{plain}
use Rattle.cyc_model.specs.State.{State, Outcome}
use Rattle.cyc_model.specs.Refusals.{refusal, after_refusal}
use Rattle.cyc_model.specs.Script.{refusal_of, does}
use Rattle.cyc_system_model.specs.Answers.{IsRefused}
use Rattle.cyc_replay.specs.declared.machine.Machine.{Machine}
use Rattle.cyc_replay.specs.Machine.{ShowsMachine}
use Rattle.cyc_replay.specs.Words.{Comes, TakesWord, answer_line}
use Rattle.cyc_replay.proofs.Doing.{Accepts, AcceptsWith, Answers}
use Rattle.cyc_replay.proofs.Doing.{word_done, word_refused}

-- the word says nothing else where it is done
abbrev pub SaysOk : Step → Type 0
SaysOk x = (texts : List (List ℕ)) (indexes : ℕ → ℕ) (step : ℕ) (s : State)
    → (does plain texts indexes step x s).line ≡ accepted step

-- a refusal that is no want of memory
pub truly_refused : (e : Refusal) (why : Option Refusal) → e ≢ Memory → IsRefused e why → why ≡ Some e
truly_refused Memory why other is = absurd (other refl)
truly_refused e why other is = is

-- a refused step does nothing, but that an `advance` sets the clock
pub refused_takes : (texts : List (List ℕ)) (step : ℕ) (x : Step) (line : List ℕ) (e : Refusal) (s : State) (m : Machine)
    → refusal_of plain x s ≡ Some e → line ≡ (refusal step e s).line → ShowsMachine (after_refusal x s) m
    → TakesWord texts step x line
    s m
refused_takes texts step x line e s m some same h = record {
  given = [];
  line_is = λ indexes gives. same ∙ ap (λ (o : Outcome). o.line) (sym (word_refused texts indexes step x s e some));
  comes = λ indexes gives. subst (λ o. Comes [] s o m) (sym (word_refused texts indexes step x s e some))
      (record { holds = h; admissions = omega arith; free = λ n soft. tt });
}

-- a step that is done
pub done_takes : (texts : List (List ℕ)) (step : ℕ) (x : Step) (line : List ℕ) (s : State) (m : Machine) → Accepts x s m
    → ((indexes : ℕ → ℕ) → line ≡ (does plain texts indexes step x s).line) → TakesWord texts step x line s m
done_takes texts step x line s m done same = record {
  given = done.given;
  line_is = λ indexes gives. same indexes ∙ ap (λ (o : Outcome). o.line) (sym (word_done texts indexes step x s done.accepted));
  comes = λ indexes gives. subst (λ o. Comes done.given s o m) (sym (word_done texts indexes step x s done.accepted))
      (done.comes texts indexes step gives);
}

-- one whose line tells more
pub takes_with : (texts : List (List ℕ)) (step : ℕ) (says : ℕ → List ℕ) (x : Step) (line : List ℕ) (s : State) (m : Machine)
    → AcceptsWith says x s m → line ≡ says step → TakesWord texts step x line s m
takes_with texts step says x line s m done same = record {
  given = done.given;
  line_is = λ indexes gives. same ∙ sym (done.said texts indexes step gives)
      ∙ ap (λ (o : Outcome). o.line) (sym (word_done texts indexes step x s done.accepted));
  comes = λ indexes gives. subst (λ o. Comes done.given s o m) (sym (word_done texts indexes step x s done.accepted))
      (done.comes texts indexes step gives);
}

pub taken : (texts : List (List ℕ)) (step : ℕ) (x : Step) (answer : Result (Unit {0}) Refusal) (line : List ℕ) (s : State)
    (m : Machine)
    → SaysOk x → after_refusal x s ≡ s → answer ≢ Err Memory → line ≡ answer_line step answer → Answers x answer s m
    → TakesWord texts step x line s m
taken texts step x (Ok done) line s m says still other is does_it =
    done_takes texts step x line s m does_it (λ indexes. is ∙ sym (says texts indexes step s))
taken texts step x (Err e) line s m says still other is (why, h) =
    refused_takes texts step x line e s m (truly_refused e (refusal_of plain x s) (λ memory. other (ap Err memory)) why) is
    (subst (λ t. ShowsMachine t m) (sym still) h)

-- what holds where the line was written
pub on_ok : {A E : Type 0} (P Q R : Type 0) (r : Result A E) → (P → Q → R) → OnOk r P → OnOk r Q → OnOk r R
on_ok P Q R (Ok x) f p q = f p q
on_ok P Q R (Err e) f p q = tt
