-- What follows of the call of a step, whichever word it is.
use Rattle.std.proofs.Common.{◌≡◌, ℕ, Option, Some, None, Result, refl}
use Rattle.std.specs.Prelude.{⊤}
use Rattle.std.specs.Option.{option_map}
use Rattle.cyc_types.specs.declared.Calls.{Ghosts as Calls}
use Rattle.cyc_types.specs.declared.Raise.{Ghosts as Raise}
use Rattle.cyc_types.specs.declared.refusal.Refusal.{Refusal}
use Rattle.cyc_script.specs.declared.step.Step.{Step}
use Rattle.cyc_script.specs.declared.step.Step.TheVariants as steps
use Rattle.cyc_threads.specs.Calls.{SystemCall, Add, AddOmni, BeginRemove, PollRemove, Reprogram, ReprogramOn, Offline, Online}
use Rattle.cyc_system_rings.specs.Leading.{LeadCall, Make}
use Rattle.cyc_system_rings.specs.Rings.{receipt_of}
use Rattle.cyc_system_rings.specs.ByLevel.{level_given}
use Rattle.cyc_system_rings.specs.Events.{event_in}
use Rattle.cyc_expected.specs.Course.{Passes}
use Rattle.cyc_words.specs.Names.{news}
use Rattle.cyc_words.specs.Words.{MakesCall, WithId, id_call}
use Rattle.cyc_words.proofs.Within.{IsCallOf, by_call}
use Rattle.cyc_threads.specs.declared.progress.Progress.{Progress}
use Rattle.cyc_threads.specs.StepCalls.{CallsFor}
use Rattle.cyc_threads.specs.Words.{DoesStep}
use Rattle.cyc_thread_calls.specs.Leading.{call_of}
use Rattle.cyc_thread_calls.specs.Answering.{IsAnsweredPoll}

-- the word adds no cyclic
abbrev pub AddsNone : Step → Type 0
AddsNone (steps.Add a) = ⊥
AddsNone (steps.Omni a) = ⊥
AddsNone x = ⊤

-- nor does it remove one
abbrev pub LeavesNames : Step → Type 0
LeavesNames (steps.Add a) = ⊥
LeavesNames (steps.Omni a) = ⊥
LeavesNames (steps.Remove name) = ⊥
LeavesNames x = ⊤

-- nor does it change when one expires
abbrev pub LeavesCourses : Step → Type 0
LeavesCourses (steps.Add a) = ⊥
LeavesCourses (steps.Omni a) = ⊥
LeavesCourses (steps.Remove name) = ⊥
LeavesCourses (steps.Reprogram r) = ⊥
LeavesCourses (steps.Offline n) = ⊥
LeavesCourses (steps.Online n) = ⊥
LeavesCourses x = ⊤

pub no_news : (x : Step) (call : SystemCall) → LeavesNames x → IsCallOf x call → news call ≡ None
no_news (steps.Add a) call plain is = absurd plain
no_news (steps.Omni a) call plain is = absurd plain
no_news (steps.Remove name) call plain is = absurd plain
no_news x (Add level when now answer) plain is = absurd is
no_news x (AddOmni level when skew now answer) plain is = absurd is
no_news x (BeginRemove id answer) plain is = absurd is
no_news x (PollRemove id answer) plain is = absurd is
no_news x call plain is = refl

pub no_receipt : (x : Step) (call : SystemCall) → LeavesNames x → IsCallOf x call → (own : ℕ) → receipt_of own (Make call) ≡ None
no_receipt (steps.Remove name) call plain is own = absurd plain
no_receipt x (BeginRemove id answer) plain is own = absurd is
no_receipt x (PollRemove id answer) plain is own = absurd is
no_receipt x call plain is own = refl

pub no_level : (x : Step) (call : SystemCall) → AddsNone x → IsCallOf x call → (own : ℕ) → level_given own (Make call) ≡ None
no_level (steps.Add a) call plain is own = absurd plain
no_level (steps.Omni a) call plain is own = absurd plain
no_level x (Add level when now answer) plain is own = absurd is
no_level x (AddOmni level when skew now answer) plain is own = absurd is
no_level x call plain is own = refl

pub no_event : (x : Step) (call : SystemCall) → LeavesCourses x → IsCallOf x call → (id : ℕ) → event_in id (Make call) ≡ Passes
no_event (steps.Add a) call plain is id = absurd plain
no_event (steps.Omni a) call plain is id = absurd plain
no_event (steps.Remove name) call plain is id = absurd plain
no_event (steps.Reprogram r) call plain is id = absurd plain
no_event (steps.Offline n) call plain is id = absurd plain
no_event (steps.Online n) call plain is id = absurd plain
no_event x (Add level when now answer) plain is id = absurd is
no_event x (AddOmni level when skew now answer) plain is id = absurd is
no_event x (BeginRemove own answer) plain is id = absurd is
no_event x (Reprogram own moment answer) plain is id = absurd is
no_event x (ReprogramOn own n moment answer) plain is id = absurd is
no_event x (Offline n answer) plain is id = absurd is
no_event x (Online n now answer) plain is id = absurd is
no_event x call plain is id = refl

-- no word polls
pub no_poll : (x : Step) (call : SystemCall) → IsCallOf x call → IsAnsweredPoll (Make call)
no_poll (steps.Advance now) call is = absurd is
no_poll x (PollRemove id answer) is = absurd is
no_poll x call is = tt

module _ {C R : Type 0} (firing : Raise R) where
  -- the call for the cyclic of a name, where the name has one
  abbrev pub call_with : (Answer : Type 0) (call : ℕ → Result Answer Refusal → SystemCall) (name : ℕ) (s t : Progress R C)
      (id : Option ℕ)
      → WithId id (λ own. (answer : Result Answer Refusal) × CallsFor firing name (call own answer) s t) (t ≡ s)
      → Option LeadCall
  call_with Answer call name s t id does =
      option_map Make (id_call call (λ own answer. CallsFor firing name (call own answer) s t) (t ≡ s) id does)

module _ {C R : Type 0} (handler : Calls C) (firing : Raise R) (s t : Progress R C) where
  -- of the call of a word, and of none
  pub by_word : (L : Option LeadCall → Type 0) → (t ≡ s → L None) → (x : Step) → MakesCall x
      → ((name : ℕ) (call : SystemCall) → IsCallOf x call → CallsFor firing name call s t → L (Some (Make call)))
      → (d : DoesStep handler firing x s t) → L (call_of handler firing x s t d)
  by_word L none (steps.Advance now) makes go d = absurd makes
  by_word L none (steps.Softint i) makes go d = absurd makes
  by_word L none x makes go d = by_call (λ name call answer. CallsFor firing name call s t) (λ why. t ≡ s) s.clock s.names
      (λ o. L (option_map Make o)) (λ why e. none e) x (λ name call answer c is. go name call is c) d
