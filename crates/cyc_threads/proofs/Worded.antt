-- The words of steps, and what the steps do.
use Rattle.std.proofs.Common.{◌≡◌, ℕ, refl, ap}
use Rattle.std.specs.Prelude.{Result}
use Rattle.cyc_types.specs.declared.Calls.{Ghosts as Calls}
use Rattle.cyc_types.specs.declared.Raise.{Ghosts as Raise}
use Rattle.cyc_types.specs.declared.refusal.Refusal.{Refusal}
use Rattle.cyc_script.specs.declared.step.Step.{Step}
use Rattle.cyc_script.specs.declared.step.Step.TheVariants as steps
use Rattle.cyc_system_workers.specs.Calls.{SystemCall}
use Rattle.cyc_words.specs.declared.answer.WordAnswer.{WordAnswer}
use Rattle.cyc_words.specs.Words.{MakesCall, WithCall}
use Rattle.cyc_words.specs.Doing.{WordState, word_state, DoesCall, DoesWord}
use Rattle.cyc_words.proofs.Within.{by_call, then_call}
use Rattle.cyc_threads.specs.declared.progress.Progress.{Progress}
use Rattle.cyc_threads.specs.StepCalls.{CallsFor, Advances}
use Rattle.cyc_threads.specs.Words.{DoesStep}

module _ {C R : Type 0} (handler : Calls C) (firing : Raise R) where
  abbrev Worded : Step → Progress R C → Progress R C → Type 0
  Worded x s t = WithCall s.clock s.names x (λ name call answer. CallsFor firing name call s t) (λ why. t ≡ s)

  -- a word that makes a call is what its step does
  is_done : (x : Step) (s t : Progress R C) → MakesCall x → Worded x s t → DoesStep handler firing x s t
  is_done (steps.Advance now) s t m w = absurd m
  is_done (steps.Softint i) s t m w = absurd m
  is_done x s t m w = w

  -- what follows of what a step does: of the call of a word, of an `advance`, and of nothing
  pub does_by : (L : Type 0) (x : Step) (s t : Progress R C)
      → ((name : ℕ) (call : SystemCall) → CallsFor firing name call s t → L)
      → ((now : ℕ) → Advances handler firing now s t → L) → (t ≡ s → L) → DoesStep handler firing x s t → L
  does_by L x s t call advances same = by x
    where
      worded : (x : Step) → Worded x s t → L
      worded x w = by_call (λ name made answer. CallsFor firing name made s t) (λ why. t ≡ s) s.clock s.names (λ o. L)
          (λ why e. same e) x (λ name made answer c is. call name made c) w

      by : (x : Step) → DoesStep handler firing x s t → L
      by (steps.Advance now) d = advances now d
      by (steps.Softint i) d = same d
      by x d = worded x d

  -- what the lead has, with another system and other names
  abbrev with_state : Progress R C → WordState R → Progress R C
  with_state s w = record { side = record { system = w.system; leads = s.side.leads }; clock = s.clock; names = w.names }

  -- the call of a word leaves the leads and the clock
  pub called_for : (s : Progress R C) (name : ℕ) (call : SystemCall) (u : WordState R)
      → DoesCall firing name call (word_state s.side.system s.names) u → CallsFor firing name call s (with_state s u)
  called_for s name call u c = record {
    did = c.did;
    told = c.told;
    leads = refl;
    clock = refl;
    sound = record { agrees = c.agrees; fit = c.fit; lawful = c.lawful };
  }

  pub word_done : (x : Step) (s : Progress R C) (result : Result WordAnswer Refusal) (u : WordState R) → MakesCall x
      → DoesWord firing s.clock x result (word_state s.side.system s.names) u → DoesStep handler firing x s (with_state s u)
  word_done x s result u m d = is_done x s (with_state s u) m (then_call _ _ s.clock s.names
      (λ name call answer. CallsFor firing name call s (with_state s u)) (λ why. with_state s u ≡ s)
      (λ name call answer p. called_for s name call u p.1)
      (λ why p. ap (λ (w : WordState R). with_state s w) p.1) x d)
