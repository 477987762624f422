-- What each call of a lead keeps, and its fires and its waits, a whole run keeps.
use Rattle.std.proofs.Common.{inl, inr, ◌≡◌, ℕ, List, [], ◌∷◌, sym, subst}
use Rattle.std.specs.Prelude.{Bool, true, false}
use Rattle.std.specs.List.{FoldsTo}
use Rattle.cyc_types.specs.declared.Calls.{Ghosts as Calls}
use Rattle.cyc_types.specs.declared.Raise.{Ghosts as Raise}
use Rattle.cyc_script.specs.declared.step.Step.{Step}
use Rattle.cyc_system_workers.specs.Calls.{SystemCall, PollRemove}
use Rattle.cyc_words.specs.declared.named.Named.{Named}
use Rattle.cyc_words.specs.declared.named.Named.TheVariants.{Nothing, Cyclic, Leaving, Removed}
use Rattle.cyc_threads.specs.declared.progress.Progress.{Progress}
use Rattle.cyc_threads.specs.declared.counting.Line.{Line}
use Rattle.cyc_threads.specs.StepCalls.{CallsFor, Poll, Polls, SettlesAll, Waits, Fires, Advances}
use Rattle.cyc_threads.specs.Counting.{NameLine, TellsOf, Tells, Reports}
use Rattle.cyc_threads.specs.Steps.{TakesSteps, Runs}
use Rattle.cyc_threads.proofs.Worded.{does_by}
use Rattle.cyc_threads.specs.Words.{DoesStep, Begins, waits_first}

module _ {C R : Type 0} (handler : Calls C)
    (firing : Raise R) (K : Progress R C → Progress R C → Type 0)
    (same : (s : Progress R C) → K s s) (joined : (s t u : Progress R C) → K s t → K t u → K s u)
    (calls : (name : ℕ) (call : SystemCall) (s t : Progress R C) → CallsFor firing name call s t → K s t)
    (settles : (s t : Progress R C) → SettlesAll firing s t → K s t)
    (sets : (now : ℕ) (s : Progress R C) → K s (record s { clock = now })) where
  is_same : (s t : Progress R C) → t ≡ s → K s t
  is_same s t e = subst (λ (x : Progress R C). K s x) (sym e) (same s)

  polls_all : (polls : List Poll) (s t : Progress R C) → FoldsTo (Polls firing) s polls t → K s t
  polls_all [] s t e = is_same s t (sym e)
  polls_all (p ∷ polls) s t (u, d, rest) =
      joined s u t (calls p.name (PollRemove p.id p.answer) s u d.1) (polls_all polls u t rest)

  waits_all : (s t : Progress R C) → Waits firing s t → K s t
  waits_all s t (polls, u, p, q) = joined s u t (polls_all polls s u p) (settles u t q)

  pub begins_all : (b : Bool) (s t : Progress R C) → Begins firing b s t → K s t
  begins_all true s t w = waits_all s t w
  begins_all false s t e = is_same s t e

  -- what follows of a step's call, where it follows of what a call keeps, and of the fires of an `advance`
  pub does_all : (L : Type 0) (x : Step) (s t : Progress R C) → (K s t → L)
      → ((now : ℕ) → Fires handler firing now s t → L) → DoesStep handler firing x s t → L
  does_all L x s t go fires d = does_by handler firing L x s t (λ name call c. go (calls name call s t c))
      (λ now a. advances now a) (λ e. go (is_same s t e)) d
    where
      advances : (now : ℕ) → Advances handler firing now s t → L
      advances now (inl (asleep, same)) = go (subst (λ (x : Progress R C). K s x) (sym same) (sets now s))
      advances now (inr made) = fires now made

  module _ (fires : (now : ℕ) (s t : Progress R C) → Fires handler firing now s t → K s t) where
    steps_all : (all : List Step) (s t : Progress R C) → TakesSteps handler firing s all t → K s t
    steps_all [] s t e = is_same s t (sym e)
    steps_all (x ∷ all) s t (u, (v, begins, does), rest) = joined s u t
        (joined s v u (begins_all (waits_first x) s v begins) (does_all (K v u) x v u (λ k. k) (λ now f. fires now v u f) does))
        (steps_all all u t rest)

    pub runs_all : (all : List Step) (s t : Progress R C) → Runs handler firing s all t → K s t
    runs_all all s t (u, p, q) = joined s u t (steps_all all s u p) (waits_all u t q)

    tells_one : (told : NameLine) (s t : Progress R C) → Tells firing s told t → K s t
    tells_one told s t d = by told.named told.line d
      where
        by : (n : Named) (line : Line) → TellsOf firing n line s t → K s t
        by Nothing line (e, is) = is_same s t is
        by (Cyclic id) line (answer, c, e) = calls 0 _ s t c
        by (Leaving id) line (answer, c, e) = calls 0 _ s t c
        by (Removed receipt) line (e, is) = is_same s t is

    tells_all : (all : List NameLine) (s t : Progress R C) → FoldsTo (Tells firing) s all t → K s t
    tells_all [] s t e = is_same s t (sym e)
    tells_all (told ∷ all) s t (u, d, rest) = joined s u t (tells_one told s u d) (tells_all all u t rest)

    pub reports_all : (lines : List Line) (s t : Progress R C) → Reports firing lines s t → K s t
    reports_all lines s t r = tells_all r.all s t r.tells
