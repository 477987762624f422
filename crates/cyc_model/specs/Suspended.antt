-- What happens while the system is suspended: no expiration, and no call of a handler of high level.
use Rattle.std.specs.Prelude.{◌≡◌, ℕ, ⊤, true, None, List, [], ◌∷◌}
use Rattle.cyc_level.specs.declared.Event.{Event}
use Rattle.cyc_level.specs.declared.Event.TheVariants.{Expire, Lose, Finish}
use Rattle.cyc_script.specs.declared.step.Step.{Step}
use Rattle.cyc_script.specs.declared.step.Step.TheVariants.{Suspend, Resume}
use Rattle.cyc_model.specs.Acts.{Act, At, Call}
use Rattle.cyc_model.specs.Questions.{Questions}
use Rattle.cyc_model.specs.State.{State}
use Rattle.cyc_model.specs.Script.{refusal_of, word, steps_from}

-- the event is no expiration at a soft level
abbrev pub IsNoExpiration : Event → Type 0
IsNoExpiration (Expire id) = ⊥
IsNoExpiration (Lose id) = ⊥
IsNoExpiration _ = ⊤

-- the next act finishes a call: a soft interrupt makes the call, and no fire does
abbrev pub FinishFollows : List Act → Type 0
FinishFollows (At n soft Finish ∷ acts) = ⊤
FinishFollows _ = ⊥

-- no act is an expiration: no event of a soft level is one, nor is a call, which at high level is the expiration too
abbrev pub NoneExpires : List Act → Type 0
NoneExpires [] = ⊤
NoneExpires (At n soft event ∷ acts) = IsNoExpiration event × NoneExpires acts
NoneExpires (Call id ∷ acts) = FinishFollows acts × NoneExpires acts

-- none of these steps resumes the system
abbrev pub NoneResumes : List Step → Type 0
NoneResumes [] = ⊤
NoneResumes (Resume ∷ xs) = ⊥
NoneResumes (x ∷ xs) = NoneResumes xs

-- a `suspend` that is accepted suspends the system
abbrev pub SuspendSuspends : Type 0
SuspendSuspends = (q : Questions) (texts : List (List ℕ)) (indexes : ℕ → ℕ) (step : ℕ) (s : State)
    → refusal_of q Suspend s ≡ None → (word q texts indexes step Suspend s).state.suspended ≡ true

-- and until the next `resume` nothing expires, and it stays suspended, whatever the questions answer
abbrev pub NothingExpiresSuspended : Type 0
NothingExpiresSuspended = (q : Questions) (texts : List (List ℕ)) (indexes : ℕ → ℕ) (step : ℕ) (xs : List Step) (s : State)
    → s.suspended ≡ true → NoneResumes xs
    → NoneExpires (steps_from q texts indexes step xs s).acts
    × ((steps_from q texts indexes step xs s).state.suspended ≡ true)
