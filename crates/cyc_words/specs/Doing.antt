-- What a word of a script does to a system, and to what the names have of it.
use Rattle.std.specs.Prelude.{◌≡◌, ℕ, List, Result, Err}
use Rattle.cyc_types.specs.declared.Raise.{Ghosts as Raise}
use Rattle.cyc_types.specs.declared.refusal.Refusal.{Refusal}
use Rattle.cyc_script.specs.declared.step.Step.{Step}
use Rattle.cyc_system.specs.System.{SystemView}
use Rattle.cyc_system.specs.Agreement.{Agrees}
use Rattle.cyc_system.specs.Counts.{IsFit, AreLawful}
use Rattle.cyc_system.specs.Calls.{SystemCall, Changes}
use Rattle.cyc_words.specs.declared.named.Named.{Named}
use Rattle.cyc_words.specs.declared.answer.WordAnswer.{WordAnswer}
use Rattle.cyc_words.specs.Names.{news, noted}
use Rattle.cyc_words.specs.Words.{WithCall}

-- what a word may change: a system, and what each name of the script has of it
pub record WordState (R : Type 0) : Type 0 where
  pub system : SystemView R
  pub names : List Named

abbrev pub word_state : {R : Type 0} → SystemView R → List Named → WordState R
word_state system names = record { system = system; names = names }

-- The system did this call, for the cyclic of the name of this number, which has what the answer tells. The system is as every
-- one is: its CPUs and its records agree, these are whole, and each CPU is lawful.
pub record DoesCall {R : Type 0} (firing : Raise R) (name : ℕ) (call : SystemCall) (s t : WordState R) : Type 0 where
  pub did : Changes firing s.system call t.system
  pub told : t.names ≡ noted name (news call) s.names
  pub agrees : Agrees t.system
  pub fit : IsFit t.system
  pub lawful : AreLawful firing.view t.system

-- The word was taken at this clock, and answered this: what its one call answered; or it made none, and nothing changed.
abbrev pub DoesWord : {R : Type 0} → Raise R → ℕ → Step → Result WordAnswer Refusal → WordState R → WordState R → Type 0
DoesWord firing clock x result s t = WithCall clock s.names x
    (λ name call answer. (result ≡ answer) × DoesCall firing name call s t) (λ why. (result ≡ Err why) × (t ≡ s))
