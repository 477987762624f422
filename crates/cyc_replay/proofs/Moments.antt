-- What calls leave of the tally and of the mark, and the moments of a script.
use Rattle.std.proofs.Common.{◌≡◌, ℕ, zero, suc, ◌<◌, true, List, [], ◌∷◌, length, get_or, Option, Some, None, refl}
use Rattle.std.proofs.Common.{sym, subst, arith}
use Rattle.std.specs.Prelude.{Result}
use Rattle.std.proofs.lemmas.Bool.Decides.{nat_tests}
use Rattle.cyc_script.specs.declared.step.Step.{Step}
use Rattle.cyc_script.specs.declared.step.Step.TheVariants.{Advance}
use Rattle.cyc_script.specs.WellFormed.{moment_after, moment_fits, moments_fit}
use Rattle.cyc_replay.specs.Words.{SetsBelowNever}
use Rattle.cyc_types.specs.Tally.{TallyView}
use Rattle.cyc_types.specs.contracts.tally.TallyCalls.TheImpl.{ghosts as tally_calls}
use Rattle.cyc_types.specs.declared.refusal.Refusal.{Refusal}
use Rattle.cyc_types.proofs.Facts.{both_true}
use Rattle.cyc_core.specs.Tables.{Tables}
use Rattle.cyc_cpu.specs.Soft.{raise_tables, Interrupts}
use Rattle.cyc_system.specs.System.{SystemView, running_system}
use Rattle.cyc_system.specs.Calls.{SystemCall, Changes, Does, PollRemove, AskTotals, Reprogram as ReprogramCall, ReprogramOn}
use Rattle.cyc_system.specs.Calls.{FireOne, SoftInterrupt, reprograms}
use Rattle.cyc_system.specs.Calls.{Add as AddCall, AddOmni, Bind as BindCall, BeginRemove, Juggle as JuggleCall}
use Rattle.cyc_system.specs.Calls.{Offline as OfflineCall, Online as OnlineCall, Suspend as SuspendCall, Resume as ResumeCall}
use Rattle.cyc_words.specs.Names.{news}
use Rattle.cyc_system_model.specs.Kept.{LeavesMark}

-- a call that reaches no handler leaves the tally
pub as_running : (call : SystemCall) (t : TallyView) (v w : SystemView Tables) → Changes raise_tables v call w
    → Does tally_calls raise_tables (Interrupts tally_calls) (running_system t v) call (running_system t w)
as_running (AddCall level series now answer) t v w did = (did, refl)
as_running (AddOmni level series skew now answer) t v w did = (did, refl)
as_running (BindCall id cpu answer) t v w did = (did, refl)
as_running (BeginRemove id answer) t v w did = (did, refl)
as_running (PollRemove id answer) t v w did = (did, refl)
as_running (AskTotals id answer) t v w did = (did, refl)
as_running (ReprogramCall id moment answer) t v w did = (did, refl)
as_running (ReprogramOn id n moment answer) t v w did = (did, refl)
as_running (JuggleCall n answer) t v w did = (did, refl)
as_running (OfflineCall n answer) t v w did = (did, refl)
as_running (OnlineCall n now answer) t v w did = (did, refl)
as_running (FireOne n now answer) t v w did = absurd did
as_running (SoftInterrupt n level budget answer) t v w did = absurd did
as_running (SuspendCall answer) t v w did = (did, refl)
as_running (ResumeCall answer) t v w did = (did, refl)

-- no name hears of a reprogram
pub no_news : (cpu : Option ℕ) (id moment : ℕ) (answer : Result (Unit {0}) Refusal)
    → news (reprograms cpu id moment answer) ≡ None
no_news None id moment answer = refl
no_news (Some n) id moment answer = refl

pub leaves_mark : (cpu : Option ℕ) (id moment : ℕ) (answer : Result (Unit {0}) Refusal)
    → LeavesMark (reprograms cpu id moment answer)
leaves_mark None id moment answer = tt
leaves_mark (Some n) id moment answer = tt

-- ---- the moments of a script

early : (now : ℕ) (x : Step) → moment_fits now x ≡ true → SetsBelowNever x
early now (Advance moment) fits = grind (arith, nat_tests)
early now x fits = tt

-- each step of a script sets the clock below never
pub before_never : (now : ℕ) (steps : List Step) → moments_fit now steps ≡ true → (i : ℕ) (x : Step) → i < length steps
    → x ≡ get_or steps i x → SetsBelowNever x
before_never now [] fit i x low here = absurd (omega (arith, low))
before_never now (y ∷ steps) fit zero x low here =
    subst SetsBelowNever (sym here) (early now y (both_true (moment_fits now y) (moments_fit (moment_after now y) steps) fit).0)
before_never now (y ∷ steps) fit (suc i) x low here =
    before_never (moment_after now y) steps (both_true (moment_fits now y) (moments_fit (moment_after now y) steps) fit).1
    i x (omega (arith, low)) here
