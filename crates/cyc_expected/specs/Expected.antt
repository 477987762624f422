-- The expirations of a name that a script makes, told from its words alone, and from which of them were accepted.
use Rattle.std.specs.Prelude.{ℕ, ◌==◌, Bool, if◌then◌else◌, List, [], ◌∷◌, Option, Some, None}
use Rattle.cyc_script.specs.declared.step.Step.{Step}
use Rattle.cyc_script.specs.declared.step.Step.TheVariants.{Add, Omni, Bind, Unbind, Reprogram, Remove, Advance, Softint, Juggle}
use Rattle.cyc_script.specs.declared.step.Step.TheVariants.{Offline, Online, Suspend, Resume}
use Rattle.cyc_script.specs.WellFormed.{moment_after}
use Rattle.cyc_model.specs.Refusals.{magnitude}
use Rattle.cyc_model.specs.Omni.{everywhere}
use Rattle.cyc_expected.specs.Course.{Event, Begins, BeginsOnAll, IsSet, IsSetOn, Ends, Fires, Leaves, Returns, Passes, untold}
use Rattle.cyc_expected.specs.Course.{told_by}

-- a step, and whether it was accepted: it may be refused for what threads did by then, and for want of memory
pub record Met : Type 0 where
  pub step : Step
  pub accepted : Bool

abbrev pub reprogrammed : Option ℕ → ℕ → Event
reprogrammed None moment = IsSet moment
reprogrammed (Some n) moment = IsSetOn n moment

-- what an accepted step is to the cyclic of this name, at this clock
abbrev pub event_of : ℕ → ℕ → Step → Event
event_of name clock (Add a) =
    if a.name == name then Begins (magnitude a.start) (magnitude a.interval) clock else Passes
event_of name clock (Omni a) = if a.name == name then BeginsOnAll (everywhere a) clock else Passes
event_of name clock (Reprogram r) = if r.name == name then reprogrammed r.cpu (magnitude r.moment) else Passes
event_of name clock (Remove own) = if own == name then Ends else Passes
event_of name clock (Advance now) = Fires now
event_of name clock (Offline n) = Leaves n
event_of name clock (Online n) = Returns n clock
event_of name clock (Bind b) = Passes
event_of name clock (Unbind own) = Passes
event_of name clock (Softint i) = Passes
event_of name clock (Juggle n) = Passes
event_of name clock Suspend = Passes
event_of name clock Resume = Passes

-- the clock after a step, accepted or not
abbrev pub clock_after : Step → ℕ → ℕ
clock_after step clock = moment_after clock step

-- what the accepted steps are to it, in order; a step that was refused is nothing, but that an `advance` sets the clock
abbrev pub course_events : ℕ → ℕ → List Met → List Event
course_events name clock [] = []
course_events name clock (m ∷ ms) = if m.accepted
    then event_of name clock m.step ∷ course_events name (clock_after m.step clock) ms
    else course_events name (clock_after m.step clock) ms

-- the expirations of a name in a script over so many CPUs, whose steps were met so: none before its `add` or `omni`, then
-- those that are due at each `advance`, until its `remove` is accepted
abbrev pub expected : ℕ → List Met → ℕ → ℕ
expected cpus way name = (told_by (course_events name 0 way) (untold cpus)).expired
