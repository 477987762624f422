-- The levels that enabled events reach.
use Rattle.std.specs.Prelude.{◌≡◌, List}
use Rattle.cyc_level.specs.declared.Event.{Event}
use Rattle.cyc_level.specs.Level.{SoftLevel}
use Rattle.cyc_level.specs.Events.{Enabled, after, reached, AllEnabled}

-- a list of events, each enabled when it happened, leads from the empty level to this one
abbrev pub LevelIsReached : SoftLevel → Type 0
LevelIsReached l = (events : List Event) × AllEnabled l.ceiling events × (l ≡ reached l.ceiling events)

-- the event happens: it is enabled, and what it names changes
abbrev pub Happens : SoftLevel → Event → SoftLevel → Type 0
Happens l event m = Enabled event l × (m ≡ after event l)
