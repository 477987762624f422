-- How far an advance of a system over plain levels has come: it fires the online CPUs by rising number.
use Rattle.std.specs.Prelude.{◌≡◌, ℕ, ◌+◌, List, [], take}
use Rattle.cyc_core.specs.Tables.{Tables}
use Rattle.cyc_system.specs.System.{RunningSystem}
use Rattle.cyc_text.specs.Lines.{fired}
use Rattle.cyc_model.specs.Acts.{calls_of, all_losses}
use Rattle.cyc_model.specs.Firing.{fire_here}
use Rattle.cyc_model.specs.State.{State, Outcome, cpus_from, on_number, each}
use Rattle.cyc_model.specs.Advance.{due_on, advance}
use Rattle.cyc_system_model.specs.SystemWords.{ComesTo}

-- the clock is set
abbrev pub at_clock : ℕ → State → State
at_clock now m = record m { clock = now }

-- the online CPUs below this number
abbrev pub online_below : ℕ → State → List ℕ
online_below n m = cpus_from 0 (λ c. c.online) (take n m.cpus)

-- these CPUs fire at the machine's clock
abbrev pub fire_each : List ℕ → State → Outcome
fire_each ns m = each (λ n. on_number n (fire_here n m.clock)) ns m

-- how many expirations fires made, and how many of them were lost
pub record Expirations : Type 0 where
  pub expired : ℕ
  pub lost : ℕ

abbrev pub fired_and_lost : ℕ → ℕ → Expirations
fired_and_lost expired lost = record { expired = expired; lost = lost }

-- from s, which the machine with its clock set shows, these CPUs have fired: they made and lost so many expirations together
pub record HaveFired {C : Type 0} (count : C → ℕ → ℕ) (ns : List ℕ) (all : Expirations) (m : State)
    (s t : RunningSystem C Tables) : Type 0 where
  pub comes : ComesTo [] m (fire_each ns m) t.system
  pub expired : all.expired ≡ due_on m.clock ns m
  pub lost : all.lost ≡ all_losses (fire_each ns m).acts
  pub called : (id : ℕ) → count t.calls id ≡ count s.calls id + calls_of id (fire_each ns m).acts

-- the online CPUs below this number have fired, and no other
abbrev pub HasFired : {C : Type 0} → (C → ℕ → ℕ) → ℕ → Expirations → State → (s t : RunningSystem C Tables) → Type 0
HasFired count n all m s t = HaveFired count (online_below n m) all m s t

-- the system did what the word advance does at this moment, and the line of the word tells these two numbers
pub record IsAdvanced {C : Type 0} (count : C → ℕ → ℕ) (now : ℕ) (all : Expirations) (m : State)
    (s t : RunningSystem C Tables) : Type 0 where
  pub comes : (step : ℕ) → ComesTo [] m (advance step now m) t.system
  pub line : (step : ℕ) → (advance step now m).line ≡ fired step all.expired all.lost
  pub called : (step id : ℕ) → count t.calls id ≡ count s.calls id + calls_of id (advance step now m).acts
