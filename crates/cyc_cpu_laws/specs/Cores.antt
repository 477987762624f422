-- What calls on a CPU add up to where no other thread uses its levels, and soft interrupts are among the calls.
use Rattle.std.specs.Prelude.{◌≡◌, ℕ, ◌+◌, List, [], ◌∷◌, length}
use Rattle.std.specs.List.{FoldsTo}
use Rattle.cyc_types.specs.Draining.{DrainCall}
use Rattle.cyc_types.specs.Firing.{FiringCall}
use Rattle.cyc_types.specs.Runs.{Taught, raised_by, lost_by, finishes_of, finished_by}
use Rattle.cyc_types.specs.declared.level.Level.TheVariants.{Low, Lock, High}
use Rattle.cyc_cpu.specs.Tables.{Tables}
use Rattle.cyc_cpu.specs.Cpu.{Running}
use Rattle.cyc_cpu.specs.Soft.{raise_tables, drains, firing_at}
use Rattle.cyc_cpu_laws.specs.Accounts.{Account, AccountsAddUp, LossesAddUp, KeepsLimits}

-- a call of either side of a level, with its answer
pub data LevelCall : Type 0 where
  OfFiring : FiringCall → LevelCall
  OfSoft : DrainCall → LevelCall

-- what the call does to the level
abbrev pub LevelDoes : Tables → LevelCall → Tables → Type 0
LevelDoes a (OfFiring call) b = Taught raise_tables a call b
LevelDoes a (OfSoft call) b = drains a call b

-- the calls of one side alone, in order
abbrev pub firing_calls : List LevelCall → List FiringCall
firing_calls [] = []
firing_calls (OfFiring call ∷ way) = call ∷ firing_calls way
firing_calls (OfSoft call ∷ way) = firing_calls way

abbrev pub soft_calls : List LevelCall → List DrainCall
soft_calls [] = []
soft_calls (OfFiring call ∷ way) = soft_calls way
soft_calls (OfSoft call ∷ way) = call ∷ soft_calls way

-- calls of its two sides led a level from a to b: so many raises of each id, of which so many were lost, and so many calls of
-- its handler that were made and finished, all of them together this many
pub record CorePasses (raised lost finished : ℕ → ℕ) (all : ℕ) (a b : Tables) : Type 0 where
  pub way : List LevelCall
  pub goes : FoldsTo LevelDoes a way b
  pub raises : (id : ℕ) → raised_by id (firing_calls way) ≡ raised id
  pub losses : (id : ℕ) → lost_by id (firing_calls way) ≡ lost id
  pub finishes : (id : ℕ) → finished_by id (soft_calls way) ≡ finished id
  pub together : length (finishes_of (soft_calls way)) ≡ all

-- A CPU came from s to t with this account. Each level was raised for its expirations and finished its soft interrupts' calls;
-- the handlers were called for the high expirations and by the soft interrupts, and nothing else was raised, called or finished.
-- The expirations of each id add up, and so do its losses.
pub record CoreProceeds {C : Type 0} (count : C → ℕ → ℕ) (a : Account) (s t : Running C Tables) : Type 0 where
  -- the raises that each level lost
  pub lock_lost : ℕ → ℕ
  pub low_lost : ℕ → ℕ
  -- the calls that its soft interrupts made
  pub lock_made : ℕ → ℕ
  pub low_made : ℕ → ℕ
  pub lock : CorePasses (a.fired Lock) lock_lost lock_made (a.served Lock) s.cpu.lock t.cpu.lock
  pub low : CorePasses (a.fired Low) low_lost low_made (a.served Low) s.cpu.low t.cpu.low
  pub called : (id : ℕ) → count t.calls id ≡ count s.calls id + a.fired High id + lock_made id + low_made id
  pub expired : AccountsAddUp a s.cpu.cyclics t.cpu.cyclics
  pub lost : LossesAddUp a lock_lost low_lost s.cpu.cyclics t.cpu.cyclics
  pub limits : KeepsLimits firing_at s.cpu t.cpu
