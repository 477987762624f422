-- One CPU, and what a call does there.
use Rattle.std.specs.Prelude.{ℕ, ◌==◌, not, Bool, true, List, [], ◌∷◌, ◌++◌, map, filter, find, Option, None}
use Rattle.std.specs.List.{list_any}
use Rattle.std.specs.Option.{option_map_or}
use Rattle.cyc_types.specs.declared.level.Soft.TheVariants.{Low, Lock}
use Rattle.cyc_types.specs.declared.level.Level.{Level}
use Rattle.cyc_types.specs.declared.level.Level.TheVariants as level
use Rattle.cyc_level.specs.Level.{SoftLevel, empty_level}
use Rattle.cyc_level.specs.Events.{after}
use Rattle.cyc_types.specs.Timers.{Timer}
use Rattle.cyc_model.specs.Acts.{Act, At, Call}

-- a cyclic, and those of its expirations that were lost at the ceiling
pub record CyclicState : Type 0 where
  pub timer : Timer
  pub lost : ℕ

-- one CPU (cyc_cpu_t)
pub record Cpu : Type 0 where
  pub online : Bool
  -- its cyclics by rising ids, with the one whose removal is open
  pub cyclics : List CyclicState
  -- the number of its indexes (cyp_size)
  pub size : ℕ
  -- the id of the cyclic whose removal is open: it has the moment never
  pub removal : Option ℕ
  -- its two soft levels (cyp_softbuf)
  pub lock : SoftLevel
  pub low : SoftLevel

-- a CPU as it begins
abbrev pub begun_cpu : ℕ → Cpu
begun_cpu ceiling = record {
  online = true;
  cyclics = [];
  size = 1;
  removal = None;
  lock = empty_level ceiling;
  low = empty_level ceiling;
}

-- what a call does on one CPU: what happens, and the CPU after it
pub record Here : Type 0 where
  pub acts : List Act
  pub cpu : Cpu

-- an event changes its level, and a call nothing of the CPU
abbrev pub cpu_after : Act → Cpu → Cpu
cpu_after (At n Low event) c = record c { low = after event c.low }
cpu_after (At n Lock event) c = record c { lock = after event c.lock }
cpu_after (Call id) c = c

-- these acts happen on the CPU
abbrev pub happen : List Act → Cpu → Cpu
happen [] c = c
happen (act ∷ acts) c = happen acts (cpu_after act c)

abbrev pub here : List Act → Cpu → Here
here acts c = record { acts = acts; cpu = happen acts c }

-- nothing happens
abbrev pub nothing_here : Cpu → Here
nothing_here c = record { acts = []; cpu = c }

abbrev pub acts_first : List Act → Here → Here
acts_first acts d = record { acts = acts ++ d.acts; cpu = d.cpu }

-- one thing, and then another
abbrev pub then_here : Here → (Cpu → Here) → Here
then_here first next = acts_first first.acts (next first.cpu)

-- ---- the cyclics of a CPU

abbrev pub timers_on : List CyclicState → List Timer
timers_on cs = map (λ c. c.timer) cs

-- whether the cyclic is the one of this id
abbrev pub is_of : ℕ → CyclicState → Bool
is_of id c = c.timer.id == id

-- the cyclic of this id
abbrev pub cyclic_with_id : ℕ → Cpu → Option CyclicState
cyclic_with_id id c = find (is_of id) c.cyclics

abbrev pub has_cyclic : ℕ → Cpu → Bool
has_cyclic id c = list_any (is_of id) c.cyclics

-- its level; one that isn't here is at no soft level, as one of high level
abbrev pub handler_level_of : ℕ → Cpu → Level
handler_level_of id c = option_map_or (λ x. x.timer.level) (cyclic_with_id id c) level.High

-- the cyclics of other ids
abbrev pub others : ℕ → List CyclicState → List CyclicState
others id cs = filter (λ c. not (is_of id c)) cs

abbrev pub cyclic_at : ℕ → CyclicState → CyclicState
cyclic_at moment c = record c { timer = record c.timer { moment = moment } }
