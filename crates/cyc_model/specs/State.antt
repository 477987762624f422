-- The machine between two steps, and what a step comes to.
use Rattle.std.specs.Prelude.{ℕ, ◌+◌, if◌then◌else◌, Bool, false, List, [], ◌∷◌, ◌++◌, slice_set, slice_index_or}
use Rattle.cyc_types.specs.declared.level.Level.{Level}
use Rattle.cyc_model.specs.Acts.{Act, calls_of}
use Rattle.cyc_model.specs.Cpu.{Cpu, Here, begun_cpu, has_cyclic}

-- an omnipresent cyclic: its level, the start and the interval of CPU 0's component, and by how much each CPU's starts later
pub record Everywhere : Type 0 where
  pub level : Level
  pub start : ℕ
  pub interval : ℕ
  pub skew : ℕ

-- where a cyclic is (cyc_id_t): on one CPU, to which it may be bound, or on every online one
pub data Placement : Type 0 where
  On : ℕ → Bool → Placement
  OnAll : Everywhere → Placement

-- an id that was given and whose removal has not answered
pub record Placed : Type 0 where
  pub id : ℕ
  pub placement : Placement

-- the counts of stays that have ended
pub record Ended : Type 0 where
  pub expired : ℕ
  pub lost : ℕ

-- the machine
pub record State : Type 0 where
  pub clock : ℕ
  -- no fire is made until a resume
  pub suspended : Bool
  -- the id that was given last
  pub last_id : ℕ
  -- how many cyclics were put on a CPU so far: each took an index
  pub admissions : ℕ
  -- the CPUs by number
  pub cpus : List Cpu
  -- where the cyclics are, by rising ids
  pub placed : List Placed
  -- what stays that ended left of an id on a CPU
  pub ended : (id n : ℕ) → Ended
  -- how often the handler of each id was called
  pub called : ℕ → ℕ
  -- the id of each name: 0, which is no id, where no add of it was accepted
  pub names : List ℕ

-- what a step comes to: its lines, what happens, and the machine after it
pub record Outcome : Type 0 where
  pub line : List ℕ
  pub acts : List Act
  pub state : State

-- nothing happens, and nothing is said
abbrev pub nothing : State → Outcome
nothing s = record { line = []; acts = []; state = s }

-- this line says what came about
abbrev pub told : List ℕ → Outcome → Outcome
told line o = record o { line = line }

abbrev pub before : Outcome → Outcome → Outcome
before first rest = record { line = first.line ++ rest.line; acts = first.acts ++ rest.acts; state = rest.state }

-- one outcome, and then what comes of the machine after it
abbrev pub followed_by : Outcome → (State → Outcome) → Outcome
followed_by first next = before first (next first.state)

-- the same for each of these, in order
abbrev pub each : {A : Type 0} → (A → State → Outcome) → List A → State → Outcome
each does [] s = nothing s
each does (x ∷ xs) s = followed_by (does x s) (each does xs)

-- ---- the CPUs

-- what stands for a CPU that isn't there: it is offline and empty
abbrev pub absent : Cpu
absent = record (begun_cpu 0) { online = false }

-- the CPU of a number
abbrev pub cpu_of : ℕ → State → Cpu
cpu_of n s = slice_index_or s.cpus n absent

abbrev pub set_cpu : ℕ → Cpu → State → State
set_cpu n c s = record s { cpus = slice_set s.cpus n c }

-- the handlers of these acts are counted
abbrev pub counting : List Act → (ℕ → ℕ) → ℕ → ℕ
counting acts called id = called id + calls_of id acts

-- this was done on the CPU of this number
abbrev pub done_on : ℕ → Here → State → Outcome
done_on n d s = record {
  line = [];
  acts = d.acts;
  state = record s { cpus = slice_set s.cpus n d.cpu; called = counting d.acts s.called };
}

abbrev pub on_number : ℕ → (Cpu → Here) → State → Outcome
on_number n does s = done_on n (does (cpu_of n s)) s

-- a number, where the test holds
abbrev pub kept_if : Bool → ℕ → List ℕ → List ℕ
kept_if test n ns = if test then n ∷ ns else ns

-- the numbers of the CPUs of which this holds, from this number on
abbrev pub cpus_from : ℕ → (Cpu → Bool) → List Cpu → List ℕ
cpus_from n test [] = []
cpus_from n test (c ∷ cs) = kept_if (test c) n (cpus_from (n + 1) test cs)

abbrev pub numbers : (Cpu → Bool) → State → List ℕ
numbers test s = cpus_from 0 test s.cpus

abbrev pub cpus_online : State → List ℕ
cpus_online s = numbers (λ c. c.online) s

-- the numbers of the CPUs that have the cyclic
abbrev pub cpus_having : ℕ → State → List ℕ
cpus_having id s = numbers (has_cyclic id) s
