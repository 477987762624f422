-- How the cyclics of a CPU move to others (cyclic_juggle).
use Rattle.std.specs.Prelude.{◌≡◌, ℕ, ◌+◌, ◌<◌, nat_le, not, true, false, List, [], ◌∷◌, filter, length, Option, Some, Result, Ok}
use Rattle.std.specs.Prelude.{Err}
use Rattle.cyc_types.specs.declared.Raise.{Ghosts as Raise}
use Rattle.cyc_types.specs.declared.refusal.JuggleReport.{JuggleReport}
use Rattle.cyc_types.specs.declared.refusal.Refusal.{Refusal}
use Rattle.cyc_types.specs.declared.refusal.Refusal.TheVariants.{LastCpu}
use Rattle.cyc_types.specs.Reasons.{when, busy}
use Rattle.cyc_cpu.specs.Calls.{AskPending, Reserve}
use Rattle.cyc_places.specs.declared.record.Placement.TheVariants.{On}
use Rattle.cyc_places.specs.Places.{RecordsView}
use Rattle.cyc_agreement.specs.Cpus.{CpusView, on, online_cpus}
use Rattle.cyc_agreement.specs.Destination.{destination}
use Rattle.cyc_agreement.specs.Shifting.{move_of, Shifts}
use Rattle.cyc_agreement.specs.System.{SystemView, ids_on, removal_on, is_omnipresent}
use Rattle.cyc_agreement.specs.Refusals.{Unless, no_cpu, offline_cpu}
use Rattle.cyc_agreement.specs.Adding.{OnlyWorks}
use Rattle.cyc_agreement.specs.Binding.{HasPlacement, Records}
use Rattle.cyc_system.specs.declared.turning.Turn.{Turn}
use Rattle.cyc_system.specs.declared.turning.Turn.TheVariants.{StaysBound, StaysPending, StaysRefused, Moves}

-- a system with these CPUs and these records
abbrev pub system_of : {R : Type 0} → CpusView R → RecordsView → ℕ → SystemView R
system_of cpus records last = record { cpus = cpus; records = records.list; last = last }

-- The turn of one cyclic of the source: it stays where it is bound; then where its load found calls outstanding; then where its
-- destination, of the state at this turn, has no room or no memory for it, and another is not tried. Else it goes there with all
-- that its CPU has of it (cyclic_juggle_one).
abbrev pub TakesTurn : {R : Type 0} → Raise R → ℕ → ℕ → Turn
    → SystemView R → SystemView R → Type 0
TakesTurn firing source id StaysBound s t = HasPlacement id source true s × (t ≡ s)
TakesTurn firing source id StaysPending s t = HasPlacement id source false s
    × (n : ℕ) × (0 < n) × OnlyWorks firing (on source (AskPending id (Some n)) ∷ []) s t
TakesTurn firing source id StaysRefused s t = HasPlacement id source false s
    × (d : ℕ) × (destination (Some source) s.cpus ≡ Some d) × (e : Refusal)
    × OnlyWorks firing (on source (AskPending id (Some 0)) ∷ on d (Reserve 1 (Err e)) ∷ []) s t
TakesTurn firing source id Moves s t = HasPlacement id source false s
    × (d : ℕ) × (destination (Some source) s.cpus ≡ Some d)
    × Shifts firing (move_of id source d) (Ok tt) s.cpus t.cpus × Records id (On d false) s t

-- the report with one turn more
abbrev pub counted : Turn → JuggleReport → JuggleReport
counted StaysBound r = record r { bound = r.bound + 1 }
counted StaysPending r = record r { pending = r.pending + 1 }
counted StaysRefused r = record r { refused = r.refused + 1 }
counted Moves r = record r { moved = r.moved + 1 }

abbrev pub no_turns : JuggleReport
no_turns = record { moved = 0; bound = 0; pending = 0; refused = 0 }

-- one turn of each of these cyclics of the source, in order, and the report that counts them
abbrev pub Turns : {R : Type 0} → Raise R → ℕ → List ℕ → JuggleReport
    → SystemView R → SystemView R → Type 0
Turns firing source [] report s t = (report ≡ no_turns) × (t ≡ s)
Turns {R} firing source (id ∷ ids) report s t = (turn : Turn) × (u : SystemView R) × (rest : JuggleReport)
    × TakesTurn firing source id turn s u × (report ≡ counted turn rest) × Turns firing source ids rest u t

-- the cyclics of a CPU that are not omnipresent, by rising ids
abbrev pub single_ids : {R : Type 0} → ℕ → SystemView R → List ℕ
single_ids n s = filter (λ id. not (is_omnipresent id s)) (ids_on n s.cpus)

-- the cyclics of the CPU have their turns
abbrev pub MovesAway : {R : Type 0} → Raise R → ℕ → JuggleReport
    → SystemView R → SystemView R → Type 0
MovesAway firing source report s t = Turns firing source (single_ids source s) report s t

-- at most one CPU is online
abbrev pub last_cpu : {R : Type 0} → SystemView R → Option Refusal
last_cpu s = when (nat_le (length (online_cpus s.cpus)) 1) LastCpu

-- why cyclics can't leave a CPU
abbrev pub juggle_refusals : {R : Type 0} → ℕ → SystemView R → List (Option Refusal)
juggle_refusals n s = no_cpu n s ∷ offline_cpu n s ∷ last_cpu s ∷ busy (removal_on n s.cpus) ∷ []

-- a juggle of this CPU: it is refused, or each cyclic that is not omnipresent has its turn
abbrev pub Juggles : {R : Type 0} → Raise R
    → ℕ → Result JuggleReport Refusal → SystemView R → SystemView R → Type 0
Juggles firing source answer s t = Unless (juggle_refusals source s) (λ e. Err e) answer s t
    ((report : JuggleReport) × (answer ≡ Ok report) × MovesAway firing source report s t)
