-- The walk over a CPU's cyclics, from which some leave.
use Rattle.std.specs.Prelude.{◌≡◌, ℕ, ◌+◌, true, false, Option, Some, None}
use Rattle.cyc_types.specs.declared.Raise.{Ghosts as Raise}
use Rattle.cyc_types.specs.Firing.{FiringView}
use Rattle.cyc_types.specs.declared.refusal.JuggleReport.{JuggleReport}
use Rattle.cyc_cpu.specs.Rows.{Cyclic}
use Rattle.cyc_cpu.specs.Cpu.{CpuView, IsCyclic, seen_at}
use Rattle.cyc_places.specs.Places.{RecordsView}
use Rattle.cyc_agreement.specs.Cpus.{CpusView}
use Rattle.cyc_agreement.specs.System.{SystemView, is_omnipresent}
use Rattle.cyc_system.specs.declared.turning.Turn.{Turn}
use Rattle.cyc_system.specs.Juggling.{system_of, TakesTurn, counted}

-- a cyclic of the source has its turn, unless it is omnipresent
abbrev pub Visits : {R : Type 0} → Raise R → ℕ → ℕ → Option Turn
    → SystemView R → SystemView R → Type 0
Visits firing source id None s t = (is_omnipresent id s ≡ true) × (t ≡ s)
Visits firing source id (Some turn) s t = (is_omnipresent id s ≡ false) × TakesTurn firing source id turn s t

-- a report has the turn where there was one
abbrev pub counted_if : Option Turn → JuggleReport → JuggleReport
counted_if None r = r
counted_if (Some turn) r = counted turn r

-- where a walk stands: the turns so far, the CPUs and the records
pub record Walk (R : Type 0) : Type 0 where
  pub report : JuggleReport
  pub cpus : CpusView R
  pub records : RecordsView

-- the system there, whose last id this is
abbrev pub system_at : {R : Type 0} → Walk R → ℕ → SystemView R
system_at walk last = system_of walk.cpus walk.records last

-- a cyclic of the source has its turn, whatever id was given last, and the report has it
abbrev pub VisitsOne : {R : Type 0} → Raise R → ℕ → ℕ → Walk R → Walk R → Type 0
VisitsOne firing source id a b = (turn : Option Turn)
    × ((last : ℕ) → Visits firing source id turn (system_at a last) (system_at b last))
    × (b.report ≡ counted_if turn a.report)

-- all turns of a report
abbrev pub all_turns : JuggleReport → ℕ
all_turns r = r.moved + r.bound + r.pending + r.refused

-- those after which the cyclic is where it was
abbrev pub all_left : JuggleReport → ℕ
all_left r = r.bound + r.pending + r.refused

-- no call of a cyclic of the CPU was seen outstanding
abbrev pub HaveNoCalls : {R : Type 0} → (R → FiringView) → CpuView R → Type 0
HaveNoCalls view cpu = (k : ℕ) (c : Cyclic) → IsCyclic cpu.cyclics k c → seen_at view c.timer.id cpu ≡ 0
