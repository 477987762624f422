-- One cyclic goes from a CPU to another (`cyclic_juggle_one_to`).
use Rattle.std.specs.Prelude.{◌≡◌, ℕ, ◌<◌, List, [], ◌∷◌, ◌⊎◌, Option, Some, None, Result, Ok, Err}
use Rattle.cyc_types.specs.declared.Raise.{Ghosts as Raise}
use Rattle.cyc_types.specs.Firing.{FiringView}
use Rattle.cyc_types.specs.declared.refusal.Refusal.{Refusal}
use Rattle.cyc_types.specs.declared.refusal.Refusal.TheVariants.{Busy, Pending}
use Rattle.cyc_cpu.specs.declared.moving.Taken.{Taken}
use Rattle.cyc_cpu.specs.Cpu.{CpuView, seen_at}
use Rattle.cyc_cpu.specs.Removal.{HasCyclic}
use Rattle.cyc_cpu.specs.Calls.{AskPending, Reserve, TakeNow, Widen, Place}
use Rattle.cyc_agreement.specs.Cpus.{CpusView, IsCpu, CallOn, on, Works}

-- the removal that is open on this CPU
abbrev pub HasRemoval : {R : Type 0} → ℕ → Option ℕ → CpusView R → Type 0
HasRemoval {R} n removal v = (cpu : CpuView R) × IsCpu n cpu v × (cpu.removal ≡ removal)

-- a cyclic of this CPU can leave at once: no removal is open, and its load found no call outstanding
pub record MayLeave {R : Type 0} (view : R → FiringView) (id : ℕ) (cpu : CpuView R) : Type 0 where
  pub here : HasCyclic id cpu.cyclics
  pub still : cpu.removal ≡ None
  pub quiet : seen_at view id cpu ≡ 0

-- the calls of a move: all that can be refused comes before the cyclic leaves
abbrev pub moving : ℕ → ℕ → ℕ → Taken → List CallOn
moving id source target taken =
    on source (AskPending id (Some 0)) ∷ on target (Reserve 1 (Ok tt)) ∷ on source (TakeNow id (Ok taken)) ∷ on target (Widen 1)
    ∷ on target (Place id taken.level taken.interval taken.moment taken.sent) ∷ []

-- a move that is asked for: of this cyclic, from one CPU to another
pub record Move : Type 0 where
  pub id : ℕ
  pub source : ℕ
  pub target : ℕ

abbrev pub move_of : ℕ → ℕ → ℕ → Move
move_of id source target = record { id = id; source = source; target = target }

-- Why it doesn't go: a removal is open at the source; then calls of it are outstanding; then the target has no room.
abbrev pub WhyNotShifted : {R : Type 0} → Raise R → Move → Refusal → CpusView R → CpusView R → Type 0
WhyNotShifted firing m e v w =
    ((removed : ℕ) × HasRemoval m.source (Some removed) v × (e ≡ Busy removed) × (w ≡ v))
    ⊎ (HasRemoval m.source None v × (n : ℕ) × (0 < n) × (e ≡ Pending)
    × Works firing (on m.source (AskPending m.id (Some n)) ∷ []) v w)
    ⊎ (HasRemoval m.source None v
    × Works firing (on m.source (AskPending m.id (Some 0)) ∷ on m.target (Reserve 1 (Err e)) ∷ []) v w)

-- the cyclic goes with all that its CPU has of it, or stays
abbrev pub Shifts : {R : Type 0} → Raise R → Move → Result (Unit {0}) Refusal → CpusView R → CpusView R → Type 0
Shifts firing m (Ok done) v w = (taken : Taken) × Works firing (moving m.id m.source m.target taken) v w
Shifts firing m (Err e) v w = WhyNotShifted firing m e v w
