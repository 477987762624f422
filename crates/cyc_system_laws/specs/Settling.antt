-- What holds of a system one of whose CPUs has settled.
use Rattle.std.specs.Prelude.{◌≡◌, ◌≢◌, ℕ, ◌<◌, ◌⊎◌, true, List, [], ◌∷◌, ◌++◌, Some, None, Err}
use Rattle.cyc_types.specs.declared.Raise.{Ghosts as Raise}
use Rattle.cyc_types.specs.Firing.{FiringView}
use Rattle.cyc_types.specs.declared.refusal.JuggleReport.{JuggleReport}
use Rattle.cyc_types.specs.declared.refusal.Refusal.{Refusal}
use Rattle.cyc_types.specs.declared.refusal.Refusal.TheVariants.{Expanding}
use Rattle.cyc_cpu.specs.Cpu.{CpuView}
use Rattle.cyc_cpu.specs.Moving.{IsSettled}
use Rattle.cyc_cpu.specs.Calls.{AskPending, Reserve}
use Rattle.cyc_cpu_laws.specs.Settled.{IsUntil}
use Rattle.cyc_agreement.specs.Cpus.{IsCpu, on, online_cpus}
use Rattle.cyc_agreement.specs.Destination.{destination}
use Rattle.cyc_agreement.specs.Reserving.{StandsAfter}
use Rattle.cyc_system.specs.System.{SystemView, is_online}
use Rattle.cyc_system.specs.Adding.{OnlyWorks}
use Rattle.cyc_system.specs.Binding.{HasHome}
use Rattle.cyc_system.specs.Removing.{cpus_with}
use Rattle.cyc_system.specs.declared.turning.Turn.{Turn}
use Rattle.cyc_system.specs.declared.turning.Turn.TheVariants.{StaysRefused}
use Rattle.cyc_system.specs.Juggling.{TakesTurn, Turns}
use Rattle.cyc_system.specs.Calls.{SystemCall, Add, AddOmni, Bind, BeginRemove, Juggle, Offline, Online, FireOne}

-- the call was refused until something is done first: a soft side follows, a removal ends, or a call is made
abbrev pub IsRefusedUntil : SystemCall → Type 0
IsRefusedUntil (Add level when now (Err e)) = IsUntil e
IsRefusedUntil (AddOmni level when skew now (Err e)) = IsUntil e
IsRefusedUntil (Bind id (Some n) (Err e)) = IsUntil e
IsRefusedUntil (BeginRemove id (Err e)) = IsUntil e
IsRefusedUntil (Juggle n (Err e)) = IsUntil e
IsRefusedUntil (Offline n (Err e)) = IsUntil e
IsRefusedUntil (Online n now (Err e)) = IsUntil e
IsRefusedUntil call = ⊥

-- this number is among these
abbrev pub IsAmong : ℕ → List ℕ → Type 0
IsAmong n ns = (before : List ℕ) × StandsAfter before n ns

-- the call asks this CPU: the one that gets a new cyclic, or all that are online; where a cyclic is and where it is to go; those
-- that have it; or the one that is named
abbrev pub AsksCpu : {R : Type 0} → ℕ → SystemCall → SystemView R → Type 0
AsksCpu n (Add level when now answer) s = destination None s.cpus ≡ Some n
AsksCpu n (AddOmni level when skew now answer) s = IsAmong n (online_cpus s.cpus)
AsksCpu n (Bind id (Some m) answer) s = HasHome id n s ⊎ (n ≡ m)
AsksCpu n (BeginRemove id answer) s = IsAmong n (cpus_with id s.cpus)
AsksCpu n (Juggle m answer) s = n ≡ m
AsksCpu n (Offline m answer) s = n ≡ m
AsksCpu n (Online m now answer) s = n ≡ m
AsksCpu n call s = ⊥

-- the call doesn't fire this CPU
abbrev pub FiresNot : ℕ → SystemCall → Type 0
FiresNot n (FireOne m now answer) = m ≢ n
FiresNot n call = Unit {0}

-- ---- the turns of a juggle, and those with which a CPU begins to go offline

-- a turn that was counted as refused: its cyclic, its destination, why this refused it, and the systems before and after it
pub record RefusedTurn (R : Type 0) : Type 0 where
  pub id : ℕ
  pub target : ℕ
  pub why : Refusal
  pub before : SystemView R
  pub after : SystemView R

module _ {R : Type 0} (firing : Raise R) (n : ℕ) where
  -- the turn, if it was refused
  abbrev pub refused_in : (id : ℕ) (turn : Turn) (s t : SystemView R) → TakesTurn firing n id turn s t → List (RefusedTurn R)
  refused_in id StaysRefused s t (position, d, chosen, e, only) =
      record { id = id; target = d; why = e; before = s; after = t } ∷ []
  refused_in id turn s t takes = []

  -- the refused turns, in order
  abbrev pub refused_turns : (ids : List ℕ) (report : JuggleReport) (s t : SystemView R) → Turns firing n ids report s t
      → List (RefusedTurn R)
  refused_turns [] report s t turns = []
  refused_turns (id ∷ ids) report s t (turn, u, rest, takes, counted, more) =
      refused_in id turn s u takes ++ refused_turns ids rest u t more

  -- no call of the cyclic was outstanding at its turn, and the destination of that moment refused it so
  abbrev pub IsRefusedTurn : RefusedTurn R → Type 0
  IsRefusedTurn turn = (destination (Some n) turn.before.cpus ≡ Some turn.target)
      × OnlyWorks firing (on n (AskPending turn.id (Some 0)) ∷ on turn.target (Reserve 1 (Err turn.why)) ∷ [])
      turn.before turn.after

-- the turn's destination had not settled when the step began in s; or it refused with Expanding, and an earlier turn of the step
-- has made it grow
abbrev pub IsUnsettledOrGrown : {R : Type 0} → (R → FiringView) → SystemView R → RefusedTurn R → Type 0
IsUnsettledOrGrown {R} view s turn = (x : CpuView R) × (y : CpuView R) × IsCpu turn.target x s.cpus
    × IsCpu turn.target y turn.before.cpus × ((IsSettled view x → ⊥) ⊎ ((turn.why ≡ Expanding) × (x.size < y.size)))

-- every other CPU that is online had settled, and has not switched banks since: it has the same size
abbrev pub AreSettledBeside : {R : Type 0} → (R → FiringView) → ℕ → SystemView R → SystemView R → Type 0
AreSettledBeside {R} view n s t = (m : ℕ) (x y : CpuView R) → m ≢ n → is_online m s.cpus ≡ true → IsCpu m x s.cpus
    → IsCpu m y t.cpus → IsSettled view x × (y.size ≡ x.size)
