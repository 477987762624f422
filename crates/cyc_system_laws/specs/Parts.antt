-- What a call of a system does to its CPUs, one thing after another.
use Rattle.std.specs.Prelude.{◌≡◌, ℕ, ◌≤◌, Bool, List, All, slice_set}
use Rattle.std.specs.List.{FoldsTo}
use Rattle.cyc_types.specs.declared.Raise.{Ghosts as Raise}
use Rattle.cyc_cpu.specs.Gone.{PutsNot}
use Rattle.cyc_places.specs.Places.{HasNoRecord}
use Rattle.cyc_agreement.specs.Cpus.{CpusView, CallOn, DoesAt}
use Rattle.cyc_system.specs.System.{SystemView}

-- a call on one of the CPUs, or one of them goes online or offline
pub data CpusCall : Type 0 where
  OnCpu : CallOn → CpusCall
  SetOnline : ℕ → Bool → CpusCall

-- what it does
abbrev pub DoesPart : {R : Type 0} → Raise R
    → CpusView R → CpusCall → CpusView R → Type 0
DoesPart firing v (OnCpu c) w = DoesAt firing v c w
DoesPart firing v (SetOnline n online) w = w ≡ record v { online = slice_set v.online n online }

-- it puts in no cyclic of this id
abbrev pub IsWithout : ℕ → CpusCall → Type 0
IsWithout id (OnCpu c) = PutsNot id c.call
IsWithout id (SetOnline n online) = Unit {0}

-- The call did these things to the CPUs, in order, and nothing else. None of them puts in an id that was given before and that
-- has no record; and it gets none.
pub record IsMadeOf {R : Type 0} (firing : Raise R) (s t : SystemView R) : Type 0 where
  pub way : List CpusCall
  pub works : FoldsTo (DoesPart firing) s.cpus way t.cpus
  pub without : (id : ℕ) → id ≤ s.last → HasNoRecord id s.records → All (IsWithout id) way
  pub unknown : (id : ℕ) → id ≤ s.last → HasNoRecord id s.records → HasNoRecord id t.records
  pub last : s.last ≤ t.last
