-- A system that is suspended, until it is resumed.
use Rattle.std.specs.Prelude.{◌≡◌, ℕ, true, Ok, List}
use Rattle.std.specs.List.{FoldsTo}
use Rattle.cyc_agreement.specs.Suspending.{is_suspended}
use Rattle.cyc_system.specs.System.{RunningSystem}
use Rattle.cyc_system.specs.Calls.{SystemCall, Resume}
use Rattle.cyc_system_laws.specs.Totalling.{expirations_along}

-- the call doesn't resume the system
abbrev pub IsNoResumption : SystemCall → Type 0
IsNoResumption (Resume (Ok done)) = ⊥
IsNoResumption call = Unit {0}

-- after this run the system is suspended, and in it no cyclic expired, on any CPU and at any level
pub record StaysSuspended {C R : Type 0} (D : RunningSystem C R → SystemCall → RunningSystem C R → Type 0)
    (s : RunningSystem C R) (way : List SystemCall) (t : RunningSystem C R) (run : FoldsTo D s way t) : Type 0 where
  pub suspended : is_suspended t.system ≡ true
  pub unfired : (id : ℕ) → expirations_along D id s way t run ≡ 0
