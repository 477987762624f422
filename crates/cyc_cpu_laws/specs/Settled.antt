-- What holds of a CPU that has settled.
use Rattle.std.specs.Prelude.{Ok, Err}
use Rattle.cyc_types.specs.declared.refusal.Refusal.{Refusal}
use Rattle.cyc_types.specs.declared.refusal.Refusal.TheVariants.{Expanding, Busy, Pending}
use Rattle.cyc_cpu.specs.declared.removing.Removal.TheVariants.{Kept}
use Rattle.cyc_cpu.specs.Calls.{CpuCall, Fire, Add, AskRoom, Reserve, BeginRemove, TakeNow}

-- the call is no fire
abbrev pub IsNoFire : CpuCall → Type 0
IsNoFire (Fire now answer) = ⊥
IsNoFire call = Unit {0}

-- a refusal until something is done first: a soft side follows, a removal ends, or a call is made
abbrev pub IsUntil : Refusal → Type 0
IsUntil Expanding = Unit {0}
IsUntil (Busy id) = Unit {0}
IsUntil Pending = Unit {0}
IsUntil e = ⊥

-- the call was put off until something is done first
abbrev pub IsPutOff : CpuCall → Type 0
IsPutOff (Add id level when now (Err e)) = IsUntil e
IsPutOff (AskRoom more (Err e)) = IsUntil e
IsPutOff (Reserve more (Err e)) = IsUntil e
IsPutOff (TakeNow id (Err e)) = IsUntil e
IsPutOff (BeginRemove id (Err e)) = IsUntil e
IsPutOff (BeginRemove id (Ok (Kept kept))) = Unit {0}
IsPutOff call = ⊥
