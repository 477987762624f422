-- A soft level among all levels, and the handlers of one level.
use Rattle.std.specs.Prelude.{ℕ}
use Rattle.cyc_types.specs.declared.calls.Calls.{Ghosts as Calls}
use Rattle.cyc_types.specs.declared.level.Level.{Level}
use Rattle.cyc_types.specs.declared.level.Level.TheVariants as level
use Rattle.cyc_types.specs.declared.level.Soft.{Soft}
use Rattle.cyc_types.specs.declared.level.Soft.TheVariants.{Low, Lock}

-- a soft level among all levels
abbrev pub as_level : Soft → Level
as_level Low = level.Low
as_level Lock = level.Lock

-- the calls that handlers may be given, at one level alone
abbrev pub at_level : {C : Type 0} → (C → ℕ → Level → C → Type 0) → Level → C → ℕ → C → Type 0
at_level called level c id d = called c id level d

-- what the handlers of one level may do: the calls of a cyclic, their count for each id, and those that may be refused
pub record Handler (C : Type 0) : Type 1 where
  pub called : C → ℕ → C → Type 0
  pub count : C → ℕ → ℕ
  pub may_refuse : C → ℕ → Type 0

-- the handlers, at one level alone
abbrev pub handler_at : {C : Type 0} → Calls C → Level → Handler C
handler_at handler level = record {
  called = at_level handler.called level;
  count = handler.count;
  may_refuse = handler.may_refuse;
}
