-- The numbers by which a program in C tells what a call answered (our own rule).
use Rattle.std.specs.Prelude.{ℕ, zero, suc, Option, Some, None, Result, Ok, Err}
use Rattle.cyc_types.specs.declared.level.Level.{Level}
use Rattle.cyc_types.specs.declared.level.Level.TheVariants as level
use Rattle.cyc_types.specs.declared.level.Soft.{Soft}
use Rattle.cyc_types.specs.declared.level.Soft.TheVariants as soft
use Rattle.cyc_types.specs.declared.refusal.Refusal.TheVariants as why
use Rattle.cyc_types.specs.Refusals.{number_of as refusal_number}
use Rattle.cyc_border.specs.declared.numbers.Denied.{Denied}
use Rattle.cyc_border.specs.declared.numbers.Denied.TheVariants.{Misused, Taken, Refused}

-- the library's refusals keep their numbers, which are below 64
abbrev pub number_of_refusal : Denied → ℕ
number_of_refusal Misused = 64
number_of_refusal Taken = 65
number_of_refusal (Refused e) = refusal_number e

-- 0 where the call was done
abbrev pub answer_of : {A : Type 0} → Result A Denied → ℕ
answer_of (Ok a) = 0
answer_of (Err e) = number_of_refusal e

-- the id of a refusal that names one, else 0
abbrev pub id_in_refusal : Denied → ℕ
id_in_refusal (Refused (why.Busy id)) = id
id_in_refusal (Refused (why.CountSpent id)) = id
id_in_refusal (Refused (why.HandlerRefused id)) = id
id_in_refusal e = 0

abbrev pub level_numbered : ℕ → Option Level
level_numbered zero = Some level.Low
level_numbered (suc zero) = Some level.Lock
level_numbered (suc (suc zero)) = Some level.High
level_numbered (suc (suc (suc n))) = None

abbrev pub soft_named : ℕ → Option Soft
soft_named zero = Some soft.Low
soft_named (suc zero) = Some soft.Lock
soft_named (suc (suc n)) = None
