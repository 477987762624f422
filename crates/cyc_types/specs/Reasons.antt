-- Why a call is refused: the first reason that holds, in the order in which a call names them.
use Rattle.std.specs.Prelude.{ℕ, nat_le, cond, Bool, List, [], ◌∷◌, Option, Some, None}
use Rattle.std.specs.Option.{option_map}
use Rattle.cyc_types.specs.Series.{never}
use Rattle.cyc_types.specs.declared.refusal.Refusal.{Refusal}
use Rattle.cyc_types.specs.declared.refusal.Refusal.TheVariants.{BadNow, Busy}

-- a refusal, where its reason holds
abbrev pub when : Bool → Refusal → Option Refusal
when holds why = cond holds (Some why) None

-- the first of two
abbrev pub or_else : Option Refusal → Option Refusal → Option Refusal
or_else None later = later
or_else (Some why) later = Some why

abbrev pub first_refusal : List (Option Refusal) → Option Refusal
first_refusal [] = None
first_refusal (why ∷ whys) = or_else why (first_refusal whys)

-- a removal is open
abbrev pub busy : Option ℕ → Option Refusal
busy removal = option_map (λ id. Busy id) removal

-- the refusal, where the test holds
abbrev pub only_if : Bool → Option Refusal → Option Refusal
only_if test why = cond test why None

abbrev pub bad_now : ℕ → Option Refusal
bad_now now = when (nat_le never now) BadNow
