-- The parameters of a step, each from its JSON value (our own format).
use Rattle.std.specs.Prelude.{ℕ, ◌-◌, ◌&&◌, ◌||◌, ◌==◌, ℤ, pos, negsuc, List, length, codes, Bool, Option, Some, None}
use Rattle.std.specs.Prelude.{option_and_then, Result, Ok, Err, nat_le, bytes_eq, if◌then◌else◌}
use Rattle.std.specs.List.{list_all}
use Rattle.serde_json.specs.Data.{Data}
use Rattle.serde_json.specs.Find.{as_number, as_i64, as_str}
use Rattle.cyc_types.specs.declared.level.Level.{Level}
use Rattle.cyc_types.specs.declared.level.Level.TheVariants as level
use Rattle.cyc_types.specs.declared.level.Soft.{Soft}
use Rattle.cyc_types.specs.declared.level.Soft.TheVariants as soft
use Rattle.cyc_types.specs.Series.{never}
use Rattle.cyc_script.specs.declared.cause.Cause.{Cause}
use Rattle.cyc_script.specs.declared.cause.Cause.TheVariants.{Shape}
use Rattle.cyc_script.specs.Limits.{longest_name}

-- where a part is missing, the step has not the form of a step
abbrev pub shaped : {A : Type 0} → Option A → Result A Cause
shaped (Some part) = Ok part
shaped None = Err Shape

-- ---- numbers

-- a whole number: a JSON number for which `as_i64` gives a value
abbrev pub whole_in : Data → Option ℤ
whole_in d = option_and_then as_i64 (as_number d)

-- a number that is neither negative nor above the greatest
abbrev pub at_most : ℕ → ℤ → Option ℕ
at_most most (pos n) = if nat_le n most then Some n else None
at_most most (negsuc n) = None

-- a whole number from 0 to the greatest
abbrev pub number_in : ℕ → Data → Option ℕ
number_in most d = option_and_then (at_most most) (whole_in d)

-- any whole number: a start, an interval, a moment of `reprogram`
unfoldable pub whole_of : Data → Result ℤ Cause
whole_of d = shaped (whole_in d)

-- a moment of `advance`: below never
unfoldable pub moment_of : Data → Result ℕ Cause
moment_of d = shaped (number_in (never - 1) d)

-- the skew of `omni`
unfoldable pub skew_of : Data → Result ℕ Cause
skew_of d = shaped (number_in never d)

-- the number of a CPU, or a budget: a number of 32 bits
unfoldable pub unsigned_of : Data → Result ℕ Cause
unsigned_of d = shaped (number_in 4294967295 d)

-- ---- names

-- an ASCII letter, an ASCII digit, `_` or `-`
unfoldable pub is_name_byte : ℕ → Bool
is_name_byte b = (nat_le 97 b && nat_le b 122) || (nat_le 65 b && nat_le b 90) || (nat_le 48 b && nat_le b 57) || (b == 95) ||
    (b == 45)

-- a name has 1 to 32 such bytes
abbrev pub is_name : List ℕ → Bool
is_name text = nat_le 1 (length text) && nat_le (length text) longest_name && list_all is_name_byte text

-- a text that is a name
abbrev pub name_in : List ℕ → Option (List ℕ)
name_in text = if is_name text then Some text else None

-- the text of a name
unfoldable pub name_of : Data → Result (List ℕ) Cause
name_of d = shaped (option_and_then name_in (as_str d))

-- ---- levels

-- the level of a word
abbrev pub level_in_word : List ℕ → Option Level
level_in_word word = if bytes_eq word (codes "low") then Some level.Low else if bytes_eq word (codes "lock") then Some level.Lock
    else if bytes_eq word (codes "high") then Some level.High else None

-- the level of a cyclic
unfoldable pub level_in_value : Data → Result Level Cause
level_in_value d = shaped (option_and_then level_in_word (as_str d))

-- the soft level of a word
abbrev pub soft_in : List ℕ → Option Soft
soft_in word = if bytes_eq word (codes "low") then Some soft.Low else if bytes_eq word (codes "lock") then Some soft.Lock
    else None

-- the level of a soft interrupt
unfoldable pub soft_of : Data → Result Soft Cause
soft_of d = shaped (option_and_then soft_in (as_str d))
