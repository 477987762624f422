-- The JSON value that a part of a step stands for.
use Rattle.std.specs.Prelude.{◌≡◌, ℕ, ℤ, List, Option, Some, None}
use Rattle.serde_json.specs.Data.{Num, Data, null, boolean, number, string, array, object}
use Rattle.serde_json.specs.Find.{as_i64, of_integer}
use Rattle.serde_json.specs.Read.{number_of}
use Rattle.cyc_script.specs.declared.part.Part.{Part}
use Rattle.cyc_script.specs.declared.part.Part.TheVariants.{Text, Whole, Other}

-- a value of which no step says anything stands for null
abbrev pub data_of : Part → Data
data_of (Text text) = string text.now
data_of (Whole z) = number (of_integer z)
data_of Other = null

abbrev pub plain_number : Num → Option ℤ → Data
plain_number n (Some z) = number n
plain_number n None = null

-- a value with null in its place where it is neither a text nor a whole number
abbrev pub plain_data : Data → Data
plain_data null = null
plain_data (boolean b) = null
plain_data (number n) = plain_number n (as_i64 n)
plain_data (string s) = string s
plain_data (array ds) = null
plain_data (object ms) = null

-- the number that was read is this whole one
abbrev pub IsWhole : ℤ → Option Num → Type 0
IsWhole z read = (read ≡ Some (of_integer z)) × (as_i64 (of_integer z) ≡ Some z)

-- what the text of a number is read as
abbrev pub IsNumber : Option (Option ℤ) → Option Num → Type 0
IsNumber None read = read ≡ None
IsNumber (Some None) read = (n : Num) × (read ≡ Some n) × (as_i64 n ≡ None)
IsNumber (Some (Some z)) read = IsWhole z read

-- the text of a number stands for this part
abbrev pub IsNumberPart : List ℕ → Part → Type 0
IsNumberPart text part = (n : Num) × (number_of text ≡ Some n) × (data_of part ≡ plain_data (number n))
