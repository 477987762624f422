-- What a script is, as a function of its bytes, and the first refusal where they are none (our own format).
use Rattle.std.specs.Prelude.{ℕ, ◌||◌, ◌==◌, List, [], ◌∷◌, length, map, codes, Bool, false, Option, Some, None, option_and_then}
use Rattle.std.specs.Prelude.{Result, Ok, Err, nat_lt, nat_le, bytes_eq, string_bytes, if◌then◌else◌}
use Rattle.std.specs.List.{list_all}
use Rattle.std.specs.Option.{option_map_or}
use Rattle.std.specs.Str.Lossy.{utf8_valid_len}
use Rattle.serde_json.specs.Data.{Data, Members, no_members, member}
use Rattle.serde_json.specs.Find.{as_array, as_object, get}
use Rattle.serde_json.specs.Read.{read}
use Rattle.cyc_types.specs.declared.refusal.Refusal.{Refusal}
use Rattle.cyc_types.specs.declared.refusal.Refusal.TheVariants.{ScriptSyntax, ScriptShape}
use Rattle.cyc_script.specs.declared.script.Script.{Script}
use Rattle.cyc_script.specs.declared.step.Step.{Step}
use Rattle.cyc_types.specs.Limits.{most_cpus, greatest_ceiling}
use Rattle.cyc_script.specs.Limits.{most_bytes, most_steps}
use Rattle.cyc_script.specs.Parameters.{number_in}
use Rattle.cyc_script.specs.Steps.{first_context, steps_of}
use Rattle.cyc_script.specs.Words.{list_of, ◌>>=◌}

-- a script without where it lies in memory
pub record Content : Type 0 where
  pub cpus : ℕ
  pub ceiling : ℕ
  pub names : List (List ℕ)
  pub steps : List Step

-- what a contract sees of a script
abbrev pub content : Script → Content
content s = record { cpus = s.cpus; ceiling = s.ceiling; names = map string_bytes s.names.items; steps = s.steps.items }

-- ---- the object

-- where a part of the object is missing, the script as a whole has the wrong shape
abbrev pub formed : {A : Type 0} → Option A → Result A Refusal
formed (Some part) = Ok part
formed None = Err (ScriptShape 0)

-- a whole number from the least to the greatest
abbrev pub number_between : ℕ → ℕ → Data → Option ℕ
number_between least most d = option_and_then (λ n. if nat_le least n then Some n else None) (number_in most d)

-- 1 to 16 CPUs
abbrev pub cpus_in : Data → Option ℕ
cpus_in d = number_between 1 most_cpus d

-- the number of CPUs, which must be there
unfoldable pub cpus_of : Data → Option ℕ
cpus_of d = option_and_then cpus_in (get (codes "cpus") d)

-- 1 to 2^32-1, and the greatest where there is no ceiling
abbrev pub ceiling_in : Option Data → Option ℕ
ceiling_in None = Some greatest_ceiling
ceiling_in (Some d) = number_between 1 greatest_ceiling d

-- the ceiling of the pend
unfoldable pub ceiling_of : Data → Option ℕ
ceiling_of d = ceiling_in (get (codes "ceiling") d)

-- at most 65,536 steps
abbrev pub within_limit : List Data → Option (List Data)
within_limit values = if nat_le (length values) most_steps then Some values else None

-- the values of the steps, which must be there
unfoldable pub values_of : Data → Option (List Data)
values_of d = option_and_then (λ items. within_limit (list_of items)) (option_and_then as_array (get (codes "steps") d))

-- a key that a script may have
unfoldable pub is_key : List ℕ → Bool
is_key key = bytes_eq key (codes "cpus") || bytes_eq key (codes "ceiling") || bytes_eq key (codes "steps")

-- the keys of an object
abbrev pub keys_of : Members → List (List ℕ)
keys_of no_members = []
keys_of (member key value rest) = key ∷ keys_of rest

-- an object with no key but these
unfoldable pub has_keys : Data → Bool
has_keys d = option_map_or (λ members. list_all is_key (keys_of members)) (as_object d) false

-- the script of an object: its parts, and then its steps in order
unfoldable pub content_of : Data → Result Content Refusal
content_of d = if has_keys d then (do
  cpus ← formed (cpus_of d)
  ceiling ← formed (ceiling_of d)
  values ← formed (values_of d)
  read ← steps_of [] first_context values
  Ok (record { cpus = cpus; ceiling = ceiling; names = read.1; steps = read.0 })) else Err (ScriptShape 0)

-- ---- the bytes

-- the bytes are a text
abbrev pub is_utf8 : List ℕ → Bool
is_utf8 bytes = utf8_valid_len bytes == length bytes

-- what the JSON reader reads
abbrev pub parsed : Option Data → Result Data Refusal
parsed (Some d) = Ok d
parsed None = Err ScriptSyntax

-- the JSON value of the bytes
unfoldable pub json_of : List ℕ → Result Data Refusal
json_of bytes = if is_utf8 bytes then parsed (read bytes) else Err ScriptSyntax

-- the script of the bytes: not too many, JSON, and an object that is a script
unfoldable pub script_of : List ℕ → Result Content Refusal
script_of bytes = if nat_lt most_bytes (length bytes) then Err (ScriptShape 0) else (json_of bytes >>= content_of)
