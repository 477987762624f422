-- What the tokens of a text say, from which a script is read.
use Rattle.std.specs.Prelude.{◌≡◌, ℕ, ◌+◌, ◌<◌, ◌≤◌, List, [], ◌∷◌, ◌++◌, length, map, Bool, true, false, Option, ⊤}
use Rattle.std.specs.Prelude.{Some, None, is_some, option_and_then, IfOk, Result, Ok, Err, nat_le, if◌then◌else◌}
use Rattle.std.specs.Bool.{MatchBool}
use Rattle.json.specs.Token.{Token}
use Rattle.json.specs.declared.token.Token as declared
use Rattle.json.specs.declared.token.Token.TheVariants as json
use Rattle.json.specs.Json.{value, items, members, parse_map}
use Rattle.serde_json.specs.Data.{Data, Items, Members, array, object, no_members, put}
use Rattle.serde_json.specs.Read.{of_json, of_items, of_members, converted, number_of}
use Rattle.serde_json.specs.View.{items_of}
use Rattle.cyc_types.specs.declared.refusal.Refusal.{Refusal}
use Rattle.cyc_types.specs.declared.refusal.Refusal.TheVariants.{Memory, ScriptShape}
use Rattle.cyc_script.specs.declared.context.Context.{Context}
use Rattle.cyc_script.specs.declared.object.Object.{Object}
use Rattle.cyc_script.specs.declared.part.Part.{Part}
use Rattle.cyc_script.specs.declared.step.Step.{Step}
use Rattle.cyc_script.specs.declared.stop.Stop.{Stop}
use Rattle.cyc_script.specs.declared.stop.Stop.TheVariants as stop
use Rattle.cyc_script.specs.Answers.{Answers, Fails}
use Rattle.cyc_script.specs.Parts.{data_of, plain_data}
use Rattle.cyc_script.specs.Script.{Content, content_of, has_keys, cpus_of, ceiling_of, values_of, within_limit, formed}
use Rattle.cyc_script.specs.Limits.{most_steps}
use Rattle.cyc_script.specs.Steps.{Fits, first_context, step_of, steps_of}
use Rattle.cyc_script.specs.WellFormed.{IsWellFormed}
use Rattle.cyc_script.specs.Words.{list_of, ◌>>=◌}

-- ---- values

-- the tokens begin with this value, and then the rest comes
abbrev pub BeginsWith : ℕ → List Token → Data → List Token → Type 0
BeginsWith depth tokens d rest = converted of_json (value depth tokens) ≡ Some (d, rest)

-- the tokens begin with these items and the bracket that closes them, and then the rest comes
abbrev pub BeginsItems : ℕ → List Token → Items → List Token → Type 0
BeginsItems depth tokens ds rest = converted of_items (items (value depth) (length tokens) tokens) ≡ Some (ds, rest)

-- the tokens begin with a value, and then the rest comes
abbrev pub HasValue : ℕ → List Token → List Token → Type 0
HasValue depth tokens rest = (d : Data) × BeginsWith depth tokens d rest

-- the tokens begin with the value of this part, and then the rest comes
abbrev pub HasPart : ℕ → List Token → Part → List Token → Type 0
HasPart depth tokens part rest = (d : Data) × BeginsWith depth tokens d rest × (data_of part ≡ plain_data d)

-- a token is a value by itself
abbrev pub is_leaf : declared.Token → Bool
is_leaf json.BeginObject = false
is_leaf json.EndObject = false
is_leaf json.BeginArray = false
is_leaf json.EndArray = false
is_leaf (json.Key s) = false
is_leaf (json.String s) = true
is_leaf (json.Number s) = is_some (number_of s.now)
is_leaf (json.Bool b) = true
is_leaf json.Null = true
is_leaf json.Bad = false

-- the tokens begin with items and the bracket that closes them, and then the rest comes; the items are at most so many, or more.
-- This is so at each bound on the items that lets all of them in
abbrev pub HasItems : ℕ → ℕ → List Token → Bool → List Token → Type 0
HasItems depth most tokens few rest = (n : ℕ) → length tokens ≤ n → (ds : Items)
    × (converted of_items (items (value depth) n tokens) ≡ Some (ds, rest))
    × MatchBool few (length (list_of ds) ≤ most) (most < length (list_of ds))

-- the tokens don't begin with items and the bracket that closes them
abbrev pub HasNoItems : ℕ → List Token → Type 0
HasNoItems depth tokens = (n : ℕ) → length tokens ≤ n → converted of_items (items (value depth) n tokens) ≡ None

-- the members that the tokens begin with, up to the brace that closes them, put to those before them
abbrev pub members_on : ℕ → ℕ → List Token → Members → Option (Members × List Token)
members_on depth turns tokens before = converted (λ ms. of_members ms before) (members (value depth) turns tokens)

-- the tokens begin with members and the brace that closes them, and then the rest comes
abbrev pub HasMembers : ℕ → List Token → List Token → Type 0
HasMembers depth tokens rest = (ms : Members) × (members_on depth (length tokens) tokens no_members ≡ Some (ms, rest))

-- ---- steps

-- the value of a step of these parts
abbrev pub step_data : List Part → Data
step_data parts = array (items_of (map data_of parts))

-- the value reads as the step of these parts does
abbrev pub ReadsAs : Data → List Part → Type 0
ReadsAs d parts = (before : Context) → step_of before (step_data parts) ≡ step_of before d

-- the tokens begin with a value that reads as the step of these parts does, and then the rest comes
abbrev pub HasParts : ℕ → List Token → List Part → List Token → Type 0
HasParts depth tokens parts rest = (d : Data) × BeginsWith depth tokens d rest × ReadsAs d parts

-- the same of the items of a step
abbrev pub HasItemsOf : ℕ → List Token → List Part → List Token → Type 0
HasItemsOf depth tokens parts rest = (ds : Items) × BeginsItems depth tokens ds rest × ReadsAs (array ds) parts

-- what the values of a script's steps read as: they are not too many, and then each is read in order
abbrev pub values_read : List Data → Result (List Step × List (List ℕ)) Refusal
values_read values = formed (within_limit values) >>= steps_of [] first_context

-- what so many values behind these steps read as: together they are not too many, and then each is read in order
abbrev pub values_on : List Step → Context → List Data → Result (List Step × List (List ℕ)) Refusal
values_on steps before values = if nat_le (length steps + length values) most_steps then steps_of steps before values
    else Err (ScriptShape 0)

-- with this refusal, or for lack of memory, the steps are refused of which these were read and the tokens have the others; then
-- the rest comes. This is so at each bound on the items that lets all of them in
abbrev pub RefusesOn : List Step → Context → List Token → List Token → Refusal → Type 0
RefusesOn steps before tokens rest refusal = (n : ℕ) → length tokens ≤ n
    → (ds : Items) × (converted of_items (items (value 125) n tokens) ≡ Some (ds, rest))
    × Fails Memory refusal (values_on steps before (list_of ds))

-- where so many steps may stand behind the present one, and another stands in its place: the refusal
abbrev pub IsRefusedStep : ℕ → Refusal → List Token → List Token → Refusal → Type 0
IsRefusedStep most refusal tokens rest refused =
    (few : Bool) × HasItems 125 most tokens few rest × (refused ≡ (if few then refusal else ScriptShape 0))

-- the tokens begin with a step that is read behind these
pub record ReadsStep (old new : List Token) (steps longer : List Step) (before after : Context) : Type 0 where
  pub written : Data
  pub step : Step
  pub few : length steps < most_steps
  pub begins : BeginsWith 125 old written new
  pub reads : step_of before written ≡ Ok (step, after)
  pub fits : Fits before step after
  pub pushed : longer ≡ steps ++ step ∷ []

-- what steps and names are, or why they are refused
abbrev pub steps_with : Option Refusal → List Step → List (List ℕ) → Result (List Step × List (List ℕ)) Refusal
steps_with None steps names = Ok (steps, names)
steps_with (Some refusal) steps names = Err refusal

-- they hold together, where they aren't refused
abbrev pub AreWhole : Result (List Step × List (List ℕ)) Refusal → Type 0
AreWhole read = IfOk read (λ r. IsWellFormed r.0 (length r.1))

-- the tokens begin with the items of steps that read as this, or memory ran out, and then the rest comes
abbrev pub HasSteps : List Token → Result (List Step × List (List ℕ)) Refusal → List Token → Type 0
HasSteps tokens read rest = (ds : Items) × BeginsItems 125 tokens ds rest × Answers (λ r. r) read (values_read (list_of ds))

-- ---- a script

-- the steps of an object, with their names, or why they are refused
abbrev pub steps_in : Object → Result (List Step × List (List ℕ)) Refusal
steps_in o = steps_with o.refusal o.steps.items o.context.names

-- what is known of a script's object with these members
pub record IsObject (o : Object) (ms : Members) : Type 0 where
  pub known : o.known ≡ has_keys (object ms)
  pub cpus : o.cpus ≡ cpus_of (object ms)
  pub ceiling : o.ceiling ≡ ceiling_of (object ms)
  pub steps : Answers (λ r. r) (steps_in o) (formed (values_of (object ms)) >>= steps_of [] first_context)
  pub whole : AreWhole (steps_in o)

-- the tokens begin with the value of the member of this key, after which this is known, and then the rest comes
abbrev pub HasMember : List ℕ → List Token → List Token → Object → Object → Type 0
HasMember key tokens rest before after = (d : Data) × BeginsWith 126 tokens d rest
    × ((ms : Members) → IsObject before ms → IsObject after (put key d ms))

-- the tokens begin with members of which this is known, and with the brace that closes them, and then the rest comes
abbrev pub HasObject : List Token → List Token → Object → Type 0
HasObject tokens rest o = (ms : Members) × (members_on 126 (length tokens) tokens no_members ≡ Some (ms, rest)) × IsObject o ms

-- ---- to the end of the text

-- what was read, where nothing is left
abbrev pub if_over : {A : Type 0} → A → List Token → Option A
if_over a [] = Some a
if_over a (t ∷ ts) = None

-- what was read to the end
abbrev pub ended : {A : Type 0} → Option (A × List Token) → Option A
ended read = option_and_then (λ p. if_over p.0 p.1) read

-- the value that the tokens are
abbrev pub data_in : List Token → Option Data
data_in tokens = ended (converted of_json (value 127 tokens))

-- the object that the tokens behind its brace are
abbrev pub object_in : List Token → Option Data
object_in tokens = ended (parse_map object (members_on 126 (length tokens) tokens no_members))

-- the script of what the JSON reader read
abbrev pub content_in : Result Data Refusal → Result Content Refusal
content_in json = json >>= content_of

-- ---- what the functions say

-- where nothing was read: this holds, for which the text is no JSON, or memory ran out
abbrev pub Denies : Type 0 → Stop → Type 0
Denies HasFault stop.NoJson = HasFault
Denies HasFault stop.Memory = ⊤
