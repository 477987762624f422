-- Of which kind the value is that begins with a token.
use Rattle.std.proofs.Common.{◌≡◌, ℕ, zero, suc, ◌-◌, List, ◌∷◌, length, arith, Option, Some, None, true, false}
use Rattle.std.proofs.Common.{refl, ap, sym, ◌∙◌}
use Rattle.std.specs.Prelude.{is_some, option_map, MatchResult, Result, Ok, Err}
use Rattle.json.specs.Token.{Token}
use Rattle.json.specs.declared.token.Token as declared
use Rattle.json.specs.declared.token.Token.TheVariants as token
use Rattle.json.specs.Json.{parse_map, value}
use Rattle.json.specs.Reads.{token_of}
use Rattle.json.specs.Json as json
use Rattle.json.proofs.Grammar.{value-begin_array, value-begin_object, value_is}
use Rattle.serde_json.specs.Data.{Num, Data, Items, Members, no_members, null, boolean, number, string, array, object}
use Rattle.serde_json.specs.Find.{as_array}
use Rattle.serde_json.specs.Read.{of_items, of_json, of_members, converted, number_of}
use Rattle.json.specs.declared.reader.Invalid.{Invalid}
use Rattle.cyc_script.specs.declared.part.Part.{Part}
use Rattle.cyc_script.specs.Parts.{IsNumberPart, plain_data}
use Rattle.cyc_script.specs.Script.{has_keys}
use Rattle.cyc_script.specs.Tokens.{BeginsWith, HasPart, HasValue, is_leaf}
use Rattle.cyc_script.proofs.Grammar.{array_flat, converted_array, converted_object, object_flat}

abbrev pub Kind : declared.Token → Data → Type 0
Kind token.BeginObject d = (ms : Members) × (d ≡ object ms)
Kind token.EndObject d = ⊥
Kind token.BeginArray d = (ds : Items) × (d ≡ array ds)
Kind token.EndArray d = ⊥
Kind (token.Key s) d = ⊥
Kind (token.String s) d = d ≡ string s.now
Kind (token.Number s) d = (n : Num) × (d ≡ number n)
Kind (token.Bool b) d = d ≡ boolean b
Kind token.Null d = d ≡ null
Kind token.Bad d = ⊥

mapped : {A : Type 0} (f : A → Data) (o : Option (A × List Token)) (d : Data) (r : List Token)
    → parse_map f o ≡ Some (d, r) → (a : A) × (d ≡ f a)
mapped f None d r e = absurd (cc)
mapped f (Some p) d r e = (p.0, sym (ap first e)) where
  first : Option (Data × List Token) → Data
  first None = f p.0
  first (Some q) = q.0

only : (c d : Data) (s r : List Token) → ◌≡◌ {A = Option (Data × List Token)} (Some (c, s)) (Some (d, r)) → d ≡ c
only c d s r e = sym (ap first e) where
  first : Option (Data × List Token) → Data
  first None = c
  first (Some q) = q.0

numbered : (o : Option Num) (d : Data) (s r : List Token)
    → option_map {U = Data × List Token} (λ b. (b, s)) (option_map number o) ≡ Some (d, r) → (n : Num) × (d ≡ number n)
numbered None d s r e = absurd (cc)
numbered (Some n) d s r e = (n, only (number n) d s r e)

array_data : (o : Option (json.Items × List Token)) (d : Data) (r : List Token)
    → converted of_json (parse_map json.array o) ≡ Some (d, r) → (ds : Items) × (d ≡ array ds)
array_data o d r e = mapped array (converted of_items o) d r (sym (converted_array o) ∙ e)

array_kind : (depth : ℕ) (ts r : List Token) (d : Data) → BeginsWith depth (Token.begin_array ∷ ts) d r
    → (ds : Items) × (d ≡ array ds)
array_kind zero ts r d e = let f = sym (ap (converted of_json) (array_flat ts)) ∙ e in absurd (cc)
array_kind (suc k) ts r d e = array_data (json.items (value (suc k - 1)) (length ts) ts) d r
    (sym (ap (converted of_json) (value-begin_array (suc k) ts (omega arith))) ∙ e)

object_data : (o : Option (json.Members × List Token)) (d : Data) (r : List Token)
    → converted of_json (parse_map json.object o) ≡ Some (d, r) → (ms : Members) × (d ≡ object ms)
object_data o d r e = mapped object (converted (λ ms. of_members ms no_members) o) d r (sym (converted_object o) ∙ e)

object_kind : (depth : ℕ) (ts r : List Token) (d : Data) → BeginsWith depth (Token.begin_object ∷ ts) d r
    → (ms : Members) × (d ≡ object ms)
object_kind zero ts r d e = let f = sym (ap (converted of_json) (object_flat ts)) ∙ e in absurd (cc)
object_kind (suc k) ts r d e = object_data (json.members (value (suc k - 1)) (length ts) ts) d r
    (sym (ap (converted of_json) (value-begin_object (suc k) ts (omega arith))) ∙ e)

pub kind_of : (next : declared.Token) (depth : ℕ) (ts r : List Token) (d : Data) → BeginsWith depth (token_of next ∷ ts) d r
    → Kind next d
kind_of token.BeginObject depth ts r d e = object_kind depth ts r d e
kind_of token.EndObject depth ts r d e =
    let f = sym (ap (converted of_json) (value_is depth (Token.end_object ∷ ts))) ∙ e in absurd (cc)
kind_of token.BeginArray depth ts r d e = array_kind depth ts r d e
kind_of token.EndArray depth ts r d e =
    let f = sym (ap (converted of_json) (value_is depth (Token.end_array ∷ ts))) ∙ e in absurd (cc)
kind_of (token.Key s) depth ts r d e =
    let f = sym (ap (converted of_json) (value_is depth (Token.key s.now ∷ ts))) ∙ e in absurd (cc)
kind_of (token.String s) depth ts r d e =
    only (string s.now) d ts r (sym (ap (converted of_json) (value_is depth (Token.string s.now ∷ ts))) ∙ e)
kind_of (token.Number s) depth ts r d e =
    numbered (number_of s.now) d ts r (sym (ap (converted of_json) (value_is depth (Token.number s.now ∷ ts))) ∙ e)
kind_of (token.Bool b) depth ts r d e =
    only (boolean b) d ts r (sym (ap (converted of_json) (value_is depth (Token.boolean b ∷ ts))) ∙ e)
kind_of token.Null depth ts r d e =
    only null d ts r (sym (ap (converted of_json) (value_is depth (Token.null ∷ ts))) ∙ e)
kind_of token.Bad depth ts r d e =
    let f = sym (ap (converted of_json) (value_is depth (Token.bad ∷ ts))) ∙ e in absurd (cc)

pub not_array : (next : declared.Token) (d : Data) → ¬ (next ≡ token.BeginArray) → Kind next d → as_array d ≡ None
not_array token.BeginObject d other kind = ap as_array kind.1
not_array token.EndObject d other kind = absurd kind
not_array token.BeginArray d other kind = absurd (other refl)
not_array token.EndArray d other kind = absurd kind
not_array (token.Key s) d other kind = absurd kind
not_array (token.String s) d other kind = ap as_array kind
not_array (token.Number s) d other kind = ap as_array kind.1
not_array (token.Bool b) d other kind = ap as_array kind
not_array token.Null d other kind = ap as_array kind
not_array token.Bad d other kind = absurd kind

pub not_object : (next : declared.Token) (d : Data) → ¬ (next ≡ token.BeginObject) → Kind next d
    → has_keys d ≡ false
unfolding has_keys
not_object token.BeginObject d other kind = absurd (other refl)
not_object token.EndObject d other kind = absurd kind
not_object token.BeginArray d other kind = ap has_keys kind.1
not_object token.EndArray d other kind = absurd kind
not_object (token.Key s) d other kind = absurd kind
not_object (token.String s) d other kind = ap has_keys kind
not_object (token.Number s) d other kind = ap has_keys kind.1
not_object (token.Bool b) d other kind = ap has_keys kind
not_object token.Null d other kind = ap has_keys kind
not_object token.Bad d other kind = absurd kind

pub not_plain : (next : declared.Token) (d : Data) → ((s : _) → ¬ (next ≡ token.String s))
    → ((s : _) → ¬ (next ≡ token.Number s)) → Kind next d → null ≡ plain_data d
not_plain token.BeginObject d no_text no_number kind = sym (ap plain_data kind.1)
not_plain token.EndObject d no_text no_number kind = absurd kind
not_plain token.BeginArray d no_text no_number kind = sym (ap plain_data kind.1)
not_plain token.EndArray d no_text no_number kind = absurd kind
not_plain (token.Key s) d no_text no_number kind = absurd kind
not_plain (token.String s) d no_text no_number kind = absurd (no_text s refl)
not_plain (token.Number s) d no_text no_number kind = absurd (no_number s refl)
not_plain (token.Bool b) d no_text no_number kind = sym (ap plain_data kind)
not_plain token.Null d no_text no_number kind = sym (ap plain_data kind)
not_plain token.Bad d no_text no_number kind = absurd kind

number_leaf : (o : Option Num) (ts : List Token) → is_some o ≡ true
    → (d : Data) × (option_map {U = Data × List Token} (λ b. (b, ts)) (option_map number o) ≡ Some (d, ts))
number_leaf None ts e = absurd (cc)
number_leaf (Some n) ts e = (number n, refl)

no_number_leaf : (o : Option Num) (ts : List Token) → is_some o ≡ false
    → option_map {U = Data × List Token} (λ b. (b, ts)) (option_map number o) ≡ None
no_number_leaf None ts e = refl
no_number_leaf (Some n) ts e = absurd (cc)

pub leaf_read : (t : declared.Token) (depth : ℕ) (ts : List Token) → is_leaf t ≡ true → HasValue depth (token_of t ∷ ts) ts
leaf_read token.BeginObject depth ts e = absurd (cc)
leaf_read token.EndObject depth ts e = absurd (cc)
leaf_read token.BeginArray depth ts e = absurd (cc)
leaf_read token.EndArray depth ts e = absurd (cc)
leaf_read (token.Key s) depth ts e = absurd (cc)
leaf_read (token.String s) depth ts e = (string s.now, ap (converted of_json) (value_is depth (Token.string s.now ∷ ts)))
leaf_read (token.Number s) depth ts e = let is = number_leaf (number_of s.now) ts e in
    (is.0, ap (converted of_json) (value_is depth (Token.number s.now ∷ ts)) ∙ is.1)
leaf_read (token.Bool b) depth ts e = (boolean b, ap (converted of_json) (value_is depth (Token.boolean b ∷ ts)))
leaf_read token.Null depth ts e = (null, ap (converted of_json) (value_is depth (Token.null ∷ ts)))
leaf_read token.Bad depth ts e = absurd (cc)

pub none_read : (t : declared.Token) (depth : ℕ) (ts : List Token) → ¬ (t ≡ token.BeginArray) → ¬ (t ≡ token.BeginObject)
    → is_leaf t ≡ false → converted of_json (value depth (token_of t ∷ ts)) ≡ None
none_read token.BeginObject depth ts no_array no_object e = absurd (no_object refl)
none_read token.EndObject depth ts no_array no_object e = ap (converted of_json) (value_is depth (Token.end_object ∷ ts))
none_read token.BeginArray depth ts no_array no_object e = absurd (no_array refl)
none_read token.EndArray depth ts no_array no_object e = ap (converted of_json) (value_is depth (Token.end_array ∷ ts))
none_read (token.Key s) depth ts no_array no_object e = ap (converted of_json) (value_is depth (Token.key s.now ∷ ts))
none_read (token.String s) depth ts no_array no_object e = absurd (cc)
none_read (token.Number s) depth ts no_array no_object e =
    ap (converted of_json) (value_is depth (Token.number s.now ∷ ts)) ∙ no_number_leaf (number_of s.now) ts e
none_read (token.Bool b) depth ts no_array no_object e = absurd (cc)
none_read token.Null depth ts no_array no_object e = absurd (cc)
none_read token.Bad depth ts no_array no_object e = ap (converted of_json) (value_is depth (Token.bad ∷ ts))

-- ---- parts

pub text_part : (depth : ℕ) (s : List ℕ) (ts : List Token)
    → (d : Data) × BeginsWith depth (Token.string s ∷ ts) d ts × (string s ≡ plain_data d)
text_part depth s ts = (string s, ap (converted of_json) (value_is depth (Token.string s ∷ ts)), refl)

number_read : (depth : ℕ) (s : List ℕ) (ts : List Token) (n : Num) → number_of s ≡ Some n
    → BeginsWith depth (Token.number s ∷ ts) (number n) ts
number_read depth s ts n e = ap (converted of_json) (value_is depth (Token.number s ∷ ts)) ∙ rw e refl

no_number_read : (depth : ℕ) (s : List ℕ) (ts : List Token) → number_of s ≡ None
    → converted of_json (value depth (Token.number s ∷ ts)) ≡ None
no_number_read depth s ts e = ap (converted of_json) (value_is depth (Token.number s ∷ ts)) ∙ rw e refl

pub number_has_part : (depth : ℕ) (s : List ℕ) (ts : List Token) (r : Result Part Invalid)
    → MatchResult r (λ part. IsNumberPart s part) (λ _. number_of s ≡ None)
    → MatchResult r (λ part. HasPart depth (Token.number s ∷ ts) part ts)
    (λ _. converted of_json (value depth (Token.number s ∷ ts)) ≡ None)
number_has_part depth s ts (Ok part) is = (number is.0, number_read depth s ts is.0 is.1, is.2)
number_has_part depth s ts (Err e) is = no_number_read depth s ts is

-- ---- objects

pub object_has : (r : Result Unit Invalid) (read : Option (Members × List Token)) (rest : List Token)
    (whole : Option (Data × List Token)) → whole ≡ parse_map object read
    → MatchResult r (λ _. (ms : Members) × (read ≡ Some (ms, rest))) (λ _. read ≡ None)
    → MatchResult r (λ _. (d : Data) × (whole ≡ Some (d, rest))) (λ _. whole ≡ None)
object_has (Ok u) read rest whole is has = (object has.0, is ∙ ap (parse_map object) has.1)
object_has (Err e) read rest whole is none = is ∙ ap (parse_map object) none
