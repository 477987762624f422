-- What the tokens of a text say: the grammar's loops, a turn at a time, under the conversion to data.
use Rattle.std.proofs.Common.{◌≡◌, ℕ, zero, suc, ◌-◌, ◌<◌, ◌≤◌, List, [], ◌∷◌, length, Option, Some, None, refl, ap, ◌∙◌}
use Rattle.std.proofs.Common.{arith}
use Rattle.std.specs.Prelude.{option_map}
use Rattle.json.specs.Token.{Token}
use Rattle.json.specs.Json as json
use Rattle.json.specs.Json.{Parse, parse_map, after_end_array, read_key, items, members, value}
use Rattle.json.proofs.Grammar.{items_end, items_fail, items_more, members_end, members_fail, members_more, members_no_key}
use Rattle.json.proofs.Grammar.{value_is, value-begin_array, value-begin_object}
use Rattle.json.proofs.Grammar.{skip_value-shorter, left}
use Rattle.serde_json.specs.Data.{Data, array, object, Items, no_items, item, Members, no_members, put}
use Rattle.serde_json.specs.Read.{of_json, of_items, of_members, converted}
use Rattle.cyc_script.specs.Tokens.{ended}

-- ---- what was converted

abbrev pick : {A : Type 0} → A → Option A → A
pick d None = d
pick d (Some a) = a

found : {A B : Type 0} (a : A) (r s : List Token) (x : Option B) (b : B)
    → option_map {U = B × List Token} (λ y. (y, r)) x ≡ Some (b, s) → (r ≡ s) × (x ≡ Some b)
found a r s None b e = absurd (cc)
found a r s (Some y) b e = let same = ap (pick (y, r)) e in (ap (λ p. p.1) same, ap (λ p. Some p.0) same)

pub converted_some : {A B : Type 0} (f : A → Option B) (o : Option (A × List Token)) (b : B) (r : List Token)
    → converted f o ≡ Some (b, r) → (a : A) × (o ≡ Some (a, r)) × (f a ≡ Some b)
converted_some f None b r e = absurd (cc)
converted_some f (Some p) b r e = let both = found p.0 p.1 r (f p.0) b e in (p.0, ap (λ s. Some (p.0, s)) both.0, both.1)

twice : {A B : Type 0} (g : A → B) (r : List Token) (x : Option A)
    → option_map (λ b. (b, r)) (option_map g x) ≡ parse_map g (option_map (λ a. (a, r)) x)
twice g r None = refl
twice g r (Some a) = refl

pub converted_array : (o : Option (json.Items × List Token))
    → converted of_json (parse_map json.array o) ≡ parse_map array (converted of_items o)
converted_array None = refl
converted_array (Some p) = twice array p.1 (of_items p.0)

pub converted_object : (o : Option (json.Members × List Token))
    → converted of_json (parse_map json.object o) ≡ parse_map object (converted (λ ms. of_members ms no_members) o)
converted_object None = refl
converted_object (Some p) = twice object p.1 (of_members p.0 no_members)

with_item : (j : json.Json) (d : Data) → of_json j ≡ Some d → (o : Option (json.Items × List Token))
    → converted of_items (parse_map (json.item j) o) ≡ parse_map (item d) (converted of_items o)
with_item j d e None = refl
with_item j d e (Some p) = rw e (twice (item d) p.1 (of_items p.0))

with_member : (k : List ℕ) (j : json.Json) (d : Data) (old : Members) → of_json j ≡ Some d
    → (o : Option (json.Members × List Token)) → converted (λ ms. of_members ms old) (parse_map (json.member k j) o)
    ≡ converted (λ ms. of_members ms (put k d old)) o
with_member k j d old e None = refl
with_member k j d old e (Some p) = rw e

-- ---- a turn

module _ (p : Parse json.Json) where
  pub item_read : (n : ℕ) (ts r : List Token) (d : Data) → 0 < n → after_end_array ts ≡ None
      → converted of_json (p ts) ≡ Some (d, r)
      → converted of_items (items p n ts) ≡ parse_map (item d) (converted of_items (items p (n - 1) r))
  item_read n ts r d some going e =
      let j = converted_some of_json (p ts) d r e in
      ap (converted of_items) (items_more p n ts r j.0 some going j.1) ∙ with_item j.0 d j.2 _

  pub items_over : (n : ℕ) (ts r : List Token) → length ts ≤ n → after_end_array ts ≡ Some r
      → converted of_items (items p n ts) ≡ Some (no_items, r)
  items_over n ts r enough e = ap (converted of_items) (items_end p n ts r enough e)

  module _ (old : Members) where
    pub member_read : (n : ℕ) (k : List ℕ) (ts s r : List Token) (d : Data) → 0 < n → read_key ts ≡ Some (Some k, s)
        → converted of_json (p s) ≡ Some (d, r)
        → converted (λ ms. of_members ms old) (members p n ts)
        ≡ converted (λ ms. of_members ms (put k d old)) (members p (n - 1) r)
    member_read n k ts s r d some key e =
        let j = converted_some of_json (p s) d r e in
        ap (converted (λ ms. of_members ms old)) (members_more p n k ts s r j.0 some key j.1) ∙ with_member k j.0 d old j.2 _

    pub members_over : (n : ℕ) (ts r : List Token) → length ts ≤ n → read_key ts ≡ Some (None, r)
        → converted (λ ms. of_members ms old) (members p n ts) ≡ Some (old, r)
    members_over n ts r enough e = ap (converted (λ ms. of_members ms old)) (members_end p n ts r enough e)

-- ---- a turn that fails

no_value : {A : Type 0} (r : List Token) (x : Option A) → option_map {U = A × List Token} (λ y. (y, r)) x ≡ None → x ≡ None
no_value r None e = refl
no_value r (Some y) e = absurd (cc)

without_item : (j : json.Json) → of_json j ≡ None → (o : Option (json.Items × List Token))
    → converted of_items (parse_map (json.item j) o) ≡ None
without_item j e None = refl
without_item j e (Some p) = rw e refl

without_member : (k : List ℕ) (j : json.Json) (old : Members) → of_json j ≡ None → (o : Option (json.Members × List Token))
    → converted (λ ms. of_members ms old) (parse_map (json.member k j) o) ≡ None
without_member k j old e None = refl
without_member k j old e (Some p) = rw e refl

module _ (p : Parse json.Json) where
  item_none_at : (n : ℕ) (ts : List Token) (o : Option (json.Json × List Token)) → after_end_array ts ≡ None → p ts ≡ o
      → converted of_json o ≡ None → converted of_items (items p n ts) ≡ None
  unfolding items
  item_none_at n ts None going is e = ap (converted of_items) (items_fail p n ts going is)
  item_none_at zero ts (Some (j, r)) going is e = refl
  item_none_at (suc n) ts (Some (j, r)) going is e =
      ap (converted of_items) (items_more p (suc n) ts r j (omega arith) going is)
      ∙ without_item j (no_value r (of_json j) e) (items p (suc n - 1) r)

  pub item_none : (n : ℕ) (ts : List Token) → after_end_array ts ≡ None → converted of_json (p ts) ≡ None
      → converted of_items (items p n ts) ≡ None
  item_none n ts going e = item_none_at n ts (p ts) going refl e

  module _ (old : Members) where
    member_none_at : (n : ℕ) (k : List ℕ) (ts s : List Token) (o : Option (json.Json × List Token))
        → read_key ts ≡ Some (Some k, s) → p s ≡ o → converted of_json o ≡ None
        → converted (λ ms. of_members ms old) (members p n ts) ≡ None
    unfolding members
    member_none_at n k ts s None key is e = ap (converted (λ ms. of_members ms old)) (members_fail p n k ts s key is)
    member_none_at zero k ts s (Some (j, r)) key is e = refl
    member_none_at (suc n) k ts s (Some (j, r)) key is e =
        ap (converted (λ ms. of_members ms old)) (members_more p (suc n) k ts s r j (omega arith) key is)
        ∙ without_member k j old (no_value r (of_json j) e) (members p (suc n - 1) r)

    pub member_none : (n : ℕ) (k : List ℕ) (ts s : List Token) → read_key ts ≡ Some (Some k, s)
        → converted of_json (p s) ≡ None → converted (λ ms. of_members ms old) (members p n ts) ≡ None
    member_none n k ts s key e = member_none_at n k ts s (p s) key refl e

    pub key_none : (n : ℕ) (ts : List Token) → read_key ts ≡ None
        → converted (λ ms. of_members ms old) (members p n ts) ≡ None
    key_none n ts key = ap (converted (λ ms. of_members ms old)) (members_no_key p n ts key)

-- a value takes a token at least
pub shorter : (depth : ℕ) (ts r : List Token) (d : Data) → converted of_json (value depth ts) ≡ Some (d, r) → length r < length ts
shorter depth ts r d e = let j = converted_some of_json (value depth ts) d r e in skip_value-shorter depth ts r (ap left j.1)

-- an object whose members are these
pub object_read : (depth : ℕ) (ts : List Token) → 0 < depth → converted of_json (value depth (Token.begin_object ∷ ts))
    ≡ parse_map object (converted (λ ms. of_members ms no_members) (members (value (depth - 1)) (length ts) ts))
object_read depth ts some = ap (converted of_json) (value-begin_object depth ts some)
    ∙ converted_object (members (value (depth - 1)) (length ts) ts)

-- an array whose items are these
pub array_read : (depth : ℕ) (ts r : List Token) (ds : Items) → 0 < depth
    → converted of_items (items (value (depth - 1)) (length ts) ts) ≡ Some (ds, r)
    → converted of_json (value depth (Token.begin_array ∷ ts)) ≡ Some (array ds, r)
array_read depth ts r ds some e = ap (converted of_json) (value-begin_array depth ts some)
    ∙ converted_array (items (value (depth - 1)) (length ts) ts) ∙ ap (parse_map array) e

-- an array whose items are none
pub array_none : (depth : ℕ) (ts : List Token) → 0 < depth
    → converted of_items (items (value (depth - 1)) (length ts) ts) ≡ None
    → converted of_json (value depth (Token.begin_array ∷ ts)) ≡ None
array_none depth ts some e = ap (converted of_json) (value-begin_array depth ts some)
    ∙ converted_array (items (value (depth - 1)) (length ts) ts) ∙ ap (parse_map array) e

pub nothing_read : (depth : ℕ) → converted of_json (value depth []) ≡ None
nothing_read depth = ap (converted of_json) (value_is depth [])

-- nothing nests in a value that may not nest
pub array_flat : (ts : List Token) → value 0 (Token.begin_array ∷ ts) ≡ None
unfolding value
array_flat ts = refl

pub object_flat : (ts : List Token) → value 0 (Token.begin_object ∷ ts) ≡ None
unfolding value
object_flat ts = refl

pub number_read : (depth : ℕ) (s : List ℕ) (r : List Token) → value depth (Token.number s ∷ r) ≡ Some (json.number s, r)
number_read depth s r = value_is depth _

-- ---- the whole text

last : (x : Option Data) → ended (option_map {U = Data × List Token} (λ d. (d, [])) x) ≡ x
last None = refl
last (Some d) = refl
