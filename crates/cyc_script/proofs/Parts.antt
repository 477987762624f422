-- The items of a step, one more at a time.
use Rattle.std.proofs.Common.{◌≡◌, List, [], ◌∷◌, ◌++◌, Option, Some, None, refl, ap}
use Rattle.json.specs.Token.{Token}
use Rattle.json.specs.Json.{parse_map}
use Rattle.serde_json.specs.Data.{Data, Items, no_items, item}
use Rattle.serde_json.specs.View.{items_of}

abbrev pub items_before : List Data → Items → Items
items_before [] rest = rest
items_before (d ∷ ds) rest = item d (items_before ds rest)

pub items_all : (front : List Data) → items_before front no_items ≡ items_of front
items_all [] = refl
items_all (d ∷ ds) = ap (item d) (items_all ds)

items_pushed : (front : List Data) (d : Data) (rest : Items)
    → items_before front (item d rest) ≡ items_before (front ++ d ∷ []) rest
items_pushed [] d rest = refl
items_pushed (first ∷ front) d rest = ap (item first) (items_pushed front d rest)

pub one_more_item : (front : List Data) (d : Data) (read : Option (Items × List Token))
    → parse_map (items_before front) (parse_map (item d) read) ≡ parse_map (items_before (front ++ d ∷ [])) read
one_more_item front d None = refl
one_more_item front d (Some p) = ap (λ ds. Some (ds, p.1)) (items_pushed front d p.0)

pub none_before : (read : Option (Items × List Token)) → read ≡ parse_map (λ ds. ds) read
none_before None = refl
none_before (Some p) = refl
