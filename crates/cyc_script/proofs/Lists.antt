-- The items of an array as a list, and texts.
use Rattle.std.proofs.Common.{◌≡◌, ℕ, List, [], ◌∷◌, length, true, eq-eqb, refl, ap}
use Rattle.std.specs.Str.{IsUtf8}
use Rattle.std.specs.Str.Lossy.{utf8_valid_len}
use Rattle.std.proofs.lemmas.Str.{utf8_valid_len-IsUtf8}
use Rattle.serde_json.specs.Data.{Data}
use Rattle.serde_json.specs.View.{items_of}
use Rattle.cyc_script.specs.Script.{is_utf8}
use Rattle.cyc_script.specs.Words.{list_of}

pub list_of_items_of : (ds : List Data) → list_of (items_of ds) ≡ ds
list_of_items_of [] = refl
list_of_items_of (d ∷ ds) = ap (λ xs. d ∷ xs) (list_of_items_of ds)

pub is_utf8_text : (bytes : List ℕ) → IsUtf8 bytes → is_utf8 bytes ≡ true
is_utf8_text bytes u = eq-eqb (utf8_valid_len bytes) (length bytes) (utf8_valid_len-IsUtf8 bytes u)
