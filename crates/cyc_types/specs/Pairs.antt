-- Lists whose elements go two by two.
use Rattle.std.specs.Prelude.{List, [], ◌∷◌}

-- two lists are of one length, and this holds of each two elements at one position
abbrev pub EachTwo : {A B : Type 0} → (A → B → Type 0) → List A → List B → Type 0
EachTwo P [] [] = Unit {0}
EachTwo P [] (y ∷ ys) = ⊥
EachTwo P (x ∷ xs) [] = ⊥
EachTwo P (x ∷ xs) (y ∷ ys) = P x y × EachTwo P xs ys
