-- One write after another.
use Rattle.std.proofs.Common.{◌≡◌, ℕ, List, [], ◌++◌, Option, Some, None, Result, Ok, Err, refl, ap, sym, ◌∙◌, append_assoc}
use Rattle.std.proofs.Common.{append-nil}
use Rattle.std.specs.Io.KnownBytes.{Appends}
use Rattle.std.proofs.KnownBytes.{Appends-trans}
use Rattle.cyc_text.specs.Puts.{AppendsPrefix, Puts}

pub prefix_more : (old mid new : Option (List ℕ)) (a b : List ℕ) → Appends old mid a → AppendsPrefix mid new b
    → AppendsPrefix old new (a ++ b)
prefix_more old mid new a b p (prefix, rest, split, q) =
    (a ++ prefix, rest, ap (λ l. a ++ l) split ∙ sym (append_assoc a prefix rest), Appends-trans old mid new a prefix p q)

-- what follows a whole write
pub more : {A E : Type 0} (old mid new : Option (List ℕ)) (r : Result A E) (a b : List ℕ) → Appends old mid a → Puts mid new r b
    → Puts old new r (a ++ b)
more old mid new (Ok x) a b p q = Appends-trans old mid new a b p q
more old mid new (Err e) a b p q = prefix_more old mid new a b p q

-- a prefix of the first text is a prefix of both
pub stops : (old new : Option (List ℕ)) (a b : List ℕ) → AppendsPrefix old new a → AppendsPrefix old new (a ++ b)
stops old new a b (prefix, rest, split, q) = (prefix, rest ++ b, ap (λ l. l ++ b) split ∙ append_assoc prefix rest b, q)

-- nothing written is a prefix of any text
pub nothing : (old : Option (List ℕ)) (text : List ℕ) → AppendsPrefix old old text
nothing None text = ([], text, refl, tt)
nothing (Some xs) text = ([], text, refl, sym (append-nil xs))

-- a piece more of a text that is written in pieces
pub turn : (old mid new : Option (List ℕ)) (all done rest piece others : List ℕ) → all ≡ done ++ rest → rest ≡ piece ++ others
    → Appends old mid done → Appends mid new piece → (x : List ℕ) × (all ≡ x ++ others) × Appends old new x
turn old mid new all done rest piece others split next p q = (
  done ++ piece,
  split ∙ ap (λ l. done ++ l) next
      ∙ sym (append_assoc done piece others),
  Appends-trans old mid new done piece p q,
)

-- a piece that was not written whole
pub broke : (old mid new : Option (List ℕ)) (all done rest piece others : List ℕ) → all ≡ done ++ rest → rest ≡ piece ++ others
    → Appends old mid done → AppendsPrefix mid new piece → AppendsPrefix old new all
broke old mid new all done rest piece others split next p q =
    rw (split, next) (prefix_more old mid new done (piece ++ others) p (stops mid new piece others q))
