-- Lists of acts and of events, one after the other.
use Rattle.std.proofs.Common.{◌≡◌, ℕ, ◌+◌, List, [], ◌∷◌, ◌++◌, refl, ap, sym, ◌∙◌, arith}
use Rattle.std.proofs.lemmas.List.{append_assoc}
use Rattle.cyc_types.specs.declared.level.Soft.{Soft}
use Rattle.cyc_level.specs.declared.Event.{Event}
use Rattle.cyc_level.specs.Level.{SoftLevel}
use Rattle.cyc_level.specs.Events.{after}
use Rattle.cyc_model.specs.Acts.{Act, event_at, events_at, calls_of}
use Rattle.cyc_model.specs.Serving.{level_after}

pub level_append : (xs ys : List Event) (l : SoftLevel) → level_after (xs ++ ys) l ≡ level_after ys (level_after xs l)
level_append [] ys l = refl
level_append (x ∷ xs) ys l = level_append xs ys (after x l)

pub events_append : (n : ℕ) (soft : Soft) (xs ys : List Act) → events_at n soft (xs ++ ys)
    ≡ events_at n soft xs ++ events_at n soft ys
events_append n soft [] ys = refl
events_append n soft (x ∷ xs) ys =
    ap (λ es. event_at n soft x ++ es) (events_append n soft xs ys)
    ∙ sym (append_assoc (event_at n soft x) (events_at n soft xs) (events_at n soft ys))

pub zero_first : (n : ℕ) → n ≡ 0 + n
zero_first n = omega arith

pub calls_append : (id : ℕ) (xs ys : List Act) → calls_of id (xs ++ ys) ≡ calls_of id xs + calls_of id ys
calls_append id [] ys = zero_first (calls_of id ys)
calls_append id (x ∷ xs) ys = let h = calls_append id xs ys in omega (arith, h)
