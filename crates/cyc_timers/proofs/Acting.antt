-- Lemmas on acts: none, one, and one after others.
use Rattle.std.proofs.Common.{◌≡◌, ℕ, ◌+◌, List, [], ◌∷◌, ◌++◌, refl, sym, ap, subst, arith}
use Rattle.std.specs.List.{FoldsTo}
use Rattle.cyc_types.specs.Counting.{times}
use Rattle.cyc_types.specs.declared.Raise.{Ghosts as Raise}
use Rattle.cyc_types.specs.Firing.{FiringCall, Raises}
use Rattle.cyc_types.specs.declared.level.Level.{Level}
use Rattle.cyc_types.specs.declared.level.Level.TheVariants.{Low, Lock, High}
use Rattle.cyc_types.proofs.Runs.{folds_on, times_on, goes_on}
use Rattle.cyc_timers.specs.Acts.{Sides, Acts, RaisedOnce, AreRaises, way_losses, id_at_level, acting}

raises_on : (xs ys : List ℕ) (way more : List FiringCall) → AreRaises xs way → AreRaises ys more
    → AreRaises (xs ++ ys) (way ++ more)
raises_on [] ys [] more a b = b
raises_on [] ys (call ∷ way) more a b = absurd a
raises_on (x ∷ xs) ys [] more a b = absurd a
raises_on (x ∷ xs) ys (call ∷ way) more a b = (a.0, raises_on xs ys way more a.1 b)

pub losses_on : (way more : List FiringCall) → way_losses (way ++ more) ≡ way_losses way + way_losses more
losses_on [] more = omega arith
losses_on (call ∷ way) more = omega (arith, losses_on way more)

module _ {C R : Type 0} (called : C → ℕ → C → Type 0) (count : C → ℕ → ℕ) (firing : Raise R) where
  pub acts_more : (hs ks ws hs' ks' ws' hs'' ks'' ws'' : List ℕ) (s m t : Sides C R)
      (a : Acts (acting called count firing) hs ks ws s m) (b : Acts (acting called count firing) hs' ks' ws' m t) →
      hs'' ≡ hs ++ hs' → ks'' ≡ ks ++ ks' → ws'' ≡ ws ++ ws' →
      (c : Acts (acting called count firing) hs'' ks'' ws'' s t) × (c.lock_way ≡ a.lock_way ++ b.lock_way)
      × (c.low_way ≡ a.low_way ++ b.low_way)
  acts_more hs ks ws hs' ks' ws' hs'' ks'' ws'' s m t a b e f g = (
    record {
      lock_way = a.lock_way ++ b.lock_way;
      low_way = a.low_way ++ b.low_way;
      called_in_order = subst (λ xs. FoldsTo called s.calls xs t.calls) (sym e)
          (folds_on called s.calls hs m.calls hs' t.calls a.called_in_order b.called_in_order);
      counted = λ id. (let x = a.counted id in let y = b.counted id in let z = times_on id hs hs' in let w = ap (times id) e in
          omega (arith, x, y, z, w));
      lock_goes = goes_on firing s.lock m.lock t.lock a.lock_way b.lock_way a.lock_goes b.lock_goes;
      low_goes = goes_on firing s.low m.low t.low a.low_way b.low_way a.low_goes b.low_goes;
      lock_raises = subst (λ xs. AreRaises xs (a.lock_way ++ b.lock_way)) (sym f)
          (raises_on ks ks' a.lock_way b.lock_way a.lock_raises b.lock_raises);
      low_raises = subst (λ xs. AreRaises xs (a.low_way ++ b.low_way)) (sym g)
          (raises_on ws ws' a.low_way b.low_way a.low_raises b.low_raises);
    },
    refl,
    refl,
  )

  pub act_high : (id : ℕ) (c c' : C) (k w : R) → called c id c' → ((q : ℕ) → count c' q ≡ count c q + times q (id ∷ [])) →
      (a : Acts (acting called count firing) (id ∷ []) [] [] (record { calls = c; lock = k; low = w }) (record {
        calls = c';
        lock = k;
        low = w;
      })) × (0 ≡ way_losses a.lock_way + way_losses a.low_way)
  act_high id c c' k w h n = (
    record {
      lock_way = [];
      low_way = [];
      called_in_order = (c', h, refl);
      counted = n;
      lock_goes =
          refl;
      low_goes = refl;
      lock_raises = tt;
      low_raises = tt;
    },
    omega arith,
  )

  pub act_lock : (id : ℕ) (c : C) (k k' w : R) (n : ℕ) → RaisedOnce firing id k k' n →
      (a : Acts (acting called count firing) [] (id ∷ []) [] (record { calls = c; lock = k; low = w }) (record {
        calls = c;
        lock = k';
        low = w;
      })) × (n ≡ way_losses a.lock_way + way_losses a.low_way)
  act_lock id c k k' w n (answer, taught, is) = (
    record {
      lock_way = Raises id answer ∷ [];
      low_way = [];
      called_in_order = refl;
      counted = λ q. omega arith;
      lock_goes = (k', taught, refl);
      low_goes = refl;
      lock_raises = (refl, tt);
      low_raises = tt;
    },
    omega (arith, is),
  )

  pub act_low : (id : ℕ) (c : C) (k w w' : R) (n : ℕ) → RaisedOnce firing id w w' n →
      (a : Acts (acting called count firing) [] [] (id ∷ []) (record { calls = c; lock = k; low = w }) (record {
        calls = c;
        lock = k;
        low = w';
      })) × (n ≡ way_losses a.lock_way + way_losses a.low_way)
  act_low id c k w w' n (answer, taught, is) = (
    record {
      lock_way = [];
      low_way = Raises id answer ∷ [];
      called_in_order = refl;
      counted = λ q. omega arith;
      lock_goes = refl;
      low_goes = (w', taught, refl);
      lock_raises = tt;
      low_raises = (refl, tt);
    },
    omega (arith, is),
  )

-- one expiration at its level
module _ {C R : Type 0} (called : C → ℕ → C → Type 0) (count : C → ℕ → ℕ) (firing : Raise R) where
  abbrev pub One : Level → ℕ → Sides C R → Sides C R → ℕ → Type 0
  One l id s s' n = (a : Acts (acting called count firing) (id_at_level High l id) (id_at_level Lock l id) (id_at_level Low l
      id) s s')
      × (n ≡ way_losses a.lock_way + way_losses a.low_way)

  pub one_high : (l : Level) (id : ℕ) (c c' : C) (k w : R) → l ≡ High → called c id c'
      → ((q : ℕ) → count c' q ≡ count c q + times q (id ∷ [])) →
      One l id (record { calls = c; lock = k; low = w }) (record { calls = c'; lock = k; low = w }) 0
  one_high l id c c' k w is h n = subst (λ x. One x id (record { calls = c; lock = k; low = w })
      (record { calls = c'; lock = k; low = w }) 0) (sym is) (act_high called count firing id c c' k w h n)

  pub one_lock : (l : Level) (id : ℕ) (c : C) (k k' w : R) (n : ℕ) → l ≡ Lock → RaisedOnce firing id k k' n →
      One l id (record { calls = c; lock = k; low = w }) (record { calls = c; lock = k'; low = w }) n
  one_lock l id c k k' w n is h = subst (λ x. One x id (record { calls = c; lock = k; low = w })
      (record { calls = c; lock = k'; low = w }) n) (sym is) (act_lock called count firing id c k k' w n h)

  pub one_low : (l : Level) (id : ℕ) (c : C) (k w w' : R) (n : ℕ) → l ≡ Low → RaisedOnce firing id w w' n →
      One l id (record { calls = c; lock = k; low = w }) (record { calls = c; lock = k; low = w' }) n
  one_low l id c k w w' n is h = subst (λ x. One x id (record { calls = c; lock = k; low = w })
      (record { calls = c; lock = k; low = w' }) n) (sym is) (act_low called count firing id c k w w' n h)
