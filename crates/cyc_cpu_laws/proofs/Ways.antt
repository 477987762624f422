-- How an end comes from one value to another: no call, one call, some calls and then others.
use Rattle.std.proofs.Common.{◌≡◌, ℕ, ◌+◌, ◌≤◌, List, [], ◌∷◌, ◌++◌, Some, None, refl, sym, ap, ◌∙◌, arith}
use Rattle.cyc_types.specs.declared.Raise.{Ghosts as Raise}
use Rattle.cyc_types.specs.Firing.{FiringView, FiringCall, Admits, Loads, Raises, Marks, Polls, Expands, Looks, Learns}
use Rattle.cyc_types.specs.Runs.{Goes, Taught, raises_in_call, losses_in_call}
use Rattle.cyc_types.specs.declared.firing.Raised.TheVariants.{First, More, Lost}
use Rattle.cyc_types.proofs.Runs.{goes_on, raised_on, lost_on, lost_few}
use Rattle.cyc_cpu_laws.specs.Passing.{Passes}

-- no call changes the ceiling
learns_ceiling : (v w : FiringView) (call : FiringCall) → Learns v call w → w.ceiling ≡ v.ceiling
learns_ceiling v w (Admits id index) l = ap (λ (x : FiringView). x.ceiling) l
learns_ceiling v w (Loads id pend) l = ap (λ (x : FiringView). x.ceiling) l.1
learns_ceiling v w (Raises id Lost) l = ap (λ (x : FiringView). x.ceiling) l.1
learns_ceiling v w (Raises id More) l = ap (λ (x : FiringView). x.ceiling) l.4
learns_ceiling v w (Raises id First) l = ap (λ (x : FiringView). x.ceiling) l
learns_ceiling v w (Marks id pend) l = ap (λ (x : FiringView). x.ceiling) l.1
learns_ceiling v w (Polls id None) l = ap (λ (x : FiringView). x.ceiling) l.3
learns_ceiling v w (Polls id (Some counts)) l = ap (λ (x : FiringView). x.ceiling) l.1
learns_ceiling v w (Expands bank) l = ap (λ (x : FiringView). x.ceiling) l
learns_ceiling v w (Looks answer) l = ap (λ (x : FiringView). x.ceiling) l.1

module _ {R : Type 0} (firing : Raise R) where
  goes_ceiling : (e f : R) (way : List FiringCall) → Goes firing e way f → (firing.view f).ceiling ≡ (firing.view e).ceiling
  goes_ceiling e f [] g = ap (λ (x : R). (firing.view x).ceiling) (sym g)
  goes_ceiling e f (call ∷ way) (m, (s, l), rest) = goes_ceiling m f way rest
      ∙ learns_ceiling (firing.view e) (firing.view m) call l

  pub passes_none : (e : R) → Passes firing (λ id. 0) (λ id. 0) e e
  passes_none e = record { way = []; goes = refl; raises = λ id. refl; losses = λ id. refl }

  pub passes_one : (e f : R) (call : FiringCall) → Taught firing e call f → Passes firing (λ id. raises_in_call id call)
      (λ id. losses_in_call id call) e f
  passes_one e f call t = record { way = call ∷ []; goes = (f, t, refl); raises = λ id. omega arith; losses = λ id. omega arith }

  pub passes_on : (r l r' l' : ℕ → ℕ) (e f g : R) → Passes firing r l e f → Passes firing r' l' f g →
      Passes firing (λ id. r id + r' id) (λ id. l id + l' id) e g
  passes_on r l r' l' e f g a b = record {
    way = a.way ++ b.way;
    goes = goes_on firing e f g a.way b.way a.goes b.goes;
    raises = λ id. (let x = raised_on id a.way b.way in let y = a.raises id in let z = b.raises id in omega (arith, x, y, z));
    losses = λ id. (let x = lost_on id a.way b.way in let y = a.losses id in let z = b.losses id in omega (arith, x, y, z));
  }

  pub passes_ceiling : (r l : ℕ → ℕ) (e f : R) → Passes firing r l e f → (firing.view f).ceiling ≡ (firing.view e).ceiling
  passes_ceiling r l e f p = goes_ceiling e f p.way p.goes

  pub passes_few : (r l : ℕ → ℕ) (e f : R) → Passes firing r l e f → (id : ℕ) → l id ≤ r id
  passes_few r l e f p id = let x = lost_few id p.way in let y = p.raises id in let z = p.losses id in omega (arith, x, y, z)
