-- The components that the CPUs have after a call.
use Rattle.std.proofs.Common.{◌≡◌, ◌≢◌, ℕ, ◌⊎◌, inl, inr, Bool, true, false, Ok, List, [], ◌∷◌, map, refl, sym, ap, ◌∙◌, subst}
use Rattle.std.specs.Prelude.{◌||◌, ◌==◌}
use Rattle.std.specs.Option.{option_map_or}
use mathlib.Core.Logic.{dite}
use native.Mathlib.Decide.{ℕ_discrete}
use Rattle.cyc_types.specs.declared.Raise.{Ghosts as Raise}
use Rattle.cyc_types.specs.declared.level.Level.{Level}
use Rattle.cyc_types.specs.declared.moment.When.{When}
use Rattle.cyc_cpu.specs.Rows.{Cyclic}
use Rattle.cyc_cpu.specs.Cpu.{CpuView, HasRisingCyclics}
use Rattle.cyc_agreement.specs.Cpus.{CpusView, IsCpu, OfCpu, online_cpus, DoesAt, Works}
use Rattle.cyc_agreement.specs.System.{SystemView, is_online}
use Rattle.cyc_agreement.specs.Adding.{add_request, entering}
use Rattle.cyc_agreement.proofs.Lists.{among, false_ne, eq_true, false_true}
use Rattle.cyc_agreement.specs.Omni.{component_first, entering_each, AddsOmni}
use Rattle.cyc_agreement.specs.OmniLaws.{IsOneOf, HasOne, new_component}
use Rattle.cyc_agreement.proofs.Numbers.{among_online}
use Rattle.cyc_agreement.proofs.Quiet.{lists_reserved}
use Rattle.cyc_agreement.proofs.Arriving.{between}
use Rattle.cyc_agreement.proofs.Components.{Came, came_none, came_then, came_more, came_placed, here_placed, one_of, cyclics_on}
use Rattle.cyc_agreement.proofs.Components.{were_there, are_there, are_beside, are_same}

pub copies : ℕ → List ℕ → List ℕ
copies id ns = map (λ n. id) ns

only_copies : (id q : ℕ) (ns : List ℕ) → among q (copies id ns) ≡ true → q ≡ id
unfolding copies
only_copies id q [] e = absurd (false_true e)
only_copies id q (n ∷ ns) e = by (id == q) refl (only_copies id q ns) e
  where
    by : (b : Bool) → (id == q) ≡ b → (among q (copies id ns) ≡ true → q ≡ id) → (b || among q (copies id ns)) ≡ true → q ≡ id
    by true is rest h = sym (eq_true id q is)
    by false is rest h = rest h

module _ {R : Type 0} (firing : Raise R) (id : ℕ) (level : Level) (when : When)
    (skew now : ℕ) where
  -- what one CPU has of it after the walk
  pub record Visited (m : ℕ) (ns : List ℕ) (v w : CpusView R) : Type 0 where
    pub came : Came (copies id ns) (cyclics_on m v) (cyclics_on m w)
    pub here : among m ns ≡ true → IsOneOf (new_component m id level when skew now) (cyclics_on m w)
        × HasRisingCyclics (cyclics_on m w)

  visit_one : (n m : ℕ) (v w : CpusView R)
      → Works firing (entering n id level when.interval (component_first n when skew now)) v w → Visited m (n ∷ []) v w
  unfolding copies
  visit_one n m v w (u, widens, (t, places, e)) = dite (ℕ_discrete m n)
      (λ same. subst (λ k. Visited k (n ∷ []) v w) (sym same) (record {
        came = subst (λ l. Came (id ∷ []) l (cyclics_on n w)) before (subst (λ l. Came (id ∷ []) places.before.cyclics l) after
            (came_placed firing _ places.before places.after places.change.1));
        here = λ h. (
          subst (λ l. IsOneOf (new_component n id level when skew now) l) after
              (here_placed firing _ places.before places.after places.change.1),
          subst (λ l. HasRisingCyclics l) after places.change.1.rising,
        );
      }))
      (λ ne. record {
        came = came_more id [] (cyclics_on m v) (cyclics_on m w) (came_none (cyclics_on m v) (cyclics_on m w)
            (ap (λ x. cyclics_on m x) (sym e) ∙ are_beside n _ u t places m ne ∙ widened m));
        here = λ h. absurd (false_true (sym (ap (λ b. b || false) (false_ne n m (λ q. ne (sym q)))) ∙ h));
      })
    where
      widened : (k : ℕ) → cyclics_on k u ≡ cyclics_on k v
      widened k = are_same n _ v u widens widens.change.1.cyclics k

      before : places.before.cyclics ≡ cyclics_on n v
      before = sym (were_there n _ u t places) ∙ widened n

      after : places.after.cyclics ≡ cyclics_on n w
      after = sym (are_there n _ u t places) ∙ ap (λ x. cyclics_on n x) e

  pub visit : (ns : List ℕ) (m : ℕ) (v w : CpusView R) → Works firing (entering_each ns id level when skew now) v w
      → Visited m ns v w
  unfolding copies
  visit [] m v w e = record {
    came = came_none (cyclics_on m v) (cyclics_on m w) (ap (λ x. cyclics_on m x) (sym e));
    here =
        λ h. absurd (false_true h);
  }
  visit (n ∷ ns) m v w works =
      let (u, first, rest) = between (DoesAt firing) v (entering n id level when.interval (component_first n when skew now))
      (entering_each ns id level when skew now) w works in
      let a = visit_one n m v u first in let b = visit ns m u w rest in record {
        came = came_then id (copies id ns) (cyclics_on m v) (cyclics_on m u) (cyclics_on m w) a.came b.came;
        here = λ h. by u a b (n == m) refl h;
      }
    where
      by : (u : CpusView R) → Visited m (n ∷ []) v u → Visited m ns u w → (c : Bool) → (n == m) ≡ c → (c || among m ns) ≡ true
          → IsOneOf (new_component m id level when skew now) (cyclics_on m w) × HasRisingCyclics (cyclics_on m w)
      by u a b true is h = let (here, rising) = a.here (ap (λ c. c || false) is) in
          (b.came.old (new_component m id level when skew now) here, b.came.rising rising)
      by u a b false is h = b.here h

-- what the laws of add_omni say
module _ {R : Type 0} (firing : Raise R) (s t : SystemView R) (level : Level)
    (when : When) (skew now id : ℕ)
    (did : AddsOmni firing (add_request level when now) skew (Ok id) s t) (n : ℕ) where
  whole : Visited firing id level when skew now n (online_cpus s.cpus) did.1.0 t.cpus
  whole = visit firing id level when skew now (online_cpus s.cpus) n did.1.0 t.cpus did.1.2

  was : cyclics_on n did.1.0 ≡ cyclics_on n s.cpus
  was = lists_reserved firing 1 s.cpus did.1.0 did.1.1 n

  pub each_one : is_online n s.cpus ≡ true → OfCpu n (λ cpu. HasOne (new_component n id level when skew now) cpu.cyclics) t.cpus
  each_one on cpu at = let (here, rising) = whole.here (among_online s.cpus n ∙ on) in
      subst (λ l. HasOne (new_component n id level when skew now) l)
      (ap (λ o. option_map_or (λ (c : CpuView R). c.cyclics) o []) at)
      (one_of (new_component n id level when skew now) (cyclics_on n t.cpus) rising here)

  pub others_stay : (x y : CpuView R) → IsCpu n x s.cpus → IsCpu n y t.cpus → (d : Cyclic) → d.timer.id ≢ id
      → (IsOneOf d x.cyclics → IsOneOf d y.cyclics) × (IsOneOf d y.cyclics → IsOneOf d x.cyclics)
  others_stay x y p q d ne = (
    λ h. subst (λ l. IsOneOf d l) after (whole.came.old d (subst (λ l. IsOneOf d l) (sym before) h)),
    λ h. by (whole.came.only d (subst (λ l. IsOneOf d l) (sym after) h)),
  )
    where
      before : cyclics_on n did.1.0 ≡ x.cyclics
      before = was ∙ ap (λ o. option_map_or (λ (c : CpuView R). c.cyclics) o []) p

      after : cyclics_on n t.cpus ≡ y.cyclics
      after = ap (λ o. option_map_or (λ (c : CpuView R). c.cyclics) o []) q

      by : IsOneOf d (cyclics_on n did.1.0) ⊎ (among d.timer.id (copies id (online_cpus s.cpus)) ≡ true) → IsOneOf d x.cyclics
      by (inl h) = subst (λ l. IsOneOf d l) before h
      by (inr e) = absurd (ne (only_copies id d.timer.id (online_cpus s.cpus) e))
