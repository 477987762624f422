-- The arrays of a raise seat after a step.
use Rattle.std.proofs.Common.{◌≡◌, ℕ, ◌+◌, ◌<◌, ◌≤◌, ◌≢◌, eqb, Bool, true, false, cond, List, ◌∷◌, length, get_or, set}
use Rattle.std.proofs.Common.{sym, refl, ap, ◌∙◌, subst, inl, inr, ⊎_elim, ◌⊎◌, arith, eq-eqb, ne_eqb, get_or-set_other}
use Rattle.std.proofs.Common.{get_or-set_same}
use Rattle.std.specs.Prelude.{Option, Some, None}
use mathlib.Core.Logic.{dite}
use native.Mathlib.Decide.{ℕ_discrete}
use Rattle.cyc_level.proofs.Maps.{some_same}
use Rattle.cyc_types.specs.Limits.{cyclics}
use Rattle.ring_rule.specs.declared.RaiseStep.{RaiseStep}
use Rattle.ring_rule.specs.declared.RaiseStep.TheVariants.{Admitted, Cleared}
use Rattle.cyc_level.specs.Runs.{StayCounts, one_more}
use Rattle.ring_rule.specs.Trail.{open_stay}
use Rattle.cyc_ring.specs.Rows.{HoldsStays}
use Rattle.std.proofs.Common.{[], replicate}
use Rattle.std.proofs.lemmas.List.{get_or-replicate}

module _ (ids sent lost : List ℕ) (t : List RaiseStep) (F : HoldsStays ids sent lost t) where
  pub same_position : (i j : ℕ) → i < cyclics → j < cyclics → ¬ (get_or ids i 0 ≡ 0) → get_or ids j 0 ≡ get_or ids i 0 → j ≡ i
  same_position i j li lj used e = let a = F.used i li used in let b = F.used j lj (λ z. used (sym e ∙ z)) in
      ap (λ (s : StayCounts). s.index) (some_same _ _ (sym b ∙ (ap (λ (id : ℕ). open_stay id t) e ∙ a)))

  pub id_is : (i id : ℕ) (st : StayCounts) → open_stay id t ≡ Some st → st.index ≡ i → id ≡ get_or ids i 0
  id_is i id st e at = sym (F.only id st e).1 ∙ ap (λ (x : ℕ). get_or ids x 0) at

  more_was : (lost_by : ℕ) (o : Option StayCounts) (st : StayCounts) → one_more lost_by o ≡ Some st → (s : StayCounts)
      × (o ≡ Some s) × (s.index ≡ st.index)
  more_was n None st e = absurd (cc)
  more_was n (Some s) st e = (s, refl, ap (λ (x : StayCounts). x.index) (some_same _ st e))

  module _ (a i by : ℕ) (low : i < cyclics) (named : get_or ids i 0 ≡ a) (used : ¬ (a ≡ 0)) (long : i < length sent)
      (t' : List RaiseStep) (grows : (id : ℕ) → open_stay id t' ≡ cond (eqb id a) (one_more by (open_stay id t)) (open_stay id t))
      (lost' : List ℕ) (here : get_or lost' i 0 ≡ get_or lost i 0 + by) (else : (j : ℕ) → j ≢ i
      → get_or lost' j 0 ≡ get_or lost j 0) (one : by ≤ 1) where
    was : (b : Bool) (id : ℕ) (st : StayCounts) → cond b (one_more by (open_stay id t)) (open_stay id t) ≡ Some st
        → (s : StayCounts) × (open_stay id t ≡ Some s) × (s.index ≡ st.index)
    was true id st e = more_was by (open_stay id t) st e
    was false id st e = (st, e, refl)

    used_i : ¬ (get_or ids i 0 ≡ 0)
    used_i z = used (sym named ∙ z)

    -- one expiry more, which was lost where `by` is 1
    pub fits_more : HoldsStays ids (set sent i (get_or sent i 0 + 1)) lost' t'
    fits_more = record {
      used = λ j lj uj. grows (get_or ids j 0) ∙ dite (ℕ_discrete j i)
          (λ e. subst (λ (j : ℕ). cond (eqb (get_or ids j 0) a) (one_more by (open_stay (get_or ids j 0) t))
          (open_stay (get_or ids j 0) t) ≡ Some record {
            index = j;
            sent =
                get_or (set sent i (get_or sent i 0 + 1)) j 0;
            lost = get_or lost' j 0;
          }) (sym e)
          (ap (λ b. cond b (one_more by (open_stay (get_or ids i 0) t)) (open_stay (get_or ids i 0) t))
          (eq-eqb (get_or ids i 0) a named) ∙ (ap (one_more by) (F.used i low used_i)
          ∙ (λ z. Some record {
            index = i;
            sent = sym (get_or-set_same sent i (get_or sent i 0 + 1) 0 long) z;
            lost =
                sym here z;
          }))))
          (λ ne. ap (λ b. cond b (one_more by (open_stay (get_or ids j 0) t)) (open_stay (get_or ids j 0) t))
          (ne_eqb (get_or ids j 0) a (λ e. ne (same_position i j low lj used_i (e ∙ sym named))))
          ∙ (F.used j lj uj ∙ (λ z. Some record {
            index = j;
            sent =
                sym (get_or-set_other sent i j (get_or sent i 0 + 1) 0 ne) z;
            lost = sym (else j ne) z;
          })));
      only = λ id st e. let w = was (eqb id a) id st (sym (grows id) ∙ e) in let o = F.only id w.0 w.1 in
          (subst (λ (x : ℕ). x < cyclics) w.2 o.0, ap (λ (x : ℕ). get_or ids x 0) (sym w.2) ∙ o.1, o.2);
      less = λ j lj. let f = F.less j lj in dite (ℕ_discrete j i)
          (λ e. subst (λ (j : ℕ). get_or lost' j 0 ≤ get_or (set sent i (get_or sent i 0 + 1)) j 0) (sym e)
          (let g = F.less i low in let s = get_or-set_same sent i (get_or sent i 0 + 1) 0 long in let h = here in
          omega (arith, g, s, h, one)))
          (λ ne. let s = get_or-set_other sent i j (get_or sent i 0 + 1) 0 ne in let h = else j ne in omega (arith, f, s, h));
    }

  module _ (id i : ℕ) (low : i < cyclics) (named : get_or ids i 0 ≡ id) (real : ¬ (id ≡ 0)) (long : i < length ids) where
    left : (b : Bool) (j : ℕ) (st : StayCounts) → eqb j id ≡ b → cond b None (open_stay j t) ≡ Some st → (j ≢ id)
        × (open_stay j t ≡ Some st)
    left true j st is e = absurd (cc)
    left false j st is e = ((λ x. let h : true ≡ false = sym (eq-eqb j id x) ∙ is in absurd (cc)), e)

    pub fits_cleared : HoldsStays (set ids i 0) sent lost (Cleared id ∷ t)
    fits_cleared = record {
      used = λ j lj uj. let ne : j ≢ i = λ e. uj (ap (λ (x : ℕ). get_or (set ids i 0) x 0) e ∙ get_or-set_same ids i 0 0 long) in
          let o = get_or-set_other ids i j 0 0 ne in
          let u : ¬ (get_or ids j 0 ≡ 0) = λ z. uj (o ∙ z) in
          subst (λ (x : ℕ). open_stay x (Cleared id ∷ t)
          ≡ Some record { index = j; sent = get_or sent j 0; lost = get_or lost j 0 }) (sym o)
          (ap (λ b. cond b None (open_stay (get_or ids j 0) t))
          (ne_eqb (get_or ids j 0) id (λ e. ne (same_position i j low lj (λ z. real (sym named ∙ z)) (e ∙ sym named))))
          ∙ F.used j lj u);
      only = λ j st e. let x = left (eqb j id) j st refl e in let o = F.only j st x.1 in
          (o.0, get_or-set_other ids i st.index 0 0 (λ e. x.0 (sym o.1 ∙ (ap (λ (y : ℕ). get_or ids y 0) e ∙ named))) ∙ o.1, o.2);
      less = F.less;
    }

  module _ (id i : ℕ) (low : i < cyclics) (free : get_or ids i 0 ≡ 0) (real : ¬ (id ≡ 0)) (none : open_stay id t ≡ None)
      (l1 : i < length ids) (l2 : i < length sent) (l3 : i < length lost) where
    came : (j : ℕ) (st : StayCounts) → open_stay j (Admitted id i ∷ t) ≡ Some st → ((j ≡ id) × (i ≡ st.index))
        ⊎ ((j ≢ id) × (open_stay j t ≡ Some st))
    came j st e = dite (ℕ_discrete j id)
        (λ x. inl (
          x,
          ap (λ (s : StayCounts). s.index)
              (some_same record { index = i; sent = 0; lost = 0 } st
              (ap (λ b. cond b (Some record { index = i; sent = 0; lost = 0 }) (open_stay j t)) (sym (eq-eqb j id x)) ∙ e)),
        ))
        (λ ne. inr (
          ne,
          ap (λ b. cond b (Some record { index = i; sent = 0; lost = 0 }) (open_stay j t)) (sym (ne_eqb j id ne))
              ∙ e,
        ))

    pub fits_admitted : HoldsStays (set ids i id) (set sent i 0) (set lost i 0) (Admitted id i ∷ t)
    fits_admitted = record {
      used = λ j lj uj. dite (ℕ_discrete j i)
          (λ e. subst (λ (j : ℕ). open_stay (get_or (set ids i id) j 0) (Admitted id i ∷ t)
          ≡ Some record { index = j; sent = get_or (set sent i 0) j 0; lost = get_or (set lost i 0) j 0 }) (sym e)
          (ap (λ b. cond b (Some record { index = i; sent = 0; lost = 0 }) (open_stay (get_or (set ids i id) i 0) t))
          (eq-eqb (get_or (set ids i id) i 0) id (get_or-set_same ids i id 0 l1))
          ∙ (λ z. Some record {
            index = i;
            sent = sym (get_or-set_same sent i 0 0 l2) z;
            lost =
                sym (get_or-set_same lost i 0 0 l3) z;
          })))
          (λ ne. let o = get_or-set_other ids i j id 0 ne in let u : ¬ (get_or ids j 0 ≡ 0) = λ z. uj (o ∙ z) in let f =
          F.used j lj u in
          subst (λ (x : ℕ). open_stay x (Admitted id i ∷ t)
          ≡ Some record { index = j; sent = get_or (set sent i 0) j 0; lost = get_or (set lost i 0) j 0 }) (sym o)
          (ap (λ b. cond b (Some record { index = i; sent = 0; lost = 0 }) (open_stay (get_or ids j 0) t))
          (ne_eqb (get_or ids j 0) id (λ e. let x : None
          ≡ Some record { index = j; sent = get_or sent j 0; lost = get_or lost j 0 } = sym none
          ∙ (ap (λ (x : ℕ). open_stay x t) (sym e) ∙ f) in absurd (cc)))
          ∙ (f ∙ (λ z. Some record {
            index = j;
            sent = sym (get_or-set_other sent i j 0 0 ne) z;
            lost =
                sym (get_or-set_other lost i j 0 0 ne) z;
          }))));
      only = λ j st e. ⊎_elim
          (λ x. (
            subst (λ (y : ℕ). y < cyclics) x.1 low,
            ap (λ (y : ℕ). get_or (set ids i id) y 0) (sym x.1)
                ∙ (get_or-set_same ids i id 0 l1 ∙ sym x.0),
            λ z. real (sym x.0 ∙ z),
          ))
          (λ x. let o = F.only j st x.1 in (
            o.0,
            get_or-set_other ids i st.index id 0
                (λ e. o.2 (sym o.1 ∙ (ap (λ (y : ℕ). get_or ids y 0) e ∙ free))) ∙ o.1,
            o.2,
          )) (came j st e);
      less = λ j lj. dite (ℕ_discrete j i)
          (λ e. let a : get_or (set lost i 0) j 0 ≡ 0 = ap (λ (x : ℕ). get_or (set lost i 0) x 0) e
          ∙ get_or-set_same lost i 0 0 l3 in omega (arith, a))
          (λ ne. let a = get_or-set_other lost i j 0 0 ne in let b = get_or-set_other sent i j 0 0 ne in let f = F.less j lj in
          omega (arith, a, b, f));
    }

  pub no_index : (i : ℕ) → get_or ids i 0 ≡ 0 → (j : ℕ) (s : StayCounts) → open_stay j t ≡ Some s → ¬ (s.index ≡ i)
  no_index i free j s e x = let o = F.only j s e in o.2 (sym o.1 ∙ (ap (λ (y : ℕ). get_or ids y 0) x ∙ free))

-- a step that changes no stay
pub fits_same : (ids sent lost : List ℕ) (t t' : List RaiseStep) → ((id : ℕ) → open_stay id t' ≡ open_stay id t)
    → HoldsStays ids sent lost t → HoldsStays ids sent lost t'
fits_same ids sent lost t t' same F = record {
  used = λ i low u. same (get_or ids i 0)
      ∙ F.used i low u;
  only = λ id st e. F.only id st (sym (same id) ∙ e);
  less = F.less;
}

pub fits_none : HoldsStays (replicate cyclics 0) (replicate cyclics 0) (replicate cyclics 0) []
fits_none = record {
  less = λ i low. omega arith;
  used = λ i low used. absurd (used (get_or-replicate cyclics i 0 0 low));
  only =
      λ id st e. absurd (cc);
}
