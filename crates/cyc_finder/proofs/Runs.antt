-- Narrowing a run of things by rising id.
use Rattle.std.proofs.Common.{◌≡◌, ℕ, ◌+◌, ◌-◌, ◌*◌, ◌<◌, ◌≤◌, ◌⊎◌, inl, inr, List, get_or, refl, sym, ap, subst, ◌∙◌}
use Rattle.std.proofs.Common.{arith}
use Rattle.cyc_finder.specs.Sorted.{Rises}
use Rattle.cyc_finder.specs.Halving.{IsIn, IsUpTo, IsAbove}

module _ {T : Type 0} (id_of : T → ℕ) (xs : List T) (id : ℕ) where
  module _ (rises : Rises id_of xs) (base size half : ℕ) (here : IsIn id_of xs id base size) (less : half < size)
      (twice : half + half ≤ size) (middle rest : ℕ) (is : middle ≡ base + half) (left : rest ≡ size - half) where
    -- the part from the middle on, whose first thing has the id or a smaller one
    pub upper : IsUpTo id_of xs id middle → IsIn id_of xs id middle rest
    upper most = record {
      filled = omega (arith, less, left);
      in_range = let fit = here.in_range in omega (arith, fit, less, is, left);
      smaller_before = λ j d low.
          let fit = here.in_range in let up = rises j middle d low (omega (arith, fit, less, is)) in let m = most d in
          omega (arith, up, m);
      greater_after = λ j d past low. here.greater_after j d (omega (arith, past, less, is, left)) low;
    }

    -- the part before the middle, which has a greater id
    pub lower : IsAbove id_of xs id middle → IsIn id_of xs id base rest
    lower more = record {
      filled = omega (arith, less, left);
      in_range = let fit = here.in_range in omega (arith, fit, less, left);
      smaller_before = here.smaller_before;
      greater_after = λ j d past low.
          let m = more d in
          let up = rises middle j d in
          let same : (middle ≡ j) → id_of (get_or xs middle d) ≡ id_of (get_or xs j d)
          = λ e. ap (λ k. id_of (get_or xs k d)) e in
          grind (arith, m, up, same, past, low, twice, is, left);
    }

  -- a look at the middle gives the upper position or the lower one
  abbrev pub Reaches : ℕ → ℕ → ℕ → ℕ → Type 0
  Reaches middle low up position = (IsUpTo id_of xs id middle × (position ≡ up))
      ⊎ (IsAbove id_of xs id middle × (position ≡ low))

  module _ (rises : Rises id_of xs) (base size step : ℕ) (here : IsIn id_of xs id base size) (some : 0 < step) where
    -- the half to which one look comes
    pub halved : step + step ≤ size → (position : ℕ) → Reaches (base + step) base (base + step) position
        → IsIn id_of xs id position (size - step)
    halved twice position look = elim look [
      | inl (most, at) ↦ subst (λ b. IsIn id_of xs id b (size - step)) (sym at)
          (upper rises base size step here (omega (arith, some, twice)) twice (base + step) (size - step) refl refl most)
      | inr (more, at) ↦ subst (λ b. IsIn id_of xs id b (size - step)) (sym at)
          (lower rises base size step here (omega (arith, some, twice)) twice (base + step) (size - step) refl refl more)
    ]

    -- the quarter to which three looks come
    pub quartered : 4 * step ≤ size → (low up position : ℕ) → Reaches (base + step) base (base + step) low
        → Reaches (base + step + step + step) (base + step + step) (base + step + step + step) up
        → Reaches (base + step + step) low up position → IsIn id_of xs id position (size - 3 * step)
    quartered four low up position second last third =
        let two = step + step in let half = size - two in
        let big : two < size = omega (arith, some, four) in let twice : two + two ≤ size = omega (arith, four) in
        let small : step < half = omega (arith, some, four) in let both : step + step ≤ half = omega (arith, four) in
        let middle : base + step + step ≡ base + two = omega arith in let rest : size - 3 * step ≡ half - step = omega arith in
        elim third [
          | inl (most, at) ↦
              let above = upper rises base size two here big twice (base + step + step) half middle refl most in
              elim last [
                | inl (m, up_at) ↦ subst (λ b. IsIn id_of xs id b (size - 3 * step)) (sym (at ∙ up_at))
                    (upper rises (base + step + step) half step above small both _ (size - 3 * step) refl rest m)
                | inr (m, up_at) ↦ subst (λ b. IsIn id_of xs id b (size - 3 * step)) (sym (at ∙ up_at))
                    (lower rises (base + step + step) half step above small both _ (size - 3 * step) refl rest m)
              ]
          | inr (more, at) ↦
              let below = lower rises base size two here big twice (base + step + step) half middle refl more in
              elim second [
                | inl (m, low_at) ↦ subst (λ b. IsIn id_of xs id b (size - 3 * step)) (sym (at ∙ low_at))
                    (upper rises base half step below small both _ (size - 3 * step) refl rest m)
                | inr (m, low_at) ↦ subst (λ b. IsIn id_of xs id b (size - 3 * step)) (sym (at ∙ low_at))
                    (lower rises base half step below small both _ (size - 3 * step) refl rest m)
              ]
        ]
