-- A part of a fire calls no handler but the one that was granted.
use Rattle.std.proofs.Common.{◌≡◌, ℕ, inl, inr, Option, Some, None, Result, Ok, Err, List, [], ◌∷◌, refl, sym, ap, subst, ◌∙◌}
use Rattle.std.specs.List.{FoldsTo}
use Rattle.cyc_types.specs.declared.Raise.{Ghosts as Raise}
use Rattle.cyc_types.specs.Levels.{at_level}
use Rattle.cyc_types.specs.declared.level.Level.TheVariants.{High}
use Rattle.cyc_types.specs.Expirations.{expirations}
use Rattle.cyc_timers.specs.Rows.{timers}
use Rattle.cyc_timers.specs.declared.fire.Fired.{Fired}
use Rattle.cyc_timers.specs.declared.fire.FireRefused.{FireRefused}
use Rattle.cyc_cpu.specs.Cpu.{CpuView}
use Rattle.cyc_border.specs.Border.{FiresPart, grant}
use Rattle.cyc_border.specs.Granted.{granted_called}
use Rattle.cyc_border.specs.Parts.{IsHandedOut, IsPart}
use Rattle.cyc_border.specs.declared.granted.Granted.{Granted}
use Rattle.cyc_border.specs.declared.granted.Granted.TheVariants.{Nothing, One, Counted}
use Rattle.cyc_border.proofs.Taking.{nothing_is}

told : Granted → ℕ
told Nothing = 0
told (One id) = id
told (Counted id) = 0

counted_is : (j id : ℕ) → Counted j ≡ One id → ⊥
counted_is j id e = subst (λ (g : Granted). elim g as (λ x. Type 0) [ Nothing ↦ ⊥ | One k ↦ ⊥ | Counted k ↦ Unit {0} ]) e tt

pub handed_out : (high : Option ℕ) (ids : List ℕ) (left : Granted) → FoldsTo (at_level granted_called High) (grant high) ids left
    → IsHandedOut high ids
unfolding told
handed_out high [] left way = inl refl
handed_out None (id ∷ ids) left (m, (e, f), rest) = absurd (nothing_is id e)
handed_out (Some x) (id ∷ []) left (m, (e, f), rest) = inr (x, refl, ap (λ n. n ∷ []) (sym (ap told e)))
handed_out (Some x) (id ∷ (j ∷ ids)) left (m, (e, f), (n, (g, h), rest)) = absurd (counted_is id j (sym f ∙ g))

pub parts : {R : Type 0} (firing : Raise R) (now : ℕ)
    (answer : Result Fired FireRefused)
    (high high' : Option ℕ) (v w : CpuView R) → FiresPart firing now answer high v high' w → IsPart now answer high v
parts firing now (Ok r) high high' v w (left, (soon, same, expired, next, makes), stopped) =
    (expired, handed_out high _ left makes.acts.called_in_order)
parts firing now (Err e) high high' v w (left, inl (never, is, kept), stopped) =
    ([], expirations now (timers v.cyclics), refl, ap (λ (x : FireRefused). x.expired) is, inl refl)
parts firing now (Err e) high high' v w (left, inr (soon, same, s), stopped) =
    (s.made, s.last ∷ s.rest, s.listed, sym s.expired, handed_out high _ s.at s.makes.acts.called_in_order)
