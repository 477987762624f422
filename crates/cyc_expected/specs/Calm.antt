-- What may differ between two runs of one script without a difference in what is expected.
use Rattle.std.specs.Prelude.{◌≡◌, ⊤, ◌⊎◌, List, [], ◌∷◌}
use Rattle.cyc_script.specs.declared.step.Step.{Step}
use Rattle.cyc_script.specs.declared.step.Step.TheVariants.{Bind, Unbind, Softint, Juggle}
use Rattle.cyc_expected.specs.Expected.{Met}

-- a step that only moves cyclics, holds them where they are, or calls handlers
abbrev pub OnlyMoves : Step → Type 0
OnlyMoves (Bind b) = ⊤
OnlyMoves (Unbind name) = ⊤
OnlyMoves (Softint i) = ⊤
OnlyMoves (Juggle n) = ⊤
OnlyMoves _ = ⊥

-- two runs took the same steps, and what one accepted the other did, but for moves
abbrev pub AgreeButMoves : List Met → List Met → Type 0
AgreeButMoves [] [] = ⊤
AgreeButMoves (a ∷ xs) (b ∷ ys) =
    (a.step ≡ b.step) × (OnlyMoves a.step ⊎ (a.accepted ≡ b.accepted)) × AgreeButMoves xs ys
AgreeButMoves xs ys = ⊥
