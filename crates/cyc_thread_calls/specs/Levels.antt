-- The level of a name in a script.
use Rattle.std.specs.Prelude.{ℕ, ◌==◌, cond, List, [], ◌∷◌, Option, Some, None}
use Rattle.cyc_types.specs.declared.level.Level.{Level}
use Rattle.cyc_script.specs.declared.step.Step.{Step}
use Rattle.cyc_script.specs.declared.step.Step.TheVariants.{Add, Omni}
use Rattle.cyc_system_rings.specs.Rings.{first_ring}

-- the level with which a word introduces a name
abbrev pub level_by : ℕ → Step → Option Level
level_by name (Add a) = cond (a.name == name) (Some a.level) None
level_by name (Omni a) = cond (a.name == name) (Some a.level) None
level_by name x = None

-- that with which one of these words does
abbrev pub level_named : ℕ → List Step → Option Level
level_named name [] = None
level_named name (x ∷ xs) = first_ring (level_by name x) (level_named name xs)
