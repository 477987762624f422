-- What holds of the steps of every script: names are introduced before they are used, and moments don't fall (our own rules).
use Rattle.std.specs.Prelude.{◌≡◌, ℕ, ◌+◌, ◌≤◌, ◌&&◌, ◌==◌, List, [], ◌∷◌, length, fold, Bool, true, nat_lt, nat_le}
use Rattle.cyc_types.specs.Series.{never}
use Rattle.cyc_script.specs.declared.step.Step.{Step}
use Rattle.cyc_script.specs.declared.step.Step.TheVariants.{Add, Omni, Bind, Unbind, Reprogram, Remove, Advance}
use Rattle.cyc_script.specs.Limits.{most_steps}

-- ---- names

-- how many names there are after a step, of so many before it
abbrev pub names_after : ℕ → Step → ℕ
names_after names (Add a) = names + 1
names_after names (Omni a) = names + 1
names_after names _ = names

-- a name that a step introduces has the next number, and any other name has a number that was given before
abbrev pub name_fits : ℕ → Step → Bool
name_fits names (Add a) = a.name == names
name_fits names (Omni a) = a.name == names
name_fits names (Bind b) = nat_lt b.name names
name_fits names (Unbind name) = nat_lt name names
name_fits names (Reprogram r) = nat_lt r.name names
name_fits names (Remove name) = nat_lt name names
name_fits names _ = true

-- the same of each step of a list, after so many names
abbrev pub names_fit : ℕ → List Step → Bool
names_fit names [] = true
names_fit names (step ∷ steps) = name_fits names step && names_fit (names_after names step) steps

-- how many names there are after these steps, of so many before them
abbrev pub names_after_all : ℕ → List Step → ℕ
names_after_all names steps = fold names_after names steps

-- ---- moments

-- the clock's moment after a step
abbrev pub moment_after : ℕ → Step → ℕ
moment_after now (Advance moment) = moment
moment_after now _ = now

-- a step sets the clock neither back nor to never
abbrev pub moment_fits : ℕ → Step → Bool
moment_fits now (Advance moment) = nat_le now moment && nat_lt moment never
moment_fits now _ = true

-- the same of each step of a list
abbrev pub moments_fit : ℕ → List Step → Bool
moments_fit now [] = true
moments_fit now (step ∷ steps) = moment_fits now step && moments_fit (moment_after now step) steps

-- the clock's moment after these steps
abbrev pub moment_after_all : ℕ → List Step → ℕ
moment_after_all now steps = fold moment_after now steps

-- ---- the whole

-- the steps of a script with so many names
pub record IsWellFormed (steps : List Step) (names : ℕ) : Type 0 where
  pub few_steps : length steps ≤ most_steps
  pub names_introduced : names_after_all 0 steps ≡ names
  pub names_in_order : names_fit 0 steps ≡ true
  pub moments_in_order : moments_fit 0 steps ≡ true
