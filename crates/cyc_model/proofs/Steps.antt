-- Short names for the steps of worked scripts.
use Rattle.std.specs.Prelude.{ℕ, ℤ, pos, List, None, Some}
use Rattle.cyc_types.specs.declared.level.Level.{Level}
use Rattle.cyc_types.specs.declared.level.Soft.{Soft}
use Rattle.cyc_script.specs.declared.step.Step.{Step}
use Rattle.cyc_script.specs.declared.step.Step.TheVariants.{Add, Omni, Bind, Reprogram, Softint}
use Rattle.cyc_model.specs.Script.{text_on, no_indexes}

abbrev pub add : Level → ℕ → ℕ → ℕ → Step
add level name start interval = Add (record { name = name; level = level; start = pos start; interval = pos interval })

abbrev pub omni : Level → ℕ → ℕ → ℕ → ℕ → Step
omni level name start interval skew =
    Omni (record { name = name; level = level; start = pos start; interval = pos interval; skew = skew })

abbrev pub bind : ℕ → ℕ → Step
bind name cpu = Bind (record { name = name; cpu = cpu })

abbrev pub reprogram : ℕ → ℤ → Step
reprogram name moment = Reprogram (record { name = name; moment = moment; cpu = None })

abbrev pub reprogram_on : ℕ → ℤ → ℕ → Step
reprogram_on name moment cpu = Reprogram (record { name = name; moment = moment; cpu = Some cpu })

abbrev pub softint : ℕ → Soft → ℕ → Step
softint cpu level budget = Softint (record { cpu = cpu; level = level; budget = budget })

abbrev pub text : ℕ → ℕ → List (List ℕ) → List Step → List ℕ
text cpus ceiling names steps = text_on no_indexes cpus ceiling names steps

-- the greatest ceiling
abbrev pub most : ℕ
most = 4294967295
