-- Which steps of a calm script are accepted, told from the script alone: no CPU, level or thread matters.
use Rattle.std.specs.Prelude.{ℕ, ◌==◌, ◌&&◌, nat_lt, not, int_lt, ℤ, pos, Bool, true, false, if◌then◌else◌, List, [], ◌∷◌}
use Rattle.std.specs.Prelude.{Option, Some, None}
use Rattle.cyc_script.specs.declared.step.Step.{Step}
use Rattle.cyc_script.specs.declared.step.Step.TheVariants.{Add, Omni, Bind, Unbind, Reprogram, Remove, Advance, Softint, Juggle}
use Rattle.cyc_script.specs.declared.step.Step.TheVariants.{Offline, Online, Suspend, Resume}
use Rattle.cyc_expected.specs.Expected.{Met}

-- what a name has
pub data Standing : Type 0 where
  -- no cyclic: it was not added, or it was removed
  Absent : Standing
  -- one that is on one CPU, wherever that is
  OnOne : Standing
  -- an omnipresent one
  OnAll : Standing

-- the start isn't negative, and the interval is at least 1
abbrev pub is_series : ℤ → ℤ → Bool
is_series start interval = not (int_lt start (pos 0)) && not (int_lt interval (pos 1))

-- the number isn't negative
abbrev pub is_moment : ℤ → Bool
is_moment number = not (int_lt number (pos 0))

abbrev pub is_here : Standing → Bool
is_here Absent = false
is_here OnOne = true
is_here OnAll = true

-- over so many CPUs, all of them online: a cyclic that is on one CPU is reprogrammed without naming it; an omnipresent one has a
-- component on each CPU
abbrev pub may_reprogram : ℕ → Standing → Option ℕ → Bool
may_reprogram cpus Absent cpu = false
may_reprogram cpus OnOne None = true
may_reprogram cpus OnOne (Some n) = false
may_reprogram cpus OnAll None = false
may_reprogram cpus OnAll (Some n) = nat_lt n cpus

-- A step is accepted, where the names have this. Each CPU has room for all names. A word that moves cyclics, holds them where
-- they are or calls handlers counts as accepted, since it changes no count. No CPU goes offline, and so none comes back. While
-- the system is suspended no `advance` is accepted.
abbrev pub is_taken : ℕ → Bool → (ℕ → Standing) → Step → Bool
is_taken cpus suspended has (Add a) = is_series a.start a.interval
is_taken cpus suspended has (Omni a) = is_series a.start a.interval
is_taken cpus suspended has (Reprogram r) = is_moment r.moment && may_reprogram cpus (has r.name) r.cpu
is_taken cpus suspended has (Remove name) = is_here (has name)
is_taken cpus suspended has (Advance now) = not suspended
is_taken cpus suspended has (Bind b) = true
is_taken cpus suspended has (Unbind name) = true
is_taken cpus suspended has (Softint i) = true
is_taken cpus suspended has (Juggle n) = true
is_taken cpus suspended has (Offline n) = false
is_taken cpus suspended has (Online n) = false
is_taken cpus suspended has Suspend = not suspended
is_taken cpus suspended has Resume = suspended

-- one name has another thing now
abbrev pub with_standing : ℕ → Standing → (ℕ → Standing) → ℕ → Standing
with_standing name standing has other = if other == name then standing else has other

-- what the names have after a step that was accepted
abbrev pub after_step : Step → (ℕ → Standing) → ℕ → Standing
after_step (Add a) has = with_standing a.name OnOne has
after_step (Omni a) has = with_standing a.name OnAll has
after_step (Remove name) has = with_standing name Absent has
after_step step has = has

-- whether the system is suspended after a step
abbrev pub suspended_after : Step → Bool → Bool
suspended_after Suspend suspended = true
suspended_after Resume suspended = false
suspended_after step suspended = suspended

-- the steps, and which of them are accepted
abbrev pub taken_from : ℕ → Bool → (ℕ → Standing) → List Step → List Met
taken_from cpus suspended has [] = []
taken_from cpus suspended has (step ∷ steps) = record { step = step; accepted = is_taken cpus suspended has step }
    ∷ taken_from cpus (suspended_after step suspended)
    (if is_taken cpus suspended has step then after_step step has else has) steps

-- how a calm script over so many CPUs is met: at first no name has anything, and the system is not suspended
abbrev pub calm_way : ℕ → List Step → List Met
calm_way cpus steps = taken_from cpus false (λ name. Absent) steps
