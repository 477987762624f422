-- The limits of the subsystem, each in one place.
use Rattle.std.specs.Prelude.{ℕ, ◌-◌, ◌^◌}

-- the greatest bank of a soft level's buffer; bank k has 2^k slots (our own rule)
abbrev pub greatest_bank : ℕ
greatest_bank = 12

-- the cyclics that one CPU can hold: the slots of the greatest bank (our own rule)
abbrev pub cyclics : ℕ
cyclics = 2 ^ greatest_bank

-- the CPUs that one system can have (our own rule)
abbrev pub most_cpus : ℕ
most_cpus = 16

-- the greatest ceiling of a pend: what 32 bits hold (our own rule)
abbrev pub greatest_ceiling : ℕ
greatest_ceiling = 2 ^ 32 - 1

-- the greatest number of a cyclic: what is left of 64 bits beside an index (our own rule)
abbrev pub last_id : ℕ
last_id = 2 ^ 52 - 1
