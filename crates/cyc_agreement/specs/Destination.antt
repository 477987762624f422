-- Where a new or a moving cyclic goes (our own rule in place of `cyclic_pick_cpu`).
use Rattle.std.specs.Prelude.{ℕ, ◌==◌, nat_lt, not, Bool, true, if◌then◌else◌, List, [], ◌∷◌, length, filter, Option, Some, None}
use Rattle.std.specs.List.{slice_get}
use Rattle.std.specs.Option.{option_map_or}
use Rattle.cyc_agreement.specs.Cpus.{CpusView, online_cpus}

-- how many cyclics a CPU has
abbrev pub len_of : {R : Type 0} → ℕ → CpusView R → ℕ
len_of n v = option_map_or (λ cpu. length cpu.cyclics) (slice_get v.cpus n) 0

-- the first of two with no more cyclics than the other
abbrev pub fewer : {R : Type 0} → ℕ → Option ℕ → CpusView R → ℕ
fewer n None v = n
fewer n (Some m) v = if nat_lt (len_of m v) (len_of n v) then m else n

abbrev pub fewest : {R : Type 0} → List ℕ → CpusView R → Option ℕ
fewest [] v = None
fewest (n ∷ ns) v = Some (fewer n (fewest ns v) v)

abbrev pub is_not : Option ℕ → ℕ → Bool
is_not None n = true
is_not (Some m) n = not (n == m)

-- the online CPU, other than the source, with the fewest cyclics, and of several the first
abbrev pub destination : {R : Type 0} → Option ℕ → CpusView R → Option ℕ
destination source v = fewest (filter (is_not source) (online_cpus v)) v
