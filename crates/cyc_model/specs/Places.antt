-- Where cyclics are: their names, ids and CPUs.
use Rattle.std.specs.Prelude.{ℕ, ◌+◌, ◌==◌, ◌&&◌, nat_lt, if◌then◌else◌, not, Bool, true, false, is_some, List, [], ◌∷◌, ◌++◌}
use Rattle.std.specs.Prelude.{length, find, map, filter, slice_set, slice_index_or, Option, Some, None}
use Rattle.std.specs.List.{list_any}
use Rattle.std.specs.Option.{option_map, option_map_or}
use Rattle.cyc_model.specs.Cpu.{CyclicState}
use Rattle.cyc_model.specs.State.{Placement, On, OnAll, Placed, State, cpu_of, cpus_online}

-- the id of a name
abbrev pub id_of : ℕ → State → ℕ
id_of name s = slice_index_or s.names name 0

abbrev pub placement_of : ℕ → State → Option Placement
placement_of id s = option_map (λ p. p.placement) (find (λ p. p.id == id) s.placed)

-- no cyclic has this id, or its removal has answered
abbrev pub is_no_cyclic : ℕ → State → Bool
is_no_cyclic id s = not (is_some (placement_of id s))

-- the removal of this id is open on some CPU
abbrev pub is_being_removed : ℕ → State → Bool
is_being_removed id s = list_any (λ c. option_map_or (λ busy. busy == id) c.removal false) s.cpus

abbrev pub is_placed_everywhere : Option Placement → Bool
is_placed_everywhere None = false
is_placed_everywhere (Some (On n bound)) = false
is_placed_everywhere (Some (OnAll e)) = true

abbrev pub is_omni : ℕ → State → Bool
is_omni id s = is_placed_everywhere (placement_of id s)

abbrev pub is_bound_at : Option Placement → Bool
is_bound_at None = false
is_bound_at (Some (On n bound)) = bound
is_bound_at (Some (OnAll e)) = false

abbrev pub is_bound : ℕ → State → Bool
is_bound id s = is_bound_at (placement_of id s)

-- the CPU of a cyclic that is on one
abbrev pub home_at : Option Placement → ℕ
home_at None = 0
home_at (Some (On n bound)) = n
home_at (Some (OnAll e)) = 0

abbrev pub home_of : ℕ → State → ℕ
home_of id s = home_at (placement_of id s)

-- the cyclic of this id has this placement
abbrev pub replaced : ℕ → Placement → Placed → Placed
replaced id placement p = if p.id == id then record p { placement = placement } else p

abbrev pub put_at : ℕ → Placement → State → State
put_at id placement s = record s { placed = map (replaced id placement) s.placed }

-- the next id is given to a cyclic with this placement, and the name has it
abbrev pub given : ℕ → Placement → State → State
given name placement s = record s {
  last_id = s.last_id + 1;
  placed = s.placed ++ record { id = s.last_id + 1; placement = placement } ∷ [];
  names = slice_set s.names name (s.last_id + 1);
}

-- the removal of this id has answered
abbrev pub forgotten : ℕ → State → State
forgotten id s = record s { placed = filter (λ p. not (p.id == id)) s.placed }

-- ---- destinations

abbrev pub cyclics_on : ℕ → State → ℕ
cyclics_on n s = length (cpu_of n s).cyclics

-- the first of two with no more cyclics than the other
abbrev pub smaller_cpu : ℕ → Option ℕ → State → ℕ
smaller_cpu n None s = n
smaller_cpu n (Some m) s = if nat_lt (cyclics_on m s) (cyclics_on n s) then m else n

abbrev pub smallest_cpu : List ℕ → State → Option ℕ
smallest_cpu [] s = None
smallest_cpu (n ∷ ns) s = Some (smaller_cpu n (smallest_cpu ns s) s)

abbrev pub is_other_cpu : Option ℕ → ℕ → Bool
is_other_cpu None n = true
is_other_cpu (Some m) n = not (n == m)

-- the online CPU, other than the source, with the fewest cyclics, and of several the first (our own rule in place of
-- cyclic_pick_cpu); 0 where there is none
abbrev pub destination_of : Option ℕ → State → ℕ
destination_of source s = option_map_or (λ n. n) (smallest_cpu (filter (is_other_cpu source) (cpus_online s)) s) 0

-- ---- counts of stays

-- the counts of a cyclic that leaves are kept
abbrev pub keeping_counts : ℕ → CyclicState → State → State
keeping_counts n x s = record s {
  ended = λ id m. if (id == x.timer.id) && (m == n)
      then record { expired = (s.ended id m).expired + x.timer.expired; lost = (s.ended id m).lost + x.lost }
      else s.ended id m;
}

-- the counts that a stay on this CPU takes on
abbrev pub without_ended : ℕ → ℕ → State → State
without_ended n x s = record s {
  ended = λ id m. if (id == x) && (m == n) then record { expired = 0; lost = 0 } else s.ended id m;
}

abbrev pub keep_counts : ℕ → Option CyclicState → State → State
keep_counts n None s = s
keep_counts n (Some x) s = keeping_counts n x s
