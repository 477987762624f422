-- What a system has of a cyclic, over all CPUs and all of its stays.
use Rattle.std.specs.Prelude.{◌≡◌, ℕ, true, sum_by, Option, Some, Ok}
use Rattle.std.specs.Option.{option_map, option_map_or}
use Rattle.cyc_types.specs.declared.level.Level.{Level}
use Rattle.cyc_timers.specs.Rows.{Cyclic}
use Rattle.cyc_cpu.specs.declared.moving.Taken.{Taken}
use Rattle.cyc_system.specs.System.{SystemView, record_of, is_unknown, is_omnipresent}
use Rattle.cyc_system.specs.SystemRemoval.TheVariants.{Done}
use Rattle.cyc_system.specs.RemovalLaws.{cyclic_in}
use Rattle.cyc_system.specs.Counts.{all_expired, all_lost}
use Rattle.cyc_system.specs.Calls.{SystemCall, Add, AddOmni, BeginRemove, PollRemove, Reprogram, ReprogramOn, Offline, Online}

-- the stay of a cyclic on its CPU, with all that a move takes of it: level, interval, next expiration and counts
abbrev pub stay_on : Cyclic → Taken
stay_on c = record {
  level = c.timer.level;
  interval = c.timer.interval;
  moment = c.timer.moment;
  sent = record { sent = c.timer.expired; lost = c.lost };
}

-- a measure of the stays of an id that go on, summed over all CPUs
abbrev pub over_stays : {R : Type 0} → (Taken → ℕ) → ℕ → SystemView R → ℕ
over_stays f id s = sum_by (λ cpu. option_map_or (λ c. f (stay_on c)) (cyclic_in id cpu) 0) s.cpus.cpus

-- The id has the same stays, wherever they are: whatever is measured of them comes to the same sum. A measure that is 1 for stays
-- of one kind and 0 for all others counts those of that kind.
abbrev pub SameStays : {R : Type 0} → ℕ → SystemView R → SystemView R → Type 0
SameStays id s t = (f : Taken → ℕ) → over_stays f id t ≡ over_stays f id s

-- they may have another next expiration
abbrev pub SameButMoments : {R : Type 0} → ℕ → SystemView R → SystemView R → Type 0
SameButMoments id s t = (f : Taken → ℕ) → ((a : Taken) (moment : ℕ) → f (record a { moment = moment }) ≡ f a)
    → over_stays f id t ≡ over_stays f id s

-- the id has as many expirations, and lost as many of them, over all CPUs and all stays, open and ended
abbrev pub SameCounts : {R : Type 0} → ℕ → SystemView R → SystemView R → Type 0
SameCounts id s t = (all_expired id t ≡ all_expired id s) × (all_lost id t ≡ all_lost id s)

-- the level in the record of an id, where it has one
abbrev pub level_known : {R : Type 0} → ℕ → SystemView R → Option Level
level_known id s = option_map (λ r. r.level) (record_of id s)

-- the call answers that the removal of this id is over
abbrev pub EndsRemoval : ℕ → SystemCall → Type 0
EndsRemoval id (BeginRemove own (Ok (Done receipt))) = own ≡ id
EndsRemoval id (PollRemove own (Ok (Some receipt))) = own ≡ id
EndsRemoval id call = ⊥

-- the call may change which stays an id has, or their level, interval or moment
abbrev pub TouchesStays : {R : Type 0} → ℕ → SystemCall → SystemView R → Type 0
TouchesStays id (Add level when now (Ok own)) s = own ≡ id
TouchesStays id (AddOmni level when skew now (Ok own)) s = own ≡ id
TouchesStays id (BeginRemove own answer) s = own ≡ id
TouchesStays id (PollRemove own answer) s = own ≡ id
TouchesStays id (Reprogram own moment answer) s = own ≡ id
TouchesStays id (ReprogramOn own n moment answer) s = own ≡ id
TouchesStays id (Offline n answer) s = is_omnipresent id s ≡ true
TouchesStays id (Online n now answer) s = is_omnipresent id s ≡ true
TouchesStays id call s = ⊥

-- the call gives the id, or answers that its removal is over
abbrev pub TouchesRecord : ℕ → SystemCall → Type 0
TouchesRecord id (Add level when now (Ok own)) = own ≡ id
TouchesRecord id (AddOmni level when skew now (Ok own)) = own ≡ id
TouchesRecord id (BeginRemove own (Ok (Done receipt))) = own ≡ id
TouchesRecord id (PollRemove own (Ok (Some receipt))) = own ≡ id
TouchesRecord id call = ⊥

-- the id has its record, with its level and whether it is omnipresent, or still has none
pub record SameRecord {R : Type 0} (id : ℕ) (s t : SystemView R) : Type 0 where
  pub known : is_unknown id t ≡ is_unknown id s
  pub level : level_known id t ≡ level_known id s
  pub everywhere : is_omnipresent id t ≡ is_omnipresent id s
