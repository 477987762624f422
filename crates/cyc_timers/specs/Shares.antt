-- What of a fire is one cyclic's.
use Rattle.std.specs.Prelude.{ℕ, cond, List}
use Rattle.cyc_types.specs.declared.level.Level.{Level}
use Rattle.cyc_types.specs.Expirations.{Expiration, times_of}
use Rattle.cyc_types.specs.Timers.{Timer}
use Rattle.cyc_timers.specs.Acts.{is_of_level, timer_of}

-- how many of these expirations the id has at this level: all of its own, where its cyclic is of the level
abbrev pub share : Level → List Timer → List Expiration → ℕ → ℕ
share level ts made id = cond (is_of_level level (timer_of id ts)) (times_of id made) 0
