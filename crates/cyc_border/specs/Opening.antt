-- A CPU as it is opened.
use Rattle.std.specs.Prelude.{◌≡◌, ℕ, [], None, false}
use Rattle.cyc_level.specs.Level.{empty_level}
use Rattle.cyc_core.specs.Tables.{level_of}
use Rattle.cyc_border.specs.declared.cpu.Cpu.{Cpu}

-- no cyclic, two empty levels of this ceiling, and no call in hand; and it is not suspended
pub record IsNewCpu (ceiling most : ℕ) (v : Cpu) : Type 0 where
  pub cyclics : v.hard.cyclics ≡ []
  pub removal : v.hard.removal ≡ None
  pub most_is : v.hard.most ≡ most
  pub awake : v.hard.suspended ≡ false
  pub lock : level_of v.hard.lock ≡ empty_level ceiling
  pub low : level_of v.hard.low ≡ empty_level ceiling
  pub high_call : v.high ≡ None
  pub lock_call : v.lock ≡ None
  pub low_call : v.low ≡ None
