-- What a call must ask of a CPU before it knows what to do.
use Rattle.std.specs.Prelude.{ℕ, ◌+◌, ◌==◌, ◌&&◌, Bool, Option}
use Rattle.cyc_level.specs.Level.{count}
use Rattle.cyc_model.specs.Cpu.{Cpu}

-- the three questions, each asked of the CPU of this number, the first two for the sake of the cyclic of this id. Over plain
-- levels they are computed; over levels that other threads change they are what the call's loads found
pub record Questions : Type 0 where
  -- whether both soft levels have followed to the bank that the firing side fills
  pub followed : (n id : ℕ) → Cpu → Bool
  -- how many calls of the cyclic are outstanding
  pub outstanding : (n id : ℕ) → Cpu → ℕ
  -- the id of the cyclic whose removal is open
  pub removal : (n : ℕ) → Cpu → Option ℕ

abbrev pub soft_has_followed : Cpu → Bool
soft_has_followed c = (c.lock.hard_bank == c.lock.soft_bank) && (c.low.hard_bank == c.low.soft_bank)

-- the calls of an id that are outstanding at both levels: a cyclic is at one of them
abbrev pub outstanding_here : ℕ → Cpu → ℕ
outstanding_here id c = count c.lock id + count c.low id

-- over plain levels
abbrev pub plain : Questions
plain = record {
  followed = λ n id c. soft_has_followed c;
  outstanding = λ n id c. outstanding_here id c;
  removal = λ n c. c.removal;
}
