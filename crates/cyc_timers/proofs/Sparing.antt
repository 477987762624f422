-- At high level nothing is lost.
use Rattle.std.proofs.Common.{◌≡◌, ℕ, arith}
use Rattle.cyc_types.specs.declared.Raise.{Ghosts as Raise}
use Rattle.cyc_types.specs.declared.level.Level.{Level}
use Rattle.cyc_types.specs.declared.level.Level.TheVariants.{Low, Lock, High}
use Rattle.cyc_timers.specs.Acts.{Sides}
use Rattle.cyc_timers.proofs.Acting.{One}
use Rattle.cyc_timers.proofs.Making.{same_end}

pub none_high : {C R : Type 0} (called : C → ℕ → C → Type 0) (count : C → ℕ → ℕ) (firing : Raise R) (id n : ℕ) (s s' : Sides C R)
    (l : Level)
    → One called count firing l id s s' n → l ≡ High → n ≡ 0
none_high called count firing id n s s' High (a, eq) at =
    let k = (same_end firing s.lock s'.lock a.lock_way a.lock_raises a.lock_goes).1 in
    let w = (same_end firing s.low s'.low a.low_way a.low_raises a.low_goes).1 in
    omega (arith, eq, k, w)
none_high called count firing id n s s' Lock o at = absurd (cc)
none_high called count firing id n s s' Low o at = absurd (cc)
