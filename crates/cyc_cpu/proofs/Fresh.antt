-- An empty level is a fresh end of a CPU.
use Rattle.std.proofs.Common.{◌≡◌, ℕ, refl, sym, subst}
use Rattle.cyc_core.specs.Level.{SoftLevel, empty_level}
use Rattle.cyc_core.specs.FiringSide.{firing_view}
use Rattle.cyc_cpu.specs.Cpu.{IsFresh}

pub empty_is_fresh : (ceiling : ℕ) (l : SoftLevel) → l ≡ empty_level ceiling → IsFresh (firing_view l)
empty_is_fresh ceiling l e = subst (λ (x : SoftLevel). IsFresh (firing_view x)) (sym e) (record {
  none = λ id. refl;
  unmarked = refl;
  bank = refl;
  free = refl;
})
