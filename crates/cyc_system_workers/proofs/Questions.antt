-- What was asked alone may come back.
use Rattle.std.proofs.Common.{Bool, List, [], ◌∷◌, subst}
use Rattle.std.specs.List.{FoldsTo}
use Rattle.cyc_types.specs.declared.Raise.{Ghosts as Raise}
use Rattle.cyc_cpu.specs.Cpu.{CpuView}
use Rattle.cyc_cpu.specs.Calls.{CpuChanges, AskSettled}
use Rattle.cyc_workers.specs.Settling.{AsksSettled, Settles}
use Rattle.cyc_system.specs.Splitting.{ComesBack}

module _ {R : Type 0} (firing : Raise R) (same : (x : CpuView R) → ComesBack firing.view x x)
    (joined : (x y z : CpuView R) → ComesBack firing.view x y → ComesBack firing.view y z → ComesBack firing.view x z)
    (settled : (v w : CpuView R) (answer : Bool) → CpuChanges firing v (AskSettled answer) w → ComesBack firing.view v w) where
  asks_back : (x y : CpuView R) (answers : List Bool) → FoldsTo (AsksSettled firing) x answers y → ComesBack firing.view x y
  asks_back x y [] e = subst (λ z. ComesBack firing.view x z) e (same x)
  asks_back x y (answer ∷ answers) (m, a, rest) = joined x m y (settled x m answer a.0) (asks_back m y answers rest)

  pub settles_back : (x y : CpuView R) → Settles firing x y → ComesBack firing.view x y
  settles_back x y s = asks_back x y s.0 s.1
