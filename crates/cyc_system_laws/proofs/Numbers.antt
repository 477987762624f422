-- Each id that is given is above those before it.
use Rattle.std.proofs.Common.{ℕ, ◌≤◌, Result, Ok, List, [], ◌∷◌, refl, ap, arith}
use Rattle.std.specs.List.{FoldsTo}
use Rattle.cyc_types.specs.declared.Calls.{Ghosts as Calls}
use Rattle.cyc_types.specs.declared.Raise.{Ghosts as Raise}
use Rattle.cyc_types.specs.declared.level.Soft.{Soft}
use Rattle.cyc_soft.specs.declared.Ran.{Ran}
use Rattle.cyc_soft.specs.declared.SoftRefused.{SoftRefused}
use Rattle.cyc_cpu.specs.Cpu.{Running}
use Rattle.cyc_system.specs.System.{RunningSystem}
use Rattle.cyc_system.specs.Calls.{SystemCall, Does, Add, AddOmni}
use Rattle.cyc_system.proofs.Numbers.{rises_along, given, omni_given}
use Rattle.cyc_system_laws.specs.Numbering.{ids_given, Rise}

-- they rise from a smaller number too
lower : (a b : ℕ) (ids : List ℕ) (after : ℕ) → a ≤ b → Rise b ids after → Rise a ids after
lower a b [] after low rise = omega (arith, low, rise)
lower a b (id ∷ ids) after low (less, rise) = (omega (arith, low, less), rise)

module _ {C R : Type 0} (handler : Calls C) (firing : Raise R)
    (interrupts : Soft → ℕ → Result Ran SoftRefused → Running C R → Running C R → Type 0) where
  abbrev Run : RunningSystem C R → List SystemCall → RunningSystem C R → Type 0
  Run s way t = FoldsTo (Does handler firing interrupts) s way t

  grows : (s u : RunningSystem C R) (call : SystemCall) → Does handler firing interrupts s call u
      → s.system.last ≤ u.system.last
  grows s u call d = rises_along handler firing interrupts s u (call ∷ []) (u, d, refl)

  pub numbers : (s t : RunningSystem C R) (way : List SystemCall) → Run s way t → Rise s.system.last (ids_given way) t.system.last
  numbers s t [] run = let e = ap (λ (x : RunningSystem C R). x.system.last) run in omega (arith, e)
  numbers s t (Add level when now (Ok id) ∷ way) (u, d, rest) =
      let (above, within) = given handler firing interrupts s u level when now id d in
      (above, lower id u.system.last (ids_given way) t.system.last within (numbers u t way rest))
  numbers s t (AddOmni level when skew now (Ok id) ∷ way) (u, d, rest) =
      let (above, within) = omni_given handler firing interrupts s u level when skew now id d in
      (above, lower id u.system.last (ids_given way) t.system.last within (numbers u t way rest))
  numbers s t (call ∷ way) (u, d, rest) = lower s.system.last u.system.last (ids_given way) t.system.last (grows s u call d)
      (numbers u t way rest)
