-- Where a CPU has room, only memory can be wanting.
use Rattle.std.proofs.Common.{◌≡◌, ℕ, Bool, true, false, List, [], ◌∷◌, map, length, Some, None, refl, sym, ap, ◌∙◌, subst, arith}
use Rattle.std.proofs.Common.{inl, inr}
use Rattle.cyc_types.specs.declared.Raise.{Ghosts as Raise}
use Rattle.cyc_types.specs.Firing.{FiringView, Looks}
use Rattle.cyc_types.specs.Runs.{Goes}
use Rattle.cyc_types.specs.declared.refusal.Refusal.{Refusal}
use Rattle.cyc_types.specs.declared.refusal.Refusal.TheVariants as why
use Rattle.cyc_cpu.specs.Quiet.{OnlyLooks}
use Rattle.cyc_cpu.specs.Cpu.{CpuView, Looked, HasRoom, WhyNotReserved}

module _ {R : Type 0} (firing : Raise R) where
  -- what was seen to have followed has
  follows : (e f : R) (answers : List Bool) → Goes firing e (map Looks answers) f → (firing.view e).followed ≡ true →
      (firing.view f).followed ≡ true
  follows e f [] goes has = subst (λ x. (firing.view x).followed ≡ true) goes has
  follows e f (a ∷ answers) (m, (s, l), rest) has = follows m f answers rest (ap (λ (x : FiringView). x.followed) l.1 ∙ l.0 has)

  not_behind : (e f : R) → OnlyLooks firing e f → (firing.view e).followed ≡ true → (firing.view f).followed ≡ false → ⊥
  not_behind e f (answers, goes) has lacks = (let wrong : true ≡ false = sym (follows e f answers goes has) ∙ lacks in cc)

  pub only_memory : (more : ℕ) (v w : CpuView R) (e : Refusal) → HasRoom firing.view more v → Looked firing v w →
      WhyNotReserved firing.view more v w e → e ≡ why.Memory
  only_memory more v w why.Memory room looked h = refl
  only_memory more v w why.Full room looked h = (let a = room.fits in let b = ap (λ cs. length cs) looked.cyclics in
      absurd (omega (arith, a, b, h)))
  only_memory more v w (why.Busy id) room looked h =
      let b = ap (λ cs. length cs) looked.cyclics in let s = looked.kept.size in let less = h.1 in
      let wrong : None ≡ Some id = sym (looked.kept.removal ∙ (room.still (omega (arith, b, s, less))).0) ∙ h.2 in cc
  only_memory more v w why.Expanding room looked h =
      let b = ap (λ cs. length cs) looked.cyclics in let s = looked.kept.size in let less = h.1 in
      let followed = (room.still (omega (arith, b, s, less))).1 in
      elim h.3 [
        | inl lock ↦ absurd (not_behind v.lock w.lock looked.lock followed.0 lock)
        | inr low ↦ absurd (not_behind v.low w.low looked.low followed.1 low)
      ]
  only_memory more v w e room looked h = absurd h
