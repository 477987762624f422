-- A fire that is refused while the CPU is suspended, and what suspends and resumes change.
use Rattle.std.proofs.Common.{◌≡◌, ℕ, Bool, true, inl, inr, Option, Result, Ok, Err, List, [], ◌∷◌, All, refl, sym, ap, subst}
use Rattle.std.proofs.Common.{◌∙◌, suc, arith}
use Rattle.std.proofs.lemmas.Bool.{false≢true}
use Rattle.std.specs.List.{FoldsTo}
use Rattle.cyc_types.specs.declared.Raise.{Ghosts as Raise}
use Rattle.cyc_types.specs.declared.refusal.Refusal.{Refusal}
use Rattle.cyc_types.specs.declared.refusal.Refusal.TheVariants as why
use Rattle.cyc_timers.specs.declared.fire.Fired.{Fired}
use Rattle.cyc_timers.specs.declared.fire.FireRefused.{FireRefused}
use Rattle.cyc_cpu.specs.Cpu.{CpuView, Running}
use Rattle.cyc_cpu.specs.Calls.{WhyNoFire}
use Rattle.cyc_border.specs.Border.{FiresPart}
use Rattle.cyc_border.specs.Parts.{Paused, PartCall, Part, Suspends, Resumes, MakesPart, IsRest, asleep}
use Rattle.cyc_border.specs.declared.granted.Granted.{Granted}

-- the CPU with this mark
abbrev pub marked : {R : Type 0} → Bool → CpuView R → CpuView R
marked b v = record v { suspended = b }

module _ {R : Type 0} (firing : Raise R) where
  is_suspended : (now : ℕ) (v : CpuView R) (e : Refusal) → WhyNoFire now v e → v.suspended ≡ true → e ≡ why.Suspended
  is_suspended now v why.Suspended w is = refl
  is_suspended now v why.BadNow w is = absurd (false≢true (sym w.0 ∙ is))
  is_suspended now v e w is = absurd w

  -- a fire of a suspended CPU is refused so
  pub suspended_is : (now : ℕ) (answer : Result Fired FireRefused) (high high' : Option ℕ) (v w : CpuView R)
      → FiresPart firing now answer high v high' w → v.suspended ≡ true → answer ≡ asleep
  suspended_is now (Ok r) high high' v w (left, (may, same, expired, next, makes), out) is =
      absurd (false≢true (sym may.awake ∙ is))
  suspended_is now (Err e) high high' v w (left, inl (none, zeros, kept), out) is =
      ap Err (zeros ∙ ap (λ (x : Refusal). record { why = x; expired = 0; lost = 0 }) (is_suspended now v e.why none is))
  suspended_is now (Err e) high high' v w (left, inr (may, same, st), out) is = absurd (false≢true (sym may.awake ∙ is))

  -- and no other
  pub asleep_is : (now : ℕ) (high high' : Option ℕ) (v w : CpuView R) → FiresPart firing now asleep high v high' w
      → v.suspended ≡ true
  asleep_is now high high' v w (left, inl (none, zeros, kept), out) = none
  asleep_is now high high' v w (left, inr (may, same, st), out) = let (t, found, none) = st.stops in absurd none

  -- it leaves all as it was
  pub asleep_keeps : (now : ℕ) (high high' : Option ℕ) (v w : CpuView R) → FiresPart firing now asleep high v high' w
      → (w ≡ v) × (high' ≡ high)
  asleep_keeps now high high' v w (left, inl (none, zeros, kept), out) = (ap (λ (s : Running Granted R). s.cpu) kept, out)
  asleep_keeps now high high' v w (left, inr (may, same, st), out) = let (t, found, none) = st.stops in absurd none

  -- a call that makes nothing changes the mark alone
  pub rest_keeps : (call : PartCall) (s t : Paused R) → IsRest call → MakesPart firing s call t
      → (t.high ≡ s.high) × (t.cpu ≡ marked t.cpu.suspended s.cpu)
  rest_keeps (Part now answer) s t is made =
      let (cpu, high) = asleep_keeps now s.high t.high s.cpu t.cpu
      (subst (λ a. FiresPart firing now a s.high s.cpu t.high t.cpu) is made) in
      (high, cpu ∙ ap (λ b. marked b s.cpu) (ap (λ (v : CpuView R). v.suspended) (sym cpu)))
  rest_keeps Suspends s t is (made, high) =
      (high, made ∙ ap (λ b. marked b s.cpu) (ap (λ (v : CpuView R). v.suspended) (sym made)))
  rest_keeps Resumes s t is (made, high) =
      (high, made ∙ ap (λ b. marked b s.cpu) (ap (λ (v : CpuView R). v.suspended) (sym made)))

  -- and so do many
  pub rests_keep : (calls : List PartCall) (s t : Paused R) → All IsRest calls → FoldsTo (MakesPart firing) s calls t
      → (t.high ≡ s.high) × (t.cpu ≡ marked t.cpu.suspended s.cpu)
  rests_keep [] s t rests is = (
    ap (λ (x : Paused R). x.high) (sym is),
    ap (λ (x : Paused R). x.cpu) (sym is)
        ∙ ap (λ b. marked b s.cpu) (ap (λ (x : Paused R). x.cpu.suspended) is),
  )
  rests_keep (call ∷ calls) s t rests (m, made, way) =
      let (high, cpu) = rest_keeps call s m (rests 0 call (omega arith)) made in
      let (high', cpu') = rests_keep calls m t (λ k x h. rests (suc k) x (omega (arith, h))) way in
      (high' ∙ high, cpu' ∙ ap (λ (v : CpuView R). marked t.cpu.suspended v) cpu)
