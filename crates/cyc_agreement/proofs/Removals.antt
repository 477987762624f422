-- Calls that neither begin nor end a removal.
use Rattle.std.proofs.Common.{◌≡◌, ◌≢◌, ℕ, inl, inr, true, false, Some, None, Ok, Err, List, [], ◌∷◌, ◌++◌, refl, sym, ap, ◌∙◌}
use Rattle.std.specs.Option.{option_and_then}
use Rattle.cyc_types.specs.declared.Raise.{Ghosts as Raise}
use Rattle.cyc_types.specs.Firing.{FiringView}
use Rattle.cyc_cpu.specs.Cpu.{CpuView}
use Rattle.cyc_cpu.specs.Laws.{IsLawful}
use Rattle.cyc_cpu.specs.Calls.{Suspend, Resume}
use Rattle.cyc_cpu.specs.Calls.{CpuCall, CpuChanges, Fire, SoftInterrupt, Add, Place, Reprogram, AskPending, AskTotals, AskRoom}
use Rattle.cyc_cpu.specs.Calls.{Reserve, Widen, BeginRemove, PollRemove, TakeNow, AskSettled}
use Rattle.cyc_agreement.specs.Cpus.{CpusView, CallOn, IsCpu, DoesAt, Works}
use Rattle.std.specs.List.{slice_get, list_any}
use Rattle.cyc_agreement.specs.System.{has, removal_on, is_leaving_here}
use Rattle.cyc_agreement.proofs.Who.{kept_at}
use Rattle.cyc_agreement.proofs.Presence.{has_here, not_leaving}
use Rattle.cyc_agreement.specs.Shifting.{move_of}
use Rattle.cyc_agreement.specs.Binding.{GoesTo}
use Rattle.cyc_agreement.specs.Shifting.{moving}

-- the call is neither, and is none of those that no system makes
abbrev pub IsSteady : CpuCall → Type 0
IsSteady (Place id level interval moment carried) = Unit {0}
IsSteady (Reprogram id moment answer) = Unit {0}
IsSteady (AskPending id answer) = Unit {0}
IsSteady (AskTotals id answer) = Unit {0}
IsSteady (AskRoom more answer) = Unit {0}
IsSteady (Reserve more answer) = Unit {0}
IsSteady (Widen more) = Unit {0}
IsSteady (TakeNow id (Ok taken)) = Unit {0}
IsSteady (TakeNow id (Err e)) = ⊥
IsSteady (AskSettled answer) = Unit {0}
IsSteady Suspend = ⊥
IsSteady Resume = ⊥
IsSteady (BeginRemove id answer) = ⊥
IsSteady (PollRemove answer) = ⊥
IsSteady (Add id level when now answer) = ⊥
IsSteady (Fire now answer) = ⊥
IsSteady (SoftInterrupt level budget answer) = ⊥

abbrev pub AreSteady : List CallOn → Type 0
AreSteady [] = Unit {0}
AreSteady (c ∷ way) = IsSteady c.call × AreSteady way

pub steady_on : (xs ys : List CallOn) → AreSteady xs → AreSteady ys → AreSteady (xs ++ ys)
steady_on [] ys h k = k
steady_on (x ∷ xs) ys h k = (h.0, steady_on xs ys h.1 k)

module _ {R : Type 0} (firing : Raise R) where
  pub removal_kept : (x y : CpuView R) (call : CpuCall) → IsSteady call → CpuChanges firing x call y → y.removal ≡ x.removal
  removal_kept x y (Place id level interval moment carried) h d = d.1.kept.removal
  removal_kept x y (Reprogram id moment (Ok done)) h (k, c, is, named, still, e) = ap (λ (v : CpuView R). v.removal) e
  removal_kept x y (Reprogram id moment (Err e)) h d = ap (λ (v : CpuView R). v.removal) d.2
  removal_kept x y (AskPending id (Some n)) h d = d.0.kept.removal
  removal_kept x y (AskPending id None) h d = ap (λ (v : CpuView R). v.removal) d.1
  removal_kept x y (AskTotals id (Some t)) h d = d.0.kept.removal
  removal_kept x y (AskTotals id None) h d = ap (λ (v : CpuView R). v.removal) d.1
  removal_kept x y (AskRoom more (Ok done)) h d = d.0.kept.removal
  removal_kept x y (AskRoom more (Err e)) h d = d.0.kept.removal
  removal_kept x y (Reserve more (Ok done)) h d = d.0.removal
  removal_kept x y (Reserve more (Err e)) h d = d.0.kept.removal
  removal_kept x y (Widen more) h d = d.1.removal
  removal_kept x y (TakeNow id (Ok taken)) h (none, (c, counts, is, polled, leaves)) = leaves.removal ∙ sym none
  removal_kept x y (TakeNow id (Err e)) h d = absurd h
  removal_kept x y (AskSettled true) h d = d.0.kept.removal
  removal_kept x y (AskSettled false) h d = d.0.kept.removal
  removal_kept x y Suspend h d = absurd h
  removal_kept x y Resume h d = absurd h
  removal_kept x y (BeginRemove id answer) h d = absurd h
  removal_kept x y (PollRemove answer) h d = absurd h
  removal_kept x y (Add id level when now answer) h d = absurd h
  removal_kept x y (Fire now answer) h d = absurd h
  removal_kept x y (SoftInterrupt level budget answer) h d = absurd h

  removals_done : (v w : CpusView R) (c : CallOn) → IsSteady c.call → DoesAt firing v c w → (n : ℕ)
      → removal_on n w ≡ removal_on n v
  removals_done v w c h d n = ap (λ u. removal_on n u) d.rest
      ∙ kept_at v c.cpu d.before d.after d.here (λ o. option_and_then (λ cpu. cpu.removal) o)
      (removal_kept d.before d.after c.call h d.change) n

  -- over such calls each CPU has the removal open that it had
  pub removals_kept : (v w : CpusView R) (way : List CallOn) → AreSteady way → Works firing way v w → (n : ℕ)
      → removal_on n w ≡ removal_on n v
  removals_kept v w [] h last n = ap (λ u. removal_on n u) (sym last)
  removals_kept v w (c ∷ way) h (u, does, rest) n = removals_kept u w way h.1 rest n ∙ removals_done v u c h.0 does n

-- a removal that is open is of a cyclic that is there
pub leaving_here : {R : Type 0} (view : R → FiringView) (v : CpusView R) (n id : ℕ)
    → ((m : ℕ) (cpu : CpuView R) → IsCpu m cpu v → IsLawful view cpu) → removal_on n v ≡ Some id → has n id v ≡ true
leaving_here {R} view v n id lawful e = by (slice_get v.cpus n) refl e
  where
    by : (o : _) → slice_get v.cpus n ≡ o → option_and_then (λ (cpu : CpuView R). cpu.removal) o ≡ Some id → has n id v ≡ true
    by None at h = absurd (let odd : None ≡ Some id = h in cc)
    by (Some cpu) at h = let (k, c, is, named, soft, never) = (lawful n cpu at).removed id h in
        has_here v n id cpu at (k, c, is, named)

-- the removal of the id is open on no CPU
pub no_removal : {R : Type 0} (v : CpusView R) (id : ℕ) → list_any (is_leaving_here id) v.cpus ≡ false → (n : ℕ)
    → removal_on n v ≢ Some id
no_removal {R} v id none n e = by (slice_get v.cpus n) refl e
  where
    by : (o : _) → slice_get v.cpus n ≡ o → option_and_then (λ (cpu : CpuView R). cpu.removal) o ≡ Some id → ⊥
    by None at h = let odd : None ≡ Some id = h in cc
    by (Some cpu) at h = not_leaving v id none n cpu at h

-- a cyclic that went to a CPU, or stayed there
pub goes_removals : {R : Type 0} (firing : Raise R) (id home target : ℕ)
    (v w : CpusView R)
    → GoesTo firing (move_of id home target) (Ok tt) v w → (n : ℕ) → removal_on n w ≡ removal_on n v
goes_removals firing id home target v w (inl (at, is, same)) n = ap (λ u. removal_on n u) same
goes_removals firing id home target v w (inr (ne, (taken, works))) n =
    removals_kept firing v w (moving id home target taken) (tt, (tt, (tt, (tt, (tt, tt))))) works n
