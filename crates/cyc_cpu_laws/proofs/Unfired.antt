-- While a CPU is suspended no call makes an expiration.
use Rattle.std.proofs.Common.{◌≡◌, ℕ, suc, All, true, List, [], ◌∷◌, take, refl, sym, ap, ◌∙◌, arith, inl, inr}
use Rattle.std.proofs.lemmas.Bool.{false≢true}
use Rattle.std.specs.Prelude.{Result, Ok, Err}
use Rattle.std.specs.List.{FoldsTo}
use Rattle.cyc_types.specs.declared.Calls.{Ghosts as Calls}
use Rattle.cyc_types.specs.declared.Raise.{Ghosts as Raise}
use Rattle.cyc_types.specs.declared.level.Level.{Level}
use Rattle.cyc_types.specs.declared.level.Soft.{Soft}
use Rattle.cyc_types.specs.Expirations.{expirations}
use Rattle.cyc_cpu.specs.Ran.{Ran}
use Rattle.cyc_cpu.specs.SoftRefused.{SoftRefused}
use Rattle.cyc_cpu.specs.FireRefused.{FireRefused}
use Rattle.cyc_cpu.specs.Rows.{timers}
use Rattle.cyc_cpu.specs.Shares.{share}
use Rattle.cyc_cpu.specs.Cpu.{CpuView, Running}
use Rattle.cyc_cpu.specs.Calls.{CpuCall, CpuDoes, Fire, SoftInterrupt, Add, Place, Reprogram, AskPending, AskTotals, AskRoom}
use Rattle.cyc_cpu.specs.Calls.{Reserve, Widen, BeginRemove, PollRemove, TakeNow, AskSettled, Suspend, Resume, CpuChanges}
use Rattle.cyc_cpu.proofs.Calling.{LeavesMark, changes_suspended}
use Rattle.cyc_cpu_laws.specs.Runs.{CpuSteps}
use Rattle.cyc_cpu_laws.specs.Accounts.{made_by}
use Rattle.cyc_cpu_laws.specs.Suspension.{IsNoResume, StandsStill}
use Rattle.cyc_cpu_laws.proofs.Accounting.{none_made}

module _ {C R : Type 0} (handler : Calls C) (firing : Raise R)
    (interrupts : Soft → ℕ → Result Ran SoftRefused → Running C R → Running C R → Type 0)
    (keeps : (soft : Soft) (budget : ℕ) (answer : Result Ran SoftRefused) (s t : Running C R) →
    interrupts soft budget answer s t → t.cpu.suspended ≡ s.cpu.suspended) where
  abbrev One : Running C R → CpuCall → Running C R → Type 0
  One = CpuDoes handler firing interrupts

  abbrev Ones : Running C R → CpuCall → Running C R → Type 0
  Ones = CpuSteps handler firing interrupts

  quiet : (s t : Running C R) (call : CpuCall) → s.cpu.suspended ≡ true → LeavesMark call →
      CpuChanges firing s.cpu call t.cpu × (t.calls ≡ s.calls) → t.cpu.suspended ≡ true
  quiet s t call is plain d = changes_suspended firing s.cpu t.cpu call plain d.0 ∙ is

  -- a call that doesn't resume the CPU leaves it suspended
  asleep : (s t : Running C R) (call : CpuCall) → s.cpu.suspended ≡ true → IsNoResume call → One s call t →
      t.cpu.suspended ≡ true
  asleep s t (Fire now (Ok r)) is plain d = absurd (false≢true (sym d.0.awake ∙ is))
  asleep s t (Fire now (Err e)) is plain (inl (why, none, same)) = ap (λ (x : Running C R). x.cpu.suspended) same ∙ is
  asleep s t (Fire now (Err e)) is plain (inr d) = absurd (false≢true (sym d.0.awake ∙ is))
  asleep s t (SoftInterrupt soft budget answer) is plain d = keeps soft budget answer s t d ∙ is
  asleep s t Suspend is plain d = ap (λ (x : CpuView R). x.suspended) d.0
  asleep s t Resume is plain d = absurd plain
  asleep s t (Add id level when now answer) is plain d = quiet s t (Add id level when now answer) is tt d
  asleep s t (Place id level interval moment carried) is plain d = quiet s t (Place id level interval moment carried) is tt d
  asleep s t (Reprogram id moment answer) is plain d = quiet s t (Reprogram id moment answer) is tt d
  asleep s t (AskPending id answer) is plain d = quiet s t (AskPending id answer) is tt d
  asleep s t (AskTotals id answer) is plain d = quiet s t (AskTotals id answer) is tt d
  asleep s t (AskRoom more answer) is plain d = quiet s t (AskRoom more answer) is tt d
  asleep s t (Reserve more answer) is plain d = quiet s t (Reserve more answer) is tt d
  asleep s t (Widen more) is plain d = quiet s t (Widen more) is tt d
  asleep s t (BeginRemove id answer) is plain d = quiet s t (BeginRemove id answer) is tt d
  asleep s t (PollRemove answer) is plain d = quiet s t (PollRemove answer) is tt d
  asleep s t (TakeNow id answer) is plain d = quiet s t (TakeNow id answer) is tt d
  asleep s t (AskSettled answer) is plain d = quiet s t (AskSettled answer) is tt d

  -- it makes no expiration
  unmade : (s t : Running C R) (call : CpuCall) → s.cpu.suspended ≡ true → One s call t → made_by call s.cpu.cyclics ≡ []
  unmade s t (Fire now (Ok r)) is d = absurd (false≢true (sym d.0.awake ∙ is))
  unmade s t (Fire now (Err e)) is (inl (why, none, same)) =
      ap (λ (x : FireRefused). take x.expired (expirations now (timers s.cpu.cyclics))) none
  unmade s t (Fire now (Err e)) is (inr d) = absurd (false≢true (sym d.0.awake ∙ is))
  unmade s t call is d = refl

  unfired_one : (s t : Running C R) (call : CpuCall) (level : Level) (id : ℕ) → s.cpu.suspended ≡ true → One s call t →
      share level (timers s.cpu.cyclics) (made_by call s.cpu.cyclics) id ≡ 0
  unfired_one s t call level id is d = ap (λ xs. share level (timers s.cpu.cyclics) xs id) (unmade s t call is d)
      ∙ none_made level (timers s.cpu.cyclics) id

  pub still_from : (s t : Running C R) (way : List CpuCall) → s.cpu.suspended ≡ true → All IsNoResume way →
      (run : FoldsTo Ones s way t) → StandsStill Ones s way t run
  still_from s t [] is not run = record {
    suspended = ap (λ (x : Running C R). x.cpu.suspended) (sym run) ∙ is;
    unfired = λ level id. refl;
  }
  still_from s t (call ∷ way) is not (m, (does, lawful), rest) =
      let r = still_from m t way (asleep s m call is (not 0 call (omega arith)) does)
      (λ k d low. not (suc k) d (omega (arith, low)))
      rest in record {
        suspended = r.suspended;
        unfired = λ level id. (let a = unfired_one s m call level id is does in let b = r.unfired level id in omega
            (arith, a, b));
      }

  -- from a suspend on
  pub stands_still : (s t : Running C R) (way : List CpuCall) → All IsNoResume way → (run : FoldsTo Ones s (Suspend ∷ way) t) →
      StandsStill Ones s (Suspend ∷ way) t run
  stands_still s t way not (m, (does, lawful), rest) =
      let r = still_from m t way (ap (λ (x : CpuView R). x.suspended) does.0) not rest in record {
        suspended = r.suspended;
        unfired = λ level id. (let a = none_made level (timers s.cpu.cyclics) id in let b = r.unfired level id in omega
            (arith, a, b));
      }

  module _ (silent : (soft : Soft) (budget : ℕ) (answer : Result Ran SoftRefused) (s t : Running C R) →
      interrupts soft budget answer s t → t.calls ≡ s.calls) where
    uncalled_one : (s t : Running C R) (call : CpuCall) → s.cpu.suspended ≡ true → One s call t → t.calls ≡ s.calls
    uncalled_one s t (Fire now (Ok r)) is d = absurd (false≢true (sym d.0.awake ∙ is))
    uncalled_one s t (Fire now (Err e)) is (inl (why, none, same)) = ap (λ (x : Running C R). x.calls) same
    uncalled_one s t (Fire now (Err e)) is (inr d) = absurd (false≢true (sym d.0.awake ∙ is))
    uncalled_one s t (SoftInterrupt soft budget answer) is d = silent soft budget answer s t d
    uncalled_one s t call is d = d.1

    uncalled_from : (s t : Running C R) (way : List CpuCall) → s.cpu.suspended ≡ true → All IsNoResume way →
        FoldsTo Ones s way t → t.calls ≡ s.calls
    uncalled_from s t [] is not run = ap (λ (x : Running C R). x.calls) (sym run)
    uncalled_from s t (call ∷ way) is not (m, (does, lawful), rest) =
        uncalled_from m t way (asleep s m call is (not 0 call (omega arith)) does) (λ k d low. not (suc k) d (omega (arith, low)))
        rest
        ∙ uncalled_one s m call is does

    pub uncalled : (s t : Running C R) (way : List CpuCall) → All IsNoResume way → FoldsTo Ones s (Suspend ∷ way) t →
        t.calls ≡ s.calls
    uncalled s t way not (m, (does, lawful), rest) =
        uncalled_from m t way (ap (λ (x : CpuView R). x.suspended) does.0) not rest ∙ does.1
