-- An id that is off a CPU stays off it, and nothing of it is called or raised, until it is put in.
use Rattle.std.proofs.Common.{◌≡◌, ℕ, suc, All, List, [], ◌∷◌, None, refl, sym, ap, subst, ◌∙◌, arith, inl, inr}
use Rattle.std.specs.Prelude.{Ok, Err}
use Rattle.std.specs.List.{FoldsTo}
use Rattle.cyc_types.specs.declared.Calls.{Ghosts as Calls}
use Rattle.cyc_types.specs.declared.Raise.{Ghosts as Raise}
use Rattle.cyc_types.specs.Firing.{FiringView}
use Rattle.cyc_types.specs.declared.level.Level.{Level}
use Rattle.cyc_types.specs.declared.level.Level.TheVariants.{Low, Lock, High}
use Rattle.cyc_cpu.specs.Rows.{Cyclic, timers}
use Rattle.cyc_cpu.specs.Shares.{share}
use Rattle.cyc_cpu.specs.Cpu.{CpuView, Running, HasNoCyclic, AreAdmitted}
use Rattle.cyc_cpu.specs.Laws.{IsLawful}
use Rattle.cyc_cpu.specs.Gone.{IsOff, PutsNot}
use Rattle.cyc_cpu.specs.Calls.{Suspend, Resume}
use Rattle.cyc_cpu.specs.Calls.{
  CpuCall,
  CpuChanges,
  CpuDoes,
  no_interrupts,
  Fire,
  SoftInterrupt,
  Add,
  Place,
  Reprogram,
  AskPending,
}
use Rattle.cyc_cpu.specs.Calls.{AskTotals, AskRoom, Reserve, Widen, BeginRemove, PollRemove, TakeNow, AskSettled}
use Rattle.cyc_cpu.proofs.Off.{none_there}
use Rattle.cyc_cpu_laws.specs.Runs.{CpuSteps}
use Rattle.cyc_cpu_laws.specs.Accounts.{made_by}
use Rattle.cyc_cpu_laws.specs.Absence.{StaysOff, run_from}
use Rattle.cyc_cpu.proofs.Shifts.{changes_shift, shift_away}
use Rattle.cyc_cpu_laws.proofs.Fires.{no_share, no_cyclic, fired_away}
use Rattle.cyc_cpu_laws.proofs.Accounting.{proceeds_one}

not_admitted : (soft : Level) (v : FiringView) (cs : List Cyclic) (id : ℕ) → AreAdmitted soft v cs → HasNoCyclic id cs →
    v.stays id ≡ None
not_admitted soft v cs id admitted none = none_there (v.stays id)
    (λ s e. let (k, c, (low, is), named, at) = admitted.only id s e in none k c low (ap (λ (x : Cyclic). x.timer.id) is ∙ named))

module _ {C R : Type 0} (handler : Calls C) (firing : Raise R) (id : ℕ) where
  -- a lawful CPU without a cyclic of the id
  off : (v : CpuView R) → IsLawful firing.view v → HasNoCyclic id v.cyclics → IsOff firing.view id v
  off v law none = record {
    no_cyclic = none;
    lock = not_admitted Lock (firing.view v.lock) v.cyclics id law.lock none;
    low = not_admitted Low (firing.view v.low) v.cyclics id law.low none;
  }

  quiet_away : (s t : Running C R) (call : CpuCall) → HasNoCyclic id s.cpu.cyclics → PutsNot id call →
      CpuChanges firing s.cpu call t.cpu × (t.calls ≡ s.calls) → HasNoCyclic id t.cpu.cyclics
  quiet_away s t call none not d =
      shift_away call s.cpu.cyclics t.cpu.cyclics id (changes_shift firing s.cpu t.cpu call d.0) not none

  away_one : (s t : Running C R) (call : CpuCall) → HasNoCyclic id s.cpu.cyclics → PutsNot id call →
      CpuDoes handler firing no_interrupts s call t → HasNoCyclic id t.cpu.cyclics
  away_one s t (Fire now (Ok r)) none not (
    early,
    kept,
    expired,
    next,
    makes,
  ) = fired_away id now _ s.cpu.cyclics t.cpu.cyclics makes.timers_are none
  away_one s t (Fire now (Err e)) none not (inl (late, is, same)) = subst (λ (x : Running C R). HasNoCyclic id x.cpu.cyclics)
      (sym same) none
  away_one s t (Fire now (Err e)) none not (inr (
    early,
    kept,
    f,
  )) = fired_away id now _ s.cpu.cyclics t.cpu.cyclics f.makes.timers_are none
  away_one s t (SoftInterrupt soft budget answer) none not d = absurd d
  away_one s t (Add own level when now answer) none not d = quiet_away s t (Add own level when now answer) none not d
  away_one s t (Place own level interval moment carried) none not d =
      quiet_away s t (Place own level interval moment carried) none not d
  away_one s t (Reprogram j moment answer) none not d = quiet_away s t (Reprogram j moment answer) none not d
  away_one s t (AskPending j answer) none not d = quiet_away s t (AskPending j answer) none not d
  away_one s t (AskTotals j answer) none not d = quiet_away s t (AskTotals j answer) none not d
  away_one s t (AskRoom more answer) none not d = quiet_away s t (AskRoom more answer) none not d
  away_one s t (Reserve more answer) none not d = quiet_away s t (Reserve more answer) none not d
  away_one s t (Widen more) none not d = quiet_away s t (Widen more) none not d
  away_one s t (BeginRemove j answer) none not d = quiet_away s t (BeginRemove j answer) none not d
  away_one s t (PollRemove answer) none not d = quiet_away s t (PollRemove answer) none not d
  away_one s t (TakeNow j answer) none not d = quiet_away s t (TakeNow j answer) none not d
  away_one s t (AskSettled answer) none not d = quiet_away s t (AskSettled answer) none not d
  away_one s t Suspend none not d = quiet_away s t Suspend none not d
  away_one s t Resume none not d = quiet_away s t Resume none not d

  -- its share of any call
  unfired_one : (s : Running C R) (call : CpuCall) (level : Level) → HasNoCyclic id s.cpu.cyclics →
      share level (timers s.cpu.cyclics) (made_by call s.cpu.cyclics) id ≡ 0
  unfired_one s call level none = no_share level id (timers s.cpu.cyclics) (made_by call s.cpu.cyclics)
      (no_cyclic id s.cpu.cyclics none)

  abbrev D : Running C R → CpuCall → Running C R → Type 0
  D = CpuSteps handler firing no_interrupts

  pub stays_off : (s t : Running C R) (way : List CpuCall) → IsLawful firing.view s.cpu → IsOff firing.view id s.cpu
      → All (PutsNot id) way →
      (run : FoldsTo D s way t) → StaysOff handler.count firing.view D id (run_from D s way t run)
  stays_off s t [] law gone not run = record {
    off = subst (λ (x : Running C R). IsOff firing.view id x.cpu) run gone;
    uncalled = ap (λ (x : Running C R). handler.count x.calls id) (sym run);
    unfired = λ level. refl;
  }
  stays_off s t (call ∷ way) law gone not (m, (does, lawful), rest) =
      let p = proceeds_one handler firing s m call law does in
      let none = away_one s m call gone.no_cyclic (not 0 call (omega arith)) does in
      let r = stays_off m t way lawful (off m.cpu lawful none) (λ k d low. not (suc k) d (omega (arith, low))) rest in
      record {
        off = r.off;
        uncalled = (let a = r.uncalled in let b = p.called id in let z = unfired_one s call High gone.no_cyclic in
            omega (arith, a, b, z));
        unfired = λ level. (let a = unfired_one s call level gone.no_cyclic in let b = r.unfired level in omega (arith, a, b));
      }
