-- All that can happen to a system: its calls, each with its answer, and what each of them does.
use Rattle.std.specs.Prelude.{◌≡◌, ℕ, [], ◌∷◌, Option, Some, None, Result, Ok, Err}
use Rattle.cyc_types.specs.declared.Calls.{Ghosts as Calls}
use Rattle.cyc_types.specs.declared.Raise.{Ghosts as Raise}
use Rattle.cyc_types.specs.declared.level.Level.{Level}
use Rattle.cyc_types.specs.declared.level.Soft.{Soft}
use Rattle.cyc_types.specs.declared.moment.When.{When}
use Rattle.cyc_types.specs.declared.receipt.Receipt.{Receipt}
use Rattle.cyc_types.specs.declared.refusal.JuggleReport.{JuggleReport}
use Rattle.cyc_types.specs.declared.refusal.Refusal.{Refusal}
use Rattle.cyc_soft.specs.declared.Ran.{Ran}
use Rattle.cyc_soft.specs.declared.SoftRefused.{SoftRefused}
use Rattle.cyc_types.specs.Reasons.{bad_now}
use Rattle.cyc_timers.specs.declared.fire.Fired.{Fired}
use Rattle.cyc_timers.specs.declared.fire.FireRefused.{FireRefused}
use Rattle.cyc_cpu.specs.Cpu.{Running}
use Rattle.cyc_cpu.specs.Calls.{Reprogram as CpuReprogram, Fire, SoftInterrupt as CpuSoftInterrupt}
use Rattle.cyc_cpu.specs.Calls.{Suspend as CpuSuspend, Resume as CpuResume}
use Rattle.cyc_agreement.specs.Cpus.{CallOn, on, running_cpus, RunsAt}
use Rattle.cyc_system.specs.declared.system.SoftFault.{SoftFault}
use Rattle.cyc_system.specs.declared.system.SoftFault.TheVariants.{Refused}
use Rattle.cyc_system.specs.declared.system.SoftFault.TheVariants as fault
use Rattle.cyc_agreement.specs.System.{SystemView, RunningSystem}
use Rattle.cyc_agreement.specs.Refusals.{Unless, ids_spent, no_cyclic, omnipresent, no_cpu, offline_cpu, no_component}
use Rattle.cyc_agreement.specs.Adding.{OnlyWorks, add_request, Adds}
use Rattle.cyc_agreement.specs.Binding.{HasHome, Unbinds, Binds}
use Rattle.cyc_agreement.specs.declared.removing.SystemRemoval.{SystemRemoval}
use Rattle.cyc_agreement.specs.declared.totals.SystemTotals.{SystemTotals}
use Rattle.cyc_agreement.specs.Removing.{BeginsRemoval}
use Rattle.cyc_agreement.specs.Polling.{PollsRemoval}
use Rattle.cyc_agreement.specs.Counting.{AsksTotals}
use Rattle.cyc_system.specs.Juggling.{Juggles}
use Rattle.cyc_system.specs.GoingOffline.{GoesOffline}
use Rattle.cyc_agreement.specs.Omni.{AddsOmni}
use Rattle.cyc_agreement.specs.Online.{GoesOnline, online_cpu}
use Rattle.cyc_agreement.specs.Suspending.{suspended, not_suspended, MarksEach}

-- the calls on a system that can change anything, each with its parameters and its answer
pub data SystemCall : Type 0 where
  Add : Level → When → ℕ → Result ℕ Refusal → SystemCall
  AddOmni : Level → When → ℕ → ℕ → Result ℕ Refusal → SystemCall
  Bind : ℕ → Option ℕ → Result (Unit {0}) Refusal → SystemCall
  BeginRemove : ℕ → Result SystemRemoval Refusal → SystemCall
  PollRemove : ℕ → Result (Option Receipt) Refusal → SystemCall
  AskTotals : ℕ → Option SystemTotals → SystemCall
  Reprogram : ℕ → ℕ → Result (Unit {0}) Refusal → SystemCall
  ReprogramOn : ℕ → ℕ → ℕ → Result (Unit {0}) Refusal → SystemCall
  Juggle : ℕ → Result JuggleReport Refusal → SystemCall
  Offline : ℕ → Result (Unit {0}) Refusal → SystemCall
  Online : ℕ → ℕ → Result (Unit {0}) Refusal → SystemCall
  FireOne : ℕ → ℕ → Result Fired FireRefused → SystemCall
  SoftInterrupt : ℕ → Soft → ℕ → Result Ran SoftFault → SystemCall
  Suspend : Result (Unit {0}) Refusal → SystemCall
  Resume : Result (Unit {0}) Refusal → SystemCall

-- the call that gives a cyclic another next expiration, or its component on a CPU where one is named
abbrev pub reprograms : Option ℕ → ℕ → ℕ → Result (Unit {0}) Refusal → SystemCall
reprograms None id moment answer = Reprogram id moment answer
reprograms (Some n) id moment answer = ReprogramOn id n moment answer

-- the call by which a CPU gives a cyclic of it another moment
abbrev pub reprogramming : ℕ → ℕ → ℕ → CallOn
reprogramming id n moment = on n (CpuReprogram id moment (Ok tt))

-- that call was made, and nothing else changed
abbrev pub Reprograms : {R : Type 0} → Raise R
    → CallOn → Result (Unit {0}) Refusal → SystemView R → SystemView R → Type 0
Reprograms firing it answer s t = (answer ≡ Ok tt) × OnlyWorks firing (it ∷ []) s t

-- what a call does that reaches no handler: first the reasons for which it is refused, in their order
abbrev pub Changes : {R : Type 0} → Raise R
    → SystemView R → SystemCall → SystemView R → Type 0
Changes firing s (Add level when now answer) t =
    Unless (bad_now now ∷ ids_spent s ∷ []) (λ e. Err e) answer s t (Adds firing (add_request level when now) answer s t)
Changes firing s (AddOmni level when skew now answer) t =
    Unless (bad_now now ∷ ids_spent s ∷ []) (λ e. Err e) answer s t (AddsOmni firing (add_request level when now) skew answer s t)
Changes firing s (Bind id None answer) t =
    Unless (no_cyclic id s ∷ omnipresent id s ∷ []) (λ e. Err e) answer s t (Unbinds id answer s t)
Changes firing s (Bind id (Some n) answer) t =
    Unless (no_cyclic id s ∷ omnipresent id s ∷ no_cpu n s ∷ offline_cpu n s ∷ []) (λ e. Err e) answer s t
    (Binds firing id n answer s t)
Changes firing s (BeginRemove id answer) t = BeginsRemoval firing id answer s t
Changes firing s (PollRemove id answer) t = PollsRemoval firing id answer s t
Changes firing s (AskTotals id answer) t = AsksTotals firing id answer s t
Changes firing s (Reprogram id moment answer) t = Unless (no_cyclic id s ∷ omnipresent id s ∷ []) (λ e. Err e) answer s t
    ((n : ℕ) × HasHome id n s × Reprograms firing (reprogramming id n moment) answer s t)
Changes firing s (ReprogramOn id n moment answer) t =
    Unless (no_cyclic id s ∷ no_cpu n s ∷ offline_cpu n s ∷ no_component id n s ∷ []) (λ e. Err e) answer s t
    (Reprograms firing (reprogramming id n moment) answer s t)
Changes firing s (Juggle n answer) t = Juggles firing n answer s t
Changes firing s (Offline n answer) t = GoesOffline firing n answer s t
Changes firing s (Online n now answer) t =
    Unless (no_cpu n s ∷ online_cpu n s ∷ bad_now now ∷ []) (λ e. Err e) answer s t (GoesOnline firing n now answer s t)
Changes firing s (Suspend answer) t = Unless (suspended s ∷ []) (λ e. Err e) answer s t (MarksEach firing CpuSuspend answer s t)
Changes firing s (Resume answer) t = Unless (not_suspended s ∷ []) (λ e. Err e) answer s t (MarksEach firing CpuResume answer s t)
Changes firing s (FireOne n now answer) t = ⊥
Changes firing s (SoftInterrupt n level budget answer) t = ⊥

-- a fire is refused for this reason, before its first expiration
abbrev pub no_fire : Refusal → FireRefused
no_fire e = record { why = e; expired = 0; lost = 0 }

-- what a system answers where the CPU answered this
abbrev pub of_cpu : Result Ran SoftRefused → Result Ran SoftFault
of_cpu (Ok ran) = Ok ran
of_cpu (Err e) = Err (Refused e)

-- What each call does to a system and its handlers. `interrupts` is what a soft interrupt does to a CPU, where one thread has
-- both sides of its levels.
abbrev pub Does : {C R : Type 0} → Calls C → Raise R
    → (Soft → ℕ → Result Ran SoftRefused → Running C R → Running C R → Type 0)
    → RunningSystem C R → SystemCall → RunningSystem C R → Type 0
Does handler firing interrupts s (FireOne n now answer) t =
    Unless (no_cpu n s.system ∷ offline_cpu n s.system ∷ []) (λ e. Err (no_fire e)) answer s t
    (RunsAt handler firing interrupts (running_cpus s.calls s.system.cpus) (on n (Fire now answer))
    (running_cpus t.calls t.system.cpus)
    × (t.system.records ≡ s.system.records) × (t.system.last ≡ s.system.last))
Does handler firing interrupts s (SoftInterrupt n level budget answer) t =
    Unless (no_cpu n s.system ∷ []) (λ e. Err fault.NoCpu) answer s t
    ((own : Result Ran SoftRefused) × (answer ≡ of_cpu own)
    × RunsAt handler firing interrupts (running_cpus s.calls s.system.cpus)
    (on n (CpuSoftInterrupt level budget own)) (running_cpus t.calls t.system.cpus)
    × (t.system.records ≡ s.system.records) × (t.system.last ≡ s.system.last))
Does handler firing interrupts s call t = Changes firing s.system call t.system × (t.calls ≡ s.calls)
