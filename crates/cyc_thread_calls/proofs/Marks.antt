-- Whether the system is suspended, from step to step.
use Rattle.std.proofs.Common.{◌≡◌, ◌∙◌, ℕ, Bool, true, false, Option, Some, None, Result, List, [], ◌∷◌}
use Rattle.std.proofs.Common.{length, sym, ap, arith}
use Rattle.std.specs.List.{FoldsTo}
use Rattle.std.specs.Option.{option_map_or}
use Rattle.std.proofs.lemmas.Option.{slice_get_within}
use Rattle.cyc_types.specs.declared.Calls.{Ghosts as Calls}
use Rattle.cyc_types.specs.declared.Raise.{Ghosts as Raise}
use Rattle.cyc_script.specs.declared.step.Step.{Step}
use Rattle.cyc_script.specs.declared.step.Step.TheVariants as steps
use Rattle.cyc_timers.specs.declared.fire.Fired.{Fired}
use Rattle.cyc_timers.specs.declared.fire.FireRefused.{FireRefused}
use Rattle.cyc_cpu.specs.Cpu.{CpuView, Running, running}
use Rattle.cyc_cpu.specs.Calls.{AskSettled, no_interrupts}
use Rattle.cyc_cpu.proofs.Calling.{changes_suspended, fire_keeps}
use Rattle.cyc_agreement.specs.Suspending.{is_suspended}
use Rattle.cyc_threads.specs.Calls.{SystemCall, PollRemove, Suspend, Resume}
use Rattle.cyc_threads.specs.Settling.{AsksSettled}
use Rattle.cyc_threads.specs.SystemSide.{SystemSide}
use Rattle.cyc_threads.specs.Advancing.{moment_asked, FiresIf}
use Rattle.cyc_threads.specs.declared.progress.Progress.{Progress}
use Rattle.cyc_threads.specs.StepCalls.{CallsFor, Poll, Polls, SettlesAll, Fires, HasLeads}
use Rattle.cyc_words.proofs.Within.{IsCallOf}
use Rattle.cyc_threads.specs.Words.{DoesStep, Begins, waits_first}
use Rattle.cyc_thread_calls.proofs.Called.{by_word}
use Rattle.cyc_threads.proofs.Spots.{get_some}
use Rattle.cyc_system_rings.proofs.Suspending.{marks_each}
use Rattle.cyc_threads.proofs.Pieces.{LeavesMarks, marks_same}

-- the word neither suspends the system nor resumes it, and no CPU fires
abbrev pub LeavesSuspended : Step → Type 0
LeavesSuspended steps.Suspend = ⊥
LeavesSuspended steps.Resume = ⊥
LeavesSuspended (steps.Advance now) = ⊥
LeavesSuspended x = Unit {0}

module _ {R : Type 0} (firing : Raise R) where
  call_leaves : (x : Step) (call : SystemCall) → LeavesSuspended x → IsCallOf x call → LeavesMarks firing call
  call_leaves steps.Suspend call plain is = absurd plain
  call_leaves steps.Resume call plain is = absurd plain
  call_leaves x (Suspend answer) plain is = absurd is
  call_leaves x (Resume answer) plain is = absurd is
  call_leaves x call plain is = tt

  asks_mark : (answers : List Bool) (x y : CpuView R) → FoldsTo (AsksSettled firing) x answers y → y.suspended ≡ x.suspended
  asks_mark [] x y e = ap (λ (z : CpuView R). z.suspended) (sym e)
  asks_mark (answer ∷ answers) x y (z, (first, lawful), rest) =
      asks_mark answers z y rest ∙ changes_suspended firing x z (AskSettled answer) tt first

-- ---- steps

module _ {C R : Type 0} (handler : Calls C) (firing : Raise R) where
  abbrev Same : Progress R C → Progress R C → Type 0
  Same s t = is_suspended t.side.system ≡ is_suspended s.side.system

  same_is : (s t : Progress R C) → t ≡ s → Same s t
  same_is s t e = ap (λ (p : Progress R C). is_suspended p.side.system) e

  call_same : (name : ℕ) (call : SystemCall) (s t : Progress R C) → LeavesMarks firing call → CallsFor firing name call s t
      → Same s t
  call_same name call s t plain c = ap (λ o. option_map_or (λ suspended. suspended) o false)
      (marks_same firing s.side.system t.side.system call plain c.did 0)

  polls_same : (polls : List Poll) (s t : Progress R C) → FoldsTo (Polls firing) s polls t → Same s t
  polls_same [] s t e = same_is s t (sym e)
  polls_same (p ∷ polls) s t (u, (here, did), rest) =
      polls_same polls u t rest ∙ call_same p.name (PollRemove p.id p.answer) s u tt did

  settles_same : (s t : Progress R C) → SettlesAll firing s t → Same s t
  settles_same s t w = marks_each s.side.system.cpus.cpus t.side.system.cpus.cpus w.asked.cpus.long
      (λ n x y p q. (let a = w.asked.cpus.each n x y p q in asks_mark firing a.0 x y a.1))

  pub begins_same : (b : Bool) (s t : Progress R C) → Begins firing b s t → Same s t
  begins_same false s t e = same_is s t e
  begins_same true s t (polls, u, polled, settled) = settles_same u t settled ∙ polls_same polls s u polled

  pub does_same : (x : Step) (s t : Progress R C) → LeavesSuspended x → DoesStep handler firing x s t → Same s t
  does_same steps.Suspend s t plain d = absurd plain
  does_same steps.Resume s t plain d = absurd plain
  does_same (steps.Advance now) s t plain d = absurd plain
  does_same (steps.Softint i) s t plain d = same_is s t d
  does_same x s t plain d = by_word handler firing s t (λ o. Same s t) (λ e. same_is s t e) x tt
      (λ name call is c. call_same name call s t (call_leaves firing x call plain is) c) d

  pub step_same : (x : Step) (s u t : Progress R C) → LeavesSuspended x → Begins firing (waits_first x) s u
      → DoesStep handler firing x u t → Same s t
  step_same x s u t plain begins does = does_same x u t plain does ∙ begins_same (waits_first x) s u begins

  fired_mark : (up : Bool) (now : ℕ) (x y : CpuView R) (a b : C) (answer : Option (Result Fired FireRefused))
      → FiresIf handler firing (moment_asked up now) (running a x) answer (running b y) → y.suspended ≡ x.suspended
  fired_mark true now x y a b (Some answer) f =
      (fire_keeps handler firing no_interrupts now (running a x) (running b y) answer f).suspended
  fired_mark true now x y a b None f = absurd f
  fired_mark false now x y a b (Some answer) f = absurd f
  fired_mark false now x y a b None f = ap (λ (r : Running C R). r.cpu.suspended) f

  pub fires_same : (now : ℕ) (s t : Progress R C) → Fires handler firing now s t → HasLeads s
      → length s.side.system.cpus.online ≡ length s.side.system.cpus.cpus → Same s t
  fires_same now s t f ready ups = ap (λ (z : SystemSide R C). is_suspended z.system) f.side
      ∙ marks_each s.side.system.cpus.cpus f.after.side.system.cpus.cpus f.fired.long
      (λ n x y p q. (let low = slice_get_within s.side.system.cpus.cpus n x p in let leads = f.fired.long_leads in
      let answers = f.fired.long_answers in
      let (up, at_up) = get_some s.side.system.cpus.online n (omega (arith, low, ups)) in
      let (l, at_l) = get_some s.side.leads.items n (omega (arith, low, ready)) in
      let (m, at_m) = get_some f.after.side.leads.items n (omega (arith, low, ready, leads)) in
      let (answer, at_a) = get_some f.after.answers.items n (omega (arith, low, answers)) in
      fired_mark up now x y l.calls m.calls answer (f.fired.each n up x y l m answer at_up p q at_l at_m at_a)))
