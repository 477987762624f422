-- There stays something to lead each CPU.
use Rattle.std.proofs.Common.{inl, inr, ◌≡◌, ℕ, List, [], ◌∷◌, length, sym, ap, ◌∙◌}
use Rattle.std.specs.Prelude.{Bool, true, false}
use Rattle.std.specs.List.{FoldsTo}
use Rattle.cyc_types.specs.declared.Calls.{Ghosts as Calls}
use Rattle.cyc_types.specs.declared.Raise.{Ghosts as Raise}
use Rattle.cyc_script.specs.declared.step.Step.{Step}
use Rattle.cyc_system_workers.specs.Calls.{SystemCall, PollRemove}
use Rattle.cyc_system_laws.proofs.Lengths.{changes_long}
use Rattle.cyc_system_workers.specs.declared.side.SystemSide.{SystemSide}
use Rattle.cyc_threads.specs.declared.progress.Progress.{Progress}
use Rattle.cyc_threads.specs.StepCalls.{CallsFor, Poll, Polls, Waits, Fires, Advances, HasLeads}
use Rattle.cyc_threads.proofs.Worded.{does_by}
use Rattle.cyc_threads.specs.Words.{DoesStep, Begins, TakesStep, waits_first}

module _ {C R : Type 0} (handler : Calls C) (firing : Raise R) where
  calls_ready : (name : ℕ) (call : SystemCall) (s t : Progress R C) → CallsFor firing name call s t → HasLeads s → HasLeads t
  calls_ready name call s t c ready = ap (λ (l : _). length l.items) c.leads ∙ ready
      ∙ sym (changes_long firing s.side.system t.side.system call c.did)

  pub polls_ready : (polls : List Poll) (s t : Progress R C) → FoldsTo (Polls firing) s polls t → HasLeads s → HasLeads t
  polls_ready [] s t e ready = ap (λ (p : Progress R C). length p.side.leads.items) (sym e) ∙ ready
      ∙ ap (λ (p : Progress R C). length p.side.system.cpus.cpus) e
  polls_ready (p ∷ polls) s t (u, d, rest) ready =
      polls_ready polls u t rest (calls_ready p.name (PollRemove p.id p.answer) s u d.1 ready)

  pub waits_ready : (s t : Progress R C) → Waits firing s t → HasLeads s → HasLeads t
  waits_ready s t (polls, u, p, q) ready = ap (λ (l : _). length l.items) q.asked.leads ∙ polls_ready polls s u p ready
      ∙ sym q.asked.cpus.long

  same_ready : (s t : Progress R C) → t ≡ s → HasLeads s → HasLeads t
  same_ready s t e ready = ap (λ (p : Progress R C). length p.side.leads.items) e ∙ ready
      ∙ ap (λ (p : Progress R C). length p.side.system.cpus.cpus) (sym e)

  pub begins_ready : (b : Bool) (s t : Progress R C) → Begins firing b s t → HasLeads s → HasLeads t
  begins_ready true s t w ready = waits_ready s t w ready
  begins_ready false s t e ready = same_ready s t e ready

  fires_ready : (now : ℕ) (s t : Progress R C) → Fires handler firing now s t → HasLeads s → HasLeads t
  fires_ready now s t f ready = ap (λ (z : SystemSide R C). length z.leads.items) f.side ∙ f.fired.long_leads ∙ ready
      ∙ sym f.fired.long ∙ ap (λ (z : SystemSide R C). length z.system.cpus.cpus) (sym f.side)

  advances_ready : (now : ℕ) (s t : Progress R C) → Advances handler firing now s t → HasLeads s → HasLeads t
  advances_ready now s t (inl (asleep, same)) ready = ap (λ (p : Progress R C). length p.side.leads.items) same ∙ ready
      ∙ ap (λ (p : Progress R C). length p.side.system.cpus.cpus) (sym same)
  advances_ready now s t (inr fires) ready = fires_ready now s t fires ready

  pub does_ready : (x : Step) (s t : Progress R C) → DoesStep handler firing x s t → HasLeads s → HasLeads t
  does_ready x s t d ready = does_by handler firing (HasLeads t) x s t (λ name call c. calls_ready name call s t c ready)
      (λ now a. advances_ready now s t a ready) (λ e. same_ready s t e ready) d

  pub step_ready : (s : Progress R C) (x : Step) (t : Progress R C) → TakesStep handler firing s x t → HasLeads s → HasLeads t
  step_ready s x t (u, b, d) ready = does_ready x u t d (begins_ready (waits_first x) s u b ready)
