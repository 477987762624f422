-- What the thread that leads a system does with it, while other threads drain its levels.
use Rattle.std.specs.Prelude.{◌≡◌, ℕ}
use Rattle.cyc_types.specs.declared.Calls.{Ghosts as Calls}
use Rattle.cyc_types.specs.declared.Raise.{Ghosts as Raise}
use Rattle.cyc_system_laws.specs.SystemCalls.{SystemCall, Changes}
use Rattle.cyc_system_workers.specs.declared.side.SystemSide.{SystemSide}
use Rattle.cyc_system_workers.specs.declared.advancing.Advanced.{Advanced}
use Rattle.cyc_system_workers.specs.Advancing.{AllFire}
use Rattle.cyc_system_workers.specs.Settling.{OnlyAsked}
use Rattle.cyc_system_laws.specs.Sound.{IsSound}

-- a call of the system that reaches no handler, an advance, or a question
pub data LeadCall : Type 0 where
  Make : SystemCall → LeadCall
  -- every online CPU fires at this moment, with its own handlers
  FireAll : ℕ → LeadCall
  -- all CPUs are asked whether they have settled
  AskAll : LeadCall

-- what each of these does
abbrev pub Leads : {C R : Type 0} → Calls C
    → Raise R → SystemSide R C → LeadCall → SystemSide R C → Type 0
Leads handler firing s (Make call) t = Changes firing s.system call t.system × (t.leads ≡ s.leads)
Leads {C} {R} handler firing s (FireAll now) t =
    (after : Advanced R C) × AllFire handler firing now s after × (t ≡ after.side)
Leads handler firing s AskAll t = OnlyAsked firing s t

-- one of a run: the system is sound after it, as it is between any two calls
abbrev pub LeadSteps : {C R : Type 0} → Calls C
    → Raise R → SystemSide R C → LeadCall → SystemSide R C → Type 0
LeadSteps handler firing s call t =
    Leads handler firing s call t × IsSound firing.view t.system
