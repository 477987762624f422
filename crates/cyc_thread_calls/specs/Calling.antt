-- The calls that the handlers of a run in threads had, level by level.
use Rattle.std.specs.Prelude.{ℕ, List, map, sum_by, Option}
use Rattle.cyc_types.specs.declared.Calls.{Ghosts as Calls}
use Rattle.cyc_types.specs.declared.level.Level.{Level}
use Rattle.cyc_types.specs.declared.level.Level.TheVariants.{Low, Lock, High}
use Rattle.cyc_ring.specs.declared.ends.RaiseEnd.{RaiseEnd}
use Rattle.cyc_ring.specs.Ends.{raise_end}
use Rattle.cyc_script.specs.declared.script.Script.{Script}
use Rattle.cyc_threads.specs.System.{SystemView}
use Rattle.cyc_system_rings.specs.Leading.{LeadCall}
use Rattle.cyc_threads.specs.Handlers.{Handlers}
use Rattle.cyc_threads.specs.Seated.{Seated}
use Rattle.cyc_threads.specs.declared.running.Ended.{Ended}
use Rattle.cyc_threads.specs.Running.{HasRun}
use Rattle.cyc_thread_calls.specs.Giving.{id_given}
use Rattle.cyc_thread_calls.specs.Leading.{all_calls}

-- the handlers of a level: those that the firing worker calls at once, and those of the two draining workers
abbrev pub handlers_at : {C : Type 0} → Level → Handlers C → C
handlers_at High h = h.high
handlers_at Lock h = h.lock
handlers_at Low h = h.low

-- the calls of an id that those of a level had, on all CPUs
abbrev pub calls_at_level : {C : Type 0} → (C → ℕ → ℕ) → Level → ℕ → List (Seated C) → ℕ
calls_at_level {C} count level id all = sum_by (λ c. count c id) (map (λ s. handlers_at level s.calls) all)

module _ {C : Type 0} (handler : Calls C) (script : Script) (calls : List C) (e : Ended C) (text : List ℕ)
    (r : HasRun handler script calls e text) where
  -- what led the run, from its first step to the last line of its report
  abbrev pub lead_calls : List LeadCall
  lead_calls = all_calls handler raise_end script.steps.items r.lines r.played.first r.played.last
      r.played.told r.played.runs r.played.reports

  -- the system with which it ends
  abbrev pub last_system : SystemView RaiseEnd
  last_system = r.played.told.side.system

  -- the id that it gave the name of this number
  abbrev pub id_of_name : ℕ → Option ℕ
  id_of_name name = id_given handler raise_end name r.played.first script.steps.items r.played.last r.played.runs
