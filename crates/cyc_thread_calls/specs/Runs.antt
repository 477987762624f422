-- What a whole run of a script in threads did, from the opening of its rings to their closing.
use Rattle.std.specs.Prelude.{ℕ, List}
use Rattle.cyc_types.specs.declared.Calls.{Ghosts as Calls}
use Rattle.cyc_ring.specs.Ends.{raise_end}
use Rattle.cyc_script.specs.declared.script.Script.{Script}
use Rattle.cyc_system_rings.specs.Leading.{LeadCall}
use Rattle.cyc_threads.specs.declared.running.Ended.{Ended}
use Rattle.cyc_threads.specs.Running.{HasRun}
use Rattle.cyc_thread_calls.specs.Leading.{run_calls}

module _ {C : Type 0} (handler : Calls C) (script : Script) (calls : List C) (e : Ended C) (text : List ℕ)
    (run : HasRun handler script calls e text) where
  -- the calls of its system
  abbrev pub calls_of_run : List LeadCall
  calls_of_run = run_calls handler raise_end run.played.first script.steps.items run.played.last run.played.runs
