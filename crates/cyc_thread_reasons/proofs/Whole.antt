-- A run, from its beginning.
use Rattle.std.proofs.Common.{ℕ, ◌≤◌, List, length, arith}
use Rattle.cyc_types.specs.declared.Calls.{Ghosts as Calls}
use Rattle.cyc_ring.specs.Ends.{raise_end}
use Rattle.cyc_script.specs.declared.script.Script.{Script}
use Rattle.cyc_thread_calls.specs.Ended.{Ended}
use Rattle.cyc_thread_calls.specs.Running.{HasRun}
use Rattle.cyc_thread_calls.proofs.Beginning.{first_calm, first_awake}
use Rattle.cyc_thread_reasons.specs.Known.{known_first}
use Rattle.cyc_thread_reasons.specs.Explained.{AllExplained}
use Rattle.cyc_thread_reasons.proofs.Beginning.{first_fits}
use Rattle.cyc_thread_reasons.proofs.Walking.{few_names, run_explained}

module _ {C : Type 0} (handler : Calls C) (script : Script) (calls : List C) (e : Ended C) (text : List ℕ)
    (r : HasRun handler script calls e text) where
  names_few : length script.names.items ≤ 65536
  names_few = let a = few_names 0 script.steps.items in let b = script.well_formed.names_introduced in
      let c = script.well_formed.few_steps in omega (arith, a, b, c)

  pub explained : AllExplained handler raise_end (known_first script.cpus (length script.names.items)) r.played.first
      script.steps.items r.played.last r.played.runs
  explained = run_explained handler raise_end (length script.names.items) names_few
      (known_first script.cpus (length script.names.items)) script.steps.items r.played.first r.played.last r.played.runs
      (first_fits (length script.names.items) script.cpus r.before r.played.first r.played.begins r.many)
      (λ q. first_calm (length script.names.items) script.cpus r.before r.played.first r.played.begins r.many)
      (first_awake (length script.names.items) script.cpus r.before r.played.first r.played.begins r.many)
      script.well_formed.names_in_order script.well_formed.names_introduced script.well_formed.moments_in_order
