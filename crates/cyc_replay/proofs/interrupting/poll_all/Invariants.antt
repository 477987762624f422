use Rattle.std.proofs.Common.{◌≡◌, ◌-◌, ◌^◌, ◌<◌, ◌++◌, ℕ, List, [], map, Some}
use Rattle.std.specs.Prelude.{◌↔◌, string_bytes}
use Rattle.cyc_script.specs.declared.step.Softint.{Softint as SoftintStep}
use Rattle.cyc_system.specs.System.{removal_on}
use Rattle.cyc_model.specs.State.{State}
use Rattle.cyc_model.specs.Softint.{interrupt, leaving_ids}
use Rattle.cyc_replay.specs.Interrupting.{polls_of, IsPolling}
use Rattle.cyc_replay.proofs.OpenRemovals.{up_to}
use Rattle.cyc_replay.proofs.interrupting.poll_all.Given as goal

-- the removals up to this id were polled, and those above it are as they were
abbrev pub invariant-loop-id : goal.invariant-loop-id
invariant-loop-id l = record {
  polling : (i : SoftintStep) (s : State) → IsPolling (map string_bytes l.names) l.step (polls_of [] []) i s l.initial.machine
      → (lines : List ℕ) × (string_bytes l.line ≡ string_bytes l.initial.line ++ lines)
      × IsPolling (map string_bytes l.names) l.step (polls_of (up_to l.last (leaving_ids (interrupt l.step i s).state)) lines)
      i s l.machine;
  ahead : (n k : ℕ) → l.last < k
      → (removal_on n l.machine.system.cpus ≡ Some k) ↔ (removal_on n l.initial.machine.system.cpus ≡ Some k);
}

abbrev pub decreases-loop-id : goal.decreases-loop-id
decreases-loop-id l = 2 ^ 64 - l.last
