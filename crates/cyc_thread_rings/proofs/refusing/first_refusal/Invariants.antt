use Rattle.std.proofs.Common.{◌≡◌, drop}
use Rattle.cyc_thread_rings.specs.Refusing.{refusals_from, first_in}
use Rattle.cyc_thread_rings.proofs.refusing.first_refusal.Given as goal

abbrev pub invariant-loop-cpu : goal.invariant-loop-cpu
invariant-loop-cpu g l = first_in (refusals_from l.cpu l.fire (drop l.cpu l.drained))
    ≡ first_in (refusals_from 0 l.fire l.drained)
