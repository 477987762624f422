use Rattle.std.specs.Prelude.{◌≡◌, ℕ, ◌<◌, None}
use Rattle.cyc_threads.specs.StepCalls.{refusal_at}
use Rattle.cyc_threads.proofs.advancing.first_refused.Given as goal

abbrev pub invariant-loop-cpu : goal.invariant-loop-cpu
invariant-loop-cpu l = (n : ℕ) → n < l.cpu → refusal_at l.fn.answers n ≡ None
