use Rattle.std.proofs.Common.{List, sym, ap, ◌∙◌, map, length, Result, Ok, Err, IfOk}
use Rattle.cyc_ring.specs.declared.ends.RaiseEnd.{RaiseEnd}
use Rattle.cyc_cpu.specs.Cpu.{CpuView}
use Rattle.cyc_thread_rings.specs.Rings.{seats_on}
use Rattle.cyc_threads.proofs.running.leave_cpus.Goals as goal

both : {A E : Type 0} (r : Result A E) {P Q S : A → Type 0} → ((a : A) → P a → Q a → S a) → IfOk r P → IfOk r Q → IfOk r S
both (Ok a) f p q = f a p q
both (Err e) f p q = p

pub leave_all-requires-clause-leads : goal.leave_all-requires-clause-leads
leave_all-requires-clause-leads g c = c.requires.ready ∙ ap (λ (x : List (CpuView RaiseEnd)). length x) (sym c.split.ensures.cpus)

pub leave_all-requires-clause-soft : goal.leave_all-requires-clause-soft
leave_all-requires-clause-soft g c = c.requires.soft ∙ ap (λ (x : List (CpuView RaiseEnd)). length x) (sym c.split.ensures.cpus)

pub returns-clause-last : goal.returns-clause-last
returns-clause-last g c = both c.leave_all.result (λ all firing high. record {
  firing = firing ∙ ap (λ (x : List (CpuView RaiseEnd)). map seats_on x) c.split.ensures.cpus;
  high = high;
}) c.leave_all.ensures.firing c.leave_all.ensures.high
