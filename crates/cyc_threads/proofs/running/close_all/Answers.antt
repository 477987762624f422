use Rattle.std.proofs.Common.{List, ap, ◌∙◌}
use Rattle.std.specs.Prelude.{flat_map}
use Rattle.cyc_workers.specs.declared.cpu.Handlers.{Handlers}
use Rattle.cyc_thread_rings.specs.Laid.{three}
use Rattle.cyc_threads.proofs.Ran.{closed_all}
use Rattle.cyc_threads.proofs.running.close_all.Goals as goal

pub returns-clause-calls : goal.returns-clause-calls
returns-clause-calls g c = c.in_ok-calls.ensures
    ∙ ap (λ (x : List (Handlers _)). flat_map three x) c.in_ok-seats.ensures.calls

pub returns-clause-rings : goal.returns-clause-rings
returns-clause-rings g c = closed_all c.args.all.items c.in_ok-seats.seats.items c.in_ok-closed.closed.items
    c.in_ok-rings.rings.items c.in_ok-seats.ensures.seats c.in_ok-closed.ensures c.in_ok-rings.ensures
