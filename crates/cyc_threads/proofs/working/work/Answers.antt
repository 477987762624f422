use Rattle.std.proofs.Common.{map, arith}
use Rattle.std.proofs.lemmas.List.{length-map}
use Rattle.cyc_thread_rings.specs.Working.{HasPromised, sides_of}
use Rattle.cyc_thread_rings.proofs.Each.{each_long}
use Rattle.cyc_threads.proofs.Workers.{kept_all, works_all}
use Rattle.cyc_threads.proofs.working.work.Goals as goal

pub join_all-requires-clause-room : goal.join_all-requires-clause-room
join_all-requires-clause-room g c =
    let long = each_long HasPromised (map sides_of c.args.drainers.items) c.in_ok-workers.workers.items
    c.in_ok-workers.ensures.started in
    let same = length-map c.args.drainers.items sides_of in let room = c.in_ok-drained.ensures.capacity in
    omega (arith, long, same, room)

pub returns : goal.returns
returns g c = works_all g.C.Calls g.R.Raise g.D.Drain
    c.args.script.now.steps.items c.args.lead (map sides_of c.args.drainers.items) c.join_all.new.drained.items
    (kept_all g.C.Calls g.D.Drain
    (map sides_of c.args.drainers.items) c.in_ok-workers.workers.items
    c.join_all.new.drained.items c.in_ok-workers.ensures.started c.join_all.ensures)
    c.take_steps-taken.result c.all_left.result c.take_steps-taken.ensures.ran c.take_steps-taken.ensures.halted
    c.all_left.ensures.none c.all_left.ensures.lead c.all_left.ensures.soft c.all_left.ensures.refused
