use Rattle.cyc_system_workers.proofs.Beside.{all_kept}
use Rattle.cyc_system_workers.proofs.firing.fire_in.Goals as goal

pub returns : goal.returns
returns g c = all_kept g.C.Calls g.R.Raise c.args.now
    c.args.lanes.items c.start_all-all_started.new.started.items c.join_all.new.after.items
    c.in_ok-all_started.ensures.begun c.join_all.ensures
