use Rattle.cyc_agreement.proofs.Shifts.{is_taken}
use Rattle.cyc_agreement.proofs.cpus.Cpus.take.Goals as goal

pub unreachable-requires : goal.unreachable-requires
unreachable-requires g c =
    is_taken g.R.Raise c.args.id c.cpu_mut.result.now c.take_now.new.self c.in_default.field-0
    (c.requires.leaves c.cpu_mut.result.now c.cpu_mut.ensures.cpu) c.in_default.ensures.did
