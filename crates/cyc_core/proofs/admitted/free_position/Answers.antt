use Rattle.cyc_core.proofs.Free.{last_taken}
use Rattle.cyc_core.proofs.admitted.free_position.Goals as goal

pub returns-in-Some-clause-free : goal.returns-in-Some-clause-free
returns-in-Some-clause-free c = last_taken c.args.kept.now.items c.args.free.now.items c.pop.new.self.items c.in-Some.position
    c.in-Some.ensures.items c.requires.free
