use Rattle.cyc_cpu.proofs.Fresh.{empty_is_fresh}
use Rattle.cyc_system_tests.proofs.levels.level.Goals as goal

pub returns-in-Ok : goal.returns-in-Ok
returns-in-Ok c = empty_is_fresh _ _ c.in-Ok.ensures.ok
