use Rattle.cyc_types.specs.Levels.{as_level, handler_at}
use Rattle.cyc_workers.proofs.Making.{served, was_refused}
use Rattle.cyc_workers.proofs.draining.serve.Goals as goal

pub returns-clause-ran : goal.returns-clause-ran
returns-clause-ran g c = served g.D.Drain (handler_at g.C.Calls (as_level c.args.level))
    64 c.softint.result c.args.side.now (record { drain = c.softint.new.drain; calls = c.softint.new.calls }) c.softint.ensures

pub returns-clause-refused : goal.returns-clause-refused
returns-clause-refused g c = was_refused g.D.Drain (handler_at g.C.Calls (as_level c.args.level))
    64 c.softint.result c.args.side.now (record { drain = c.softint.new.drain; calls = c.softint.new.calls }) c.softint.ensures
