use Rattle.std.proofs.lemmas.Result.{IfOk-weaker}
use Rattle.cyc_ring.proofs.soft.softint.Goals as goal

pub returns-clause-found : goal.returns-clause-found
returns-clause-found g c =
    IfOk-weaker c.softint.result _ _ (λ r idle yes. let (before, way, went, last, empty) = idle yes in
    c.idle_is_found.ensures c.args.drain.now before c.softint.new.drain way went last) c.softint.ensures.idle
