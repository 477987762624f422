use Rattle.std.proofs.Common.{◌∙◌}
use Rattle.cyc_cpu_tests.proofs.Keeps.{same_most}
use Rattle.cyc_cpu_tests.proofs.help.add.Goals as goal

pub returns-in-Ok : goal.returns-in-Ok
returns-in-Ok g c =
    let ok = c.in-Ok.ensures.2 in
    ok.enters.kept.most ∙ (ok.widens.most ∙ (ok.reserves.most ∙ same_most _ _ c.in-None.ensures.1))
