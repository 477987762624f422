use Rattle.std.proofs.Common.{subst}
use Rattle.cyc_border.specs.Border.{FiresPart}
use Rattle.cyc_border.proofs.Resting.{suspended_is, asleep_is, asleep_keeps}
use Rattle.cyc_border.proofs.parts.suspended_law.Goals as goal

pub returns-clause-answer : goal.returns-clause-answer
returns-clause-answer g c now answer high high' v w fires = (
  suspended_is g.R.Raise now answer high high' v w fires,
  λ is. asleep_is g.R.Raise now high high' v w (subst (λ a. FiresPart g.R.Raise now a high v high' w) is fires),
)

pub returns-clause-same : goal.returns-clause-same
returns-clause-same g c now answer high high' v w fires is =
    asleep_keeps g.R.Raise now high high' v w
    (subst (λ a. FiresPart g.R.Raise now a high v high' w) (suspended_is g.R.Raise now answer high high' v w fires is) fires)
