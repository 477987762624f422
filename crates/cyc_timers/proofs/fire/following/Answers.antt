use Rattle.std.proofs.Common.{◌≡◌, ◌<◌, ◌≤◌, ◌+◌, ◌-◌, min, arith}
use Rattle.std.proofs.lemmas.Bool.{OnFalse_at}
use Rattle.cyc_types.specs.Series.{late, never}
use Rattle.cyc_types.proofs.Dues.{due_step}
use Rattle.cyc_timers.proofs.Nexts.{next_step}
use Rattle.cyc_timers.proofs.fire.following.Goals as goal

pub returns-clause-due : goal.returns-clause-due
returns-clause-due c =
    let ago = c.requires.due in
    let was : c.args.now - c.args.ago ≤ c.args.now = omega arith in
    let passed = OnFalse_at c.if-is_late.false c.is_late.ensures.near in
    let near : c.args.now ≤ c.args.now - c.args.ago + c.args.interval + late = omega (arith, ago, passed) in
    let some : 0 < c.args.interval = omega arith in
    let is : c.nearest_moment.result ≡ min (c.args.now - c.args.ago + c.args.interval) never = omega arith in
    due_step (c.args.now - c.args.ago) c.args.interval c.args.now c.nearest_moment.result was c.requires.now some is near

pub returns-clause-next : goal.returns-clause-next
returns-clause-next c =
    let was : c.args.now - c.args.ago ≤ c.args.now = omega arith in
    let some : 0 < c.args.interval = omega arith in
    let is : c.nearest_moment.result ≡ min (c.args.now - c.args.ago + c.args.interval) never = omega arith in
    next_step (c.args.now - c.args.ago) c.args.interval c.args.now c.nearest_moment.result was c.requires.now some is
