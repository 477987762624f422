use Rattle.std.proofs.Common.{rules}
use Rattle.std.specs.Prelude.{IsSome}
use Rattle.bench_loops.proofs.Rounds.{finish_hand}
use Rattle.bench_loops.proofs.level.finish_next.Goals as goal

pub returns-in-Last : goal.returns-in-Last
returns-in-Last c = let some : IsSome c.args.core.now.drainer_hand = search rules in
    finish_hand _ _ _ _ c.args.core.now.drainer_hand _ some c.requires c.finish.ensures.step

pub returns-in-More : goal.returns-in-More
returns-in-More c = let some : IsSome c.args.core.now.drainer_hand = search rules in
    finish_hand _ _ _ _ c.args.core.now.drainer_hand _ some c.requires c.finish.ensures.step
