use Rattle.cyc_types.proofs.TallyLemmas.{count_set}
use Rattle.std.proofs.Common.{arith, ◌-◌, ◌<◌, ◌≤◌, length}
use Rattle.cyc_types.proofs.tally.TallyCalls.call.Goals as goal

pub returns-clause-counted : goal.returns-clause-counted
returns-clause-counted c q =
    let low : c.self.inside.first ≤ c.args.id = omega arith in
    let high : c.args.id - c.self.inside.first < length c.self.inside.counts.items = omega arith in
    let read = rw c.number-number.ensures.value at c.index-count.ensures in
    rw (← c.self.view_is, c.number-number.ensures.value)
    (count_set c.self.inside.counts.items c.self.inside.first c.args.id q c.index-count.result.now low high read)
