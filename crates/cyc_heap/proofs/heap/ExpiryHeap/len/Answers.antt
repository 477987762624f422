use Rattle.std.proofs.Common.{take, arith}
use Rattle.cyc_heap.specs.Few.{shown}
use Rattle.cyc_heap.proofs.Views.{size_is, len_is}
use Rattle.cyc_heap.proofs.heap.ExpiryHeap.len.Goals as goal

pub returns-clause-value : goal.returns-clause-value
returns-clause-value c =
    let i = c.self.inside in
    let len = len_is i.is_few (take i.held i.entries.items) i.leaves i.size i.given
    (shown i.is_few i.held i.entries.items) i.free.items i.room c.args.self.now
    c.self.invariant.0 c.self.view_is in
    let free = c.len.ensures in
    omega (arith, len, free)

pub returns-clause-few : goal.returns-clause-few
returns-clause-few c =
    let i = c.self.inside in
    let size = size_is i.is_few (take i.held i.entries.items) i.leaves i.size i.given
    (shown i.is_few i.held i.entries.items) i.free.items i.room c.args.self.now
    c.self.invariant.0 c.self.view_is in
    let known = c.self.invariant.0.known in
    omega (arith, size, known)
