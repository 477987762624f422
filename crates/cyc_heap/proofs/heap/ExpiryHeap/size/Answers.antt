use Rattle.std.proofs.Common.{take, sym}
use Rattle.cyc_heap.specs.Few.{shown}
use Rattle.cyc_heap.proofs.Views.{size_is}
use Rattle.cyc_heap.proofs.heap.ExpiryHeap.size.Goals as goal

pub returns-clause-value : goal.returns-clause-value
returns-clause-value c =
    let i = c.self.inside in
    sym (size_is i.is_few (take i.held i.entries.items) i.leaves i.size i.given
    (shown i.is_few i.held i.entries.items) i.free.items i.room c.args.self.now
    c.self.invariant.0 c.self.view_is)
