use Rattle.std.proofs.Common.{sym, ◌∙◌, arith}
use Rattle.std.proofs.lemmas.List.{get_or_default}
use Rattle.cyc_heap.specs.Tournament.{nowhere}
use Rattle.cyc_heap.proofs.Fronts.{root_low, root_unused, root_used}
use Rattle.cyc_heap.proofs.heap.ExpiryHeap.first.Goals as goal

pub index-requires : goal.index-requires
index-requires c =
    let i = c.self.inside in
    let low = root_low i.is_few i.held i.root i.leaves i.size i.given i.entries.items i.free.items c.self.invariant.0
    c.self.invariant.1 in
    let ok = i.entries.ok in
    omega (arith, low, ok)

pub returns-clause-free : goal.returns-clause-free
returns-clause-free c =
    let i = c.self.inside in
    let x = c.index.result.now in
    let low = root_low i.is_few i.held i.root i.leaves i.size i.given i.entries.items i.free.items c.self.invariant.0
    c.self.invariant.1 in
    root_unused i.is_few i.held i.root i.leaves i.size i.given i.entries.items i.free.items c.self.invariant.0
    c.self.invariant.1 i.room c.args.self.now c.self.view_is x
    (get_or_default i.entries.items i.root nowhere x low ∙ sym c.index.ensures)

pub returns-clause-used : goal.returns-clause-used
returns-clause-used c =
    let i = c.self.inside in
    let x = c.index.result.now in
    let low = root_low i.is_few i.held i.root i.leaves i.size i.given i.entries.items i.free.items c.self.invariant.0
    c.self.invariant.1 in
    root_used i.is_few i.held i.root i.leaves i.size i.given i.entries.items i.free.items c.self.invariant.0
    c.self.invariant.1 i.room c.args.self.now c.self.view_is x
    (get_or_default i.entries.items i.root nowhere x low ∙ sym c.index.ensures)
