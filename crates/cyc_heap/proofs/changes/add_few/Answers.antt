use Rattle.cyc_heap.proofs.Sifting.{added_tree, added_leaf}
use Rattle.cyc_heap.proofs.changes.add_few.Goals as goal

pub returns-clause-tree : goal.returns-clause-tree
returns-clause-tree c =
    let r = c.requires in
    let f = c.put.ensures in
    added_tree c.args.held c.args.leaves c.args.index c.args.entries.now.items c.put.new.entries.items c.args.entry r.tree r.index
    r.space f.long f.heap f.filled r.own r.valid

pub returns-clause-changed : goal.returns-clause-changed
returns-clause-changed c =
    let r = c.requires in
    let f = c.put.ensures in
    added_leaf c.args.held c.args.leaves c.args.index c.args.entries.now.items c.put.new.entries.items c.args.entry r.tree r.index
    r.space f.long f.heap f.filled r.own r.valid
