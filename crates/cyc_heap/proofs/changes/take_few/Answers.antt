use Rattle.std.proofs.Common.{◌-◌, true, List, length, take, sym, ap, ◌∙◌, subst, arith}
use Rattle.std.proofs.Math.ListN.{set}
use Rattle.std.proofs.lemmas.List.{get_or_default}
use Rattle.cyc_heap.specs.declared.entry.Entry.{Entry}
use Rattle.cyc_heap.specs.Tournament.{nowhere, entry_at, cyclic_index, free_entry}
use Rattle.cyc_heap.specs.Few.{shown, IsHeap, IsFilled, IsTree, IsChanged}
use Rattle.cyc_heap.proofs.Sifting.{found, cut_heap, cut_apart, last_tree, last_changed, moved_tree, moved_changed}
use Rattle.cyc_heap.proofs.changes.take_few.Goals as goal

pub replace-requires-clause-heap : goal.replace-requires-clause-heap
replace-requires-clause-heap c =
    let es = c.args.entries.now.items in
    let t = c.requires.tree in
    let (low, here) = found c.args.held es c.as_slice.result.now c.find.result c.unwrap-position.result c.args.index t.within
    c.as_slice.ensures.value c.unwrap-position.ensures c.find.ensures.some in
    subst (λ e. IsHeap (take (c.args.held - 1) (set es (c.args.held - 1) e))) (sym c.free.ensures)
    (cut_heap c.args.held c.args.leaves c.unwrap-position.result c.args.index es t low here)

pub replace-requires-clause-apart : goal.replace-requires-clause-apart
replace-requires-clause-apart c =
    let es = c.args.entries.now.items in
    let t = c.requires.tree in
    let (low, here) = found c.args.held es c.as_slice.result.now c.find.result c.unwrap-position.result c.args.index t.within
    c.as_slice.ensures.value c.unwrap-position.ensures c.find.ensures.some in
    let within = t.within in
    let x = c.index-moved.result.now in
    let at = get_or_default es (c.args.held - 1) nowhere x (omega (arith, low, within)) ∙ sym c.index-moved.ensures in
    λ p less _ e. cut_apart c.args.held c.args.leaves c.unwrap-position.result c.args.index es t low here p less
    (ap (λ f. cyclic_index (entry_at (set es (c.args.held - 1) f) p)) (sym c.free.ensures) ∙ e ∙ ap cyclic_index (sym at))

pub returns-then-position-last-clause-tree : goal.returns-then-position-last-clause-tree
returns-then-position-last-clause-tree c =
    let es = c.args.entries.now.items in
    let t = c.requires.tree in
    let (low, here) = found c.args.held es c.as_slice.result.now c.find.result c.unwrap-position.result c.args.index t.within
    c.as_slice.ensures.value c.unwrap-position.ensures c.find.ensures.some in
    let within = t.within in
    let x = c.index-moved.result.now in
    let at = get_or_default es (c.args.held - 1) nowhere x (omega (arith, low, within)) ∙ sym c.index-moved.ensures in
    let f = c.replace.ensures in
    let last = c.args.held - 1 in
    let new = c.replace.new.entries.items in
    let cut : Entry → List Entry = set es last in
    moved_tree c.args.held c.args.leaves c.unwrap-position.result c.args.index es t low here new c.if-position-last.true
    (f.long ∙ ap (λ e. length (cut e)) c.free.ensures) f.heap
    (subst (λ e. IsFilled c.unwrap-position.result (take last (cut free_entry)) e (take last new)) (sym at)
    (subst (λ e. IsFilled c.unwrap-position.result (take last (cut e)) x (take last new)) c.free.ensures f.filled))

pub returns-then-position-last-clause-changed : goal.returns-then-position-last-clause-changed
returns-then-position-last-clause-changed c =
    let es = c.args.entries.now.items in
    let t = c.requires.tree in
    let (low, here) = found c.args.held es c.as_slice.result.now c.find.result c.unwrap-position.result c.args.index t.within
    c.as_slice.ensures.value c.unwrap-position.ensures c.find.ensures.some in
    let within = t.within in
    let x = c.index-moved.result.now in
    let at = get_or_default es (c.args.held - 1) nowhere x (omega (arith, low, within)) ∙ sym c.index-moved.ensures in
    let f = c.replace.ensures in
    let last = c.args.held - 1 in
    let new = c.replace.new.entries.items in
    let cut : Entry → List Entry = set es last in
    moved_changed c.args.held c.args.leaves c.unwrap-position.result c.args.index es t low here new c.if-position-last.true
    (f.long ∙ ap (λ e. length (cut e)) c.free.ensures) f.heap
    (subst (λ e. IsFilled c.unwrap-position.result (take last (cut free_entry)) e (take last new)) (sym at)
    (subst (λ e. IsFilled c.unwrap-position.result (take last (cut e)) x (take last new)) c.free.ensures f.filled))

pub returns-else-position-last-clause-tree : goal.returns-else-position-last-clause-tree
returns-else-position-last-clause-tree c =
    let es = c.args.entries.now.items in
    let t = c.requires.tree in
    let (low, here) = found c.args.held es c.as_slice.result.now c.find.result c.unwrap-position.result c.args.index t.within
    c.as_slice.ensures.value c.unwrap-position.ensures c.find.ensures.some in
    subst (λ e. IsTree true (c.args.held - 1) c.args.leaves (set es (c.args.held - 1) e)) (sym c.free.ensures)
    (last_tree c.args.held c.args.leaves c.unwrap-position.result c.args.index es t low here c.if-position-last.false)

pub returns-else-position-last-clause-changed : goal.returns-else-position-last-clause-changed
returns-else-position-last-clause-changed c =
    let es = c.args.entries.now.items in
    let t = c.requires.tree in
    let (low, here) = found c.args.held es c.as_slice.result.now c.find.result c.unwrap-position.result c.args.index t.within
    c.as_slice.ensures.value c.unwrap-position.ensures c.find.ensures.some in
    subst (λ e. IsChanged c.args.leaves c.args.index free_entry (shown true c.args.held es)
    (shown true (c.args.held - 1) (set es (c.args.held - 1) e))) (sym c.free.ensures)
    (last_changed c.args.held c.args.leaves c.unwrap-position.result c.args.index es t low here c.if-position-last.false)
