use Rattle.std.proofs.Common.{◌≡◌, true, List, refl, ◌∙◌, subst}
use Rattle.cyc_heap.specs.declared.entry.Entry.{Entry}
use Rattle.cyc_heap.specs.Tournament.{entry_at}
use Rattle.cyc_heap.specs.Few.{shown, IsChanged}
use Rattle.cyc_heap.proofs.Sifting.{leaf_word, word_stands, found_word, changed_tree, changed_leaf}
use Rattle.cyc_heap.proofs.changes.change_few.Goals as goal

pub find_word-position-requires : goal.find_word-position-requires
find_word-position-requires c = let r = c.requires in let e = c.new-entry.ensures in let es = c.args.entries.now.items in
    word_stands c.args.held c.args.leaves c.args.index es r.tree r.index r.used c.as_slice.result.now
    c.as_slice.ensures.value c.new-entry.result.word
    (leaf_word c.args.held c.args.leaves c.args.index es r.tree r.index r.used c.args.id c.new-entry.result r.id e.id e.index)

pub replace-requires-clause-heap : goal.replace-requires-clause-heap
replace-requires-clause-heap c = let few = c.requires.tree.heap refl in few.heap

pub returns-clause-tree : goal.returns-clause-tree
returns-clause-tree c =
    let es = c.args.entries.now.items in
    let t = c.requires.tree in
    let e = c.new-entry.ensures in
    let (low, at) = found_word c.args.held es c.as_slice.result.now c.find_word-position.result c.new-entry.result.word
    t.within c.as_slice.ensures.value c.find_word-position.ensures.low c.find_word-position.ensures.word in
    let f = c.replace.ensures in
    changed_tree c.args.held c.args.leaves c.find_word-position.result c.args.index es c.replace.new.entries.items
    c.new-entry.result t low (at ∙ e.index) f.long f.heap f.filled e.index e.valid

pub returns-clause-changed : goal.returns-clause-changed
returns-clause-changed c =
    let es = c.args.entries.now.items in
    let t = c.requires.tree in
    let e = c.new-entry.ensures in
    let (low, at) = found_word c.args.held es c.as_slice.result.now c.find_word-position.result c.new-entry.result.word
    t.within c.as_slice.ensures.value c.find_word-position.ensures.low c.find_word-position.ensures.word in
    let f = c.replace.ensures in
    let old : List Entry = shown true c.args.held es in
    let new : List Entry = shown true c.args.held c.replace.new.entries.items in
    let is : c.new-entry.result ≡ record (entry_at old c.args.index) { moment = c.args.moment }
    = λ y. record {
      moment = e.moment y;
      word = leaf_word c.args.held c.args.leaves c.args.index es t c.requires.index c.requires.used c.args.id c.new-entry.result
          c.requires.id e.id e.index y;
    } in
    subst (λ e. IsChanged c.args.leaves c.args.index e old new) is
    (changed_leaf c.args.held c.args.leaves c.find_word-position.result c.args.index es c.replace.new.entries.items
    c.new-entry.result t low (at ∙ e.index) f.long f.heap f.filled e.index e.valid)
