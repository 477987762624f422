use Rattle.std.proofs.Common.{◌≡◌, ℕ, true, List, refl, sym, ap, ◌∙◌, subst, arith}
use Rattle.std.proofs.lemmas.List.{get_or_default}
use Rattle.cyc_heap.specs.declared.entry.Entry.{Entry}
use Rattle.cyc_heap.specs.Tournament.{nowhere, entry_at, cyclic_index}
use Rattle.cyc_heap.specs.Few.{shown, IsChanged}
use Rattle.cyc_heap.proofs.Sifting.{changed_tree, changed_leaf}
use Rattle.cyc_heap.proofs.changes.lower_first.Goals as goal

pub returns-clause-tree : goal.returns-clause-tree
returns-clause-tree c =
    let f = c.put_first.ensures in
    let es = c.args.entries.now.items in
    let within = c.requires.tree.within in
    let some = c.requires.some in
    let x = c.index.result.now in
    let at = get_or_default es 0 nowhere x (omega (arith, some, within)) ∙ sym c.index.ensures in
    let e = c.at_moment-entry.ensures in
    let m = ap (λ (e : Entry). e.moment) e.value in
    let valid = e.valid in
    changed_tree c.args.held c.args.leaves 0 (cyclic_index (entry_at es 0)) es c.put_first.new.entries.items
    c.at_moment-entry.result c.requires.tree some refl f.long f.heap f.filled
    (ap cyclic_index e.value ∙ ap cyclic_index (sym at)) (omega (arith, m, valid))

pub returns-clause-changed : goal.returns-clause-changed
returns-clause-changed c =
    let f = c.put_first.ensures in
    let es = c.args.entries.now.items in
    let within = c.requires.tree.within in
    let some = c.requires.some in
    let x = c.index.result.now in
    let at = get_or_default es 0 nowhere x (omega (arith, some, within)) ∙ sym c.index.ensures in
    let e = c.at_moment-entry.ensures in
    let m = ap (λ (e : Entry). e.moment) e.value in
    let valid = e.valid in
    let old : List Entry = shown true c.args.held es in
    let new : List Entry = shown true c.args.held c.put_first.new.entries.items in
    let word : c.at_moment-entry.result ≡ record (entry_at es 0) { moment = c.args.moment }
    = e.value ∙ ap (λ (e : Entry). with_moment e c.args.moment) (sym at) in
    subst (λ e. IsChanged c.args.leaves (cyclic_index (entry_at es 0)) e old new) word
    (changed_leaf c.args.held c.args.leaves 0 (cyclic_index (entry_at es 0)) es c.put_first.new.entries.items
    c.at_moment-entry.result c.requires.tree some refl f.long f.heap f.filled
    (ap cyclic_index e.value ∙ ap cyclic_index (sym at)) (omega (arith, m, valid)))
  where
    with_moment : Entry → ℕ → Entry
    with_moment e m = record e { moment = m }
