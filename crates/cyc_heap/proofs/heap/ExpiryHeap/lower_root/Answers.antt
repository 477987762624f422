use Rattle.std.proofs.Common.{◌≡◌, take, IfSome, sym, ap, ◌∙◌, subst, subst₂, arith}
use Rattle.std.proofs.lemmas.List.{get_or_default}
use Rattle.cyc_heap.specs.Tournament.{nowhere, entry_at, cyclic_index, slots}
use Rattle.cyc_heap.specs.Few.{shown, IsTree, IsChanged}
use Rattle.cyc_heap.specs.Heap.{slots_moved}
use Rattle.cyc_heap.proofs.Changing.{leaf_low}
use Rattle.cyc_heap.proofs.Fronts.{tree, tree_few, few_held, many_held, root_low, root_is, root_held, leaf_is}
use Rattle.cyc_heap.proofs.Fronts.{tournament_after, front_after, slots_after}
use Rattle.cyc_heap.proofs.heap.ExpiryHeap.lower_root.Goals as goal

pub lower_first-requires-clause-tree : goal.lower_first-requires-clause-tree
lower_first-requires-clause-tree c =
    let i = c.self.inside in
    tree_few i.is_few i.held i.leaves i.entries.items (few_held i.is_few i.held i.root i.leaves i.size i.given i.entries.items
    i.free.items c.self.invariant.0 c.self.invariant.1 c.if-held-gt0.true)
    (tree i.is_few i.held i.root i.leaves i.size i.given i.entries.items i.free.items c.self.invariant.0 c.self.invariant.1)

pub invariant_of-self : goal.invariant_of-self
invariant_of-self c =
    let i = c.self.inside in
    let es = i.entries.items in
    let x = entry_at es 0 in
    let small = few_held i.is_few i.held i.root i.leaves i.size i.given es i.free.items c.self.invariant.0 c.self.invariant.1
    c.if-held-gt0.true in
    let (has, root) = root_held i.is_few i.held i.root i.leaves i.size i.given es i.free.items c.self.invariant.0
    c.self.invariant.1 i.room c.args.self.now c.self.view_is c.requires x (ap (entry_at es) (root_is i.is_few i.held i.root
    i.leaves i.size i.given es i.free.items c.self.invariant.0 c.self.invariant.1 small)) in
    let f = c.lower_first.ensures in
    let new = c.lower_first.new.entries.items in
    let changed = subst (λ b. IsChanged i.leaves (cyclic_index x) (record x { moment = c.args.moment }) (shown b i.held es)
    (shown b i.held new)) (sym small) f.changed in
    let after = subst (λ b. IsTree b i.held i.leaves new) (sym small) f.tree in
    let room = f.room in
    let cap = c.self.invariant.3 in (
      tournament_after i.is_few i.held i.root i.leaves i.size i.given es i.free.items c.self.invariant.0 c.self.invariant.1
          i.room c.args.self.now c.self.view_is x has new c.args.moment f.valid changed after,
      front_after i.is_few i.held i.root i.leaves i.size i.given es i.free.items c.self.invariant.0 c.self.invariant.1
          i.room c.args.self.now c.self.view_is x has new c.args.moment f.valid changed after,
      c.self.invariant.2,
      omega (arith, room, cap),
      c.self.invariant.4,
    )

pub returns-then-held-gt0-clause-slots : goal.returns-then-held-gt0-clause-slots
returns-then-held-gt0-clause-slots c =
    let i = c.self.inside in
    let es = i.entries.items in
    let x = entry_at es 0 in
    let small = few_held i.is_few i.held i.root i.leaves i.size i.given es i.free.items c.self.invariant.0 c.self.invariant.1
    c.if-held-gt0.true in
    let (has, root) = root_held i.is_few i.held i.root i.leaves i.size i.given es i.free.items c.self.invariant.0
    c.self.invariant.1 i.room c.args.self.now c.self.view_is c.requires x (ap (entry_at es) (root_is i.is_few i.held i.root
    i.leaves i.size i.given es i.free.items c.self.invariant.0 c.self.invariant.1 small)) in
    let f = c.lower_first.ensures in
    let new = c.lower_first.new.entries.items in
    let changed = subst (λ b. IsChanged i.leaves (cyclic_index x) (record x { moment = c.args.moment }) (shown b i.held es)
    (shown b i.held new)) (sym small) f.changed in
    let after = subst (λ b. IsTree b i.held i.leaves new) (sym small) f.tree in
    subst (λ root. IfSome root (λ index. slots i.size (shown i.is_few i.held new)
    ≡ slots_moved c.args.self.now.slots index c.args.moment)) (sym root)
    (slots_after i.is_few i.held i.root i.leaves i.size i.given es i.free.items c.self.invariant.0 c.self.invariant.1
    i.room c.args.self.now c.self.view_is x has new c.args.moment f.valid changed after)

pub change_many-requires-clause-index : goal.change_many-requires-clause-index
change_many-requires-clause-index c =
    let i = c.self.inside in
    let es = i.entries.items in
    let x = c.index.result.now in
    let low = root_low i.is_few i.held i.root i.leaves i.size i.given es i.free.items c.self.invariant.0 c.self.invariant.1 in
    let (has, root) = root_held i.is_few i.held i.root i.leaves i.size i.given es i.free.items c.self.invariant.0
    c.self.invariant.1 i.room c.args.self.now c.self.view_is c.requires x
    (get_or_default es i.root nowhere x low ∙ sym c.index.ensures) in
    let at = c.index-index.ensures in
    let n = leaf_low i.is_few (take i.held es) i.leaves i.size i.given (shown i.is_few i.held es) i.free.items i.room
    c.args.self.now c.self.invariant.0 c.self.view_is x has (take i.held es) es 0 (omega arith) in
    omega (arith, n, at)

pub invariant_of-self-2 : goal.invariant_of-self-2
invariant_of-self-2 c =
    let i = c.self.inside in
    let es = i.entries.items in
    let many = many_held i.is_few i.held i.root i.leaves i.size i.given es i.free.items c.self.invariant.0 c.self.invariant.1
    i.room c.args.self.now c.self.view_is c.requires c.if-held-gt0.false in
    let low = root_low i.is_few i.held i.root i.leaves i.size i.given es i.free.items c.self.invariant.0 c.self.invariant.1 in
    let x = c.index.result.now in
    let (has, root) = root_held i.is_few i.held i.root i.leaves i.size i.given es i.free.items c.self.invariant.0
    c.self.invariant.1 i.room c.args.self.now c.self.view_is c.requires x
    (get_or_default es i.root nowhere x low ∙ sym c.index.ensures) in
    let own = leaf_is i.is_few i.held i.root i.leaves i.size i.given es i.free.items c.self.invariant.0
    c.self.invariant.1 i.room c.args.self.now c.self.view_is many c.requires x
    (get_or_default es i.root nowhere x low ∙ sym c.index.ensures) in
    let f = c.change_many.ensures in
    let new = c.change_many.new.entries.items in
    let named = subst (λ n. IsChanged i.leaves n (record (entry_at es n) { moment = c.args.moment }) es new) c.index-index.ensures
    f.changed in
    let leaf = subst (λ e. IsChanged i.leaves (cyclic_index x) (record e { moment = c.args.moment }) es new) own named in
    let changed = subst (λ b. IsChanged i.leaves (cyclic_index x) (record x { moment = c.args.moment }) (shown b i.held es)
    (shown b i.held new)) (sym many) leaf in
    let after = subst₂ (λ b n. IsTree b n i.leaves new) (sym many) (sym (c.self.invariant.1.none many)) f.tree in
    let room = f.room in
    let cap = c.self.invariant.3 in (
      tournament_after i.is_few i.held i.root i.leaves i.size i.given es i.free.items c.self.invariant.0 c.self.invariant.1
          i.room c.args.self.now c.self.view_is x has new c.args.moment f.valid changed after,
      front_after i.is_few i.held i.root i.leaves i.size i.given es i.free.items c.self.invariant.0 c.self.invariant.1
          i.room c.args.self.now c.self.view_is x has new c.args.moment f.valid changed after,
      c.self.invariant.2,
      omega (arith, room, cap),
      c.self.invariant.4,
    )

pub returns-clause-slots : goal.returns-clause-slots
returns-clause-slots c =
    let i = c.self.inside in
    let es = i.entries.items in
    let many = many_held i.is_few i.held i.root i.leaves i.size i.given es i.free.items c.self.invariant.0 c.self.invariant.1
    i.room c.args.self.now c.self.view_is c.requires c.if-held-gt0.false in
    let low = root_low i.is_few i.held i.root i.leaves i.size i.given es i.free.items c.self.invariant.0 c.self.invariant.1 in
    let x = c.index.result.now in
    let (has, root) = root_held i.is_few i.held i.root i.leaves i.size i.given es i.free.items c.self.invariant.0
    c.self.invariant.1 i.room c.args.self.now c.self.view_is c.requires x
    (get_or_default es i.root nowhere x low ∙ sym c.index.ensures) in
    let own = leaf_is i.is_few i.held i.root i.leaves i.size i.given es i.free.items c.self.invariant.0
    c.self.invariant.1 i.room c.args.self.now c.self.view_is many c.requires x
    (get_or_default es i.root nowhere x low ∙ sym c.index.ensures) in
    let f = c.change_many.ensures in
    let new = c.change_many.new.entries.items in
    let named = subst (λ n. IsChanged i.leaves n (record (entry_at es n) { moment = c.args.moment }) es new) c.index-index.ensures
    f.changed in
    let leaf = subst (λ e. IsChanged i.leaves (cyclic_index x) (record e { moment = c.args.moment }) es new) own named in
    let changed = subst (λ b. IsChanged i.leaves (cyclic_index x) (record x { moment = c.args.moment }) (shown b i.held es)
    (shown b i.held new)) (sym many) leaf in
    let after = subst₂ (λ b n. IsTree b n i.leaves new) (sym many) (sym (c.self.invariant.1.none many)) f.tree in
    subst (λ root. IfSome root (λ index. slots i.size (shown i.is_few i.held new)
    ≡ slots_moved c.args.self.now.slots index c.args.moment)) (sym root)
    (slots_after i.is_few i.held i.root i.leaves i.size i.given es i.free.items c.self.invariant.0 c.self.invariant.1
    i.room c.args.self.now c.self.view_is x has new c.args.moment f.valid changed after)
