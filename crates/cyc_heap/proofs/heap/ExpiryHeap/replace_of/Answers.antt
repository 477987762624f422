use Rattle.std.proofs.Common.{take, refl, sym, ap, ◌∙◌, subst, arith}
use Rattle.cyc_heap.specs.Tournament.{entry_at}
use Rattle.cyc_heap.specs.Few.{shown, IsChanged}
use Rattle.cyc_heap.specs.Heap.{slots_moved}
use Rattle.cyc_heap.proofs.Views.{used_of, in_use, leaf_held, leaf_named}
use Rattle.cyc_heap.proofs.Fronts.{tree, tournament_after, front_after, slots_after}
use Rattle.cyc_heap.proofs.heap.ExpiryHeap.replace_of.Goals as goal

pub change-requires-clause-index : goal.change-requires-clause-index
change-requires-clause-index c =
    let i = c.self.inside in
    let (_, _, low, _) = in_use i.is_few (take i.held i.entries.items) i.leaves i.size i.given
    (shown i.is_few i.held i.entries.items) i.free.items i.room c.args.self.now c.self.invariant.0 c.self.view_is c.args.index
    (used_of c.args.self.now c.args.id c.args.index c.requires) in
    low

pub change-requires-clause-used : goal.change-requires-clause-used
change-requires-clause-used c =
    let i = c.self.inside in
    let (_, _, _, used) = in_use i.is_few (take i.held i.entries.items) i.leaves i.size i.given
    (shown i.is_few i.held i.entries.items) i.free.items i.room c.args.self.now c.self.invariant.0 c.self.view_is c.args.index
    (used_of c.args.self.now c.args.id c.args.index c.requires) in
    used

pub change-requires-clause-id : goal.change-requires-clause-id
change-requires-clause-id c =
    let i = c.self.inside in
    let xs = shown i.is_few i.held i.entries.items in
    leaf_named i.is_few (take i.held i.entries.items) i.leaves i.size i.given xs i.free.items i.room c.args.self.now
    c.self.invariant.0 c.self.view_is c.args.id c.args.index (entry_at xs c.args.index) c.requires refl

pub change-requires-clause-tree : goal.change-requires-clause-tree
change-requires-clause-tree c =
    let i = c.self.inside in
    tree i.is_few i.held i.root i.leaves i.size i.given i.entries.items i.free.items c.self.invariant.0 c.self.invariant.1

pub invariant_of-self : goal.invariant_of-self
invariant_of-self c =
    let i = c.self.inside in
    let xs = shown i.is_few i.held i.entries.items in
    let x = entry_at xs c.args.index in
    let ys = shown i.is_few i.held c.change.new.entries.items in
    let (has, own) = leaf_held i.is_few (take i.held i.entries.items) i.leaves i.size i.given xs i.free.items i.room
    c.args.self.now c.self.invariant.0 c.self.view_is c.args.index x
    (used_of c.args.self.now c.args.id c.args.index c.requires) refl in
    let f = c.change.ensures in
    let changed = subst (λ n. IsChanged i.leaves n (record x { moment = c.args.moment }) xs ys) (sym own) f.changed in
    let room = f.room in
    let cap = c.self.invariant.3 in (
      tournament_after i.is_few i.held i.root i.leaves i.size i.given i.entries.items i.free.items c.self.invariant.0
          c.self.invariant.1 i.room c.args.self.now c.self.view_is x has c.change.new.entries.items c.args.moment f.valid changed
          f.tree,
      front_after i.is_few i.held i.root i.leaves i.size i.given i.entries.items i.free.items c.self.invariant.0
          c.self.invariant.1 i.room c.args.self.now c.self.view_is x has c.change.new.entries.items c.args.moment f.valid changed
          f.tree,
      c.self.invariant.2,
      omega (arith, room, cap),
      c.self.invariant.4,
    )

pub returns-clause-slots : goal.returns-clause-slots
returns-clause-slots c =
    let i = c.self.inside in
    let xs = shown i.is_few i.held i.entries.items in
    let x = entry_at xs c.args.index in
    let ys = shown i.is_few i.held c.change.new.entries.items in
    let (has, own) = leaf_held i.is_few (take i.held i.entries.items) i.leaves i.size i.given xs i.free.items i.room
    c.args.self.now c.self.invariant.0 c.self.view_is c.args.index x
    (used_of c.args.self.now c.args.id c.args.index c.requires) refl in
    let f = c.change.ensures in
    let changed = subst (λ n. IsChanged i.leaves n (record x { moment = c.args.moment }) xs ys) (sym own) f.changed in
    slots_after i.is_few i.held i.root i.leaves i.size i.given i.entries.items i.free.items c.self.invariant.0
    c.self.invariant.1 i.room c.args.self.now c.self.view_is x has c.change.new.entries.items c.args.moment f.valid changed f.tree
    ∙ ap (λ n. slots_moved c.args.self.now.slots n c.args.moment) own
