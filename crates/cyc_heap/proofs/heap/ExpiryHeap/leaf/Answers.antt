use Rattle.std.proofs.Common.{◌≡◌, length, take, Some, sym, ap, ◌∙◌, subst, arith}
use Rattle.std.proofs.lemmas.List.{length-take-le, get_or_default}
use Rattle.cyc_heap.specs.declared.entry.Entry.{Entry}
use Rattle.cyc_heap.specs.Tournament.{nowhere, key, entry_at}
use Rattle.cyc_heap.specs.Few.{shown, HasNoIndex}
use Rattle.cyc_heap.proofs.Views.{within, at_past, at_used, at_free}
use Rattle.cyc_heap.proofs.Sifting.{found}
use Rattle.cyc_heap.proofs.Fronts.{tree, shown_many, none_free, position_held}
use Rattle.cyc_heap.proofs.heap.ExpiryHeap.leaf.Goals as goal

pub slice_bounds-find-end : goal.slice_bounds-find-end
slice_bounds-find-end c =
    let i = c.self.inside in
    let t = tree i.is_few i.held i.root i.leaves i.size i.given i.entries.items i.free.items c.self.invariant.0
    c.self.invariant.1 in
    let w = t.within in
    let l = ap length c.as_slice.ensures.value in
    sym (length-take-le i.held c.as_slice.result.now (omega (arith, w, l)))

pub returns-in-Some-clause-used : goal.returns-in-Some-clause-used
returns-in-Some-clause-used c = λ _. (
    let i = c.self.inside in
    let es = i.entries.items in
    let t = tree i.is_few i.held i.root i.leaves i.size i.given es i.free.items c.self.invariant.0 c.self.invariant.1 in
    let w = t.within in
    let (low, here) = found i.held es c.as_slice.result.now c.find.result c.in-Some.position c.args.index w
    c.as_slice.ensures.value c.in-Some.is c.find.ensures.some in
    let x = c.index.result.now in
    let at = get_or_default es c.in-Some.position nowhere x (omega (arith, low, w)) ∙ sym c.index.ensures in
    position_held i.is_few i.held i.root i.leaves i.size i.given es i.free.items c.self.invariant.0 c.self.invariant.1 i.room
    c.args.self.now c.self.view_is c.if-self.true c.args.index c.in-Some.position low here
    ∙ ap (λ (e : Entry). Some (key e)) at)

pub returns-in-None-clause-free : goal.returns-in-None-clause-free
returns-in-None-clause-free c = λ _. (
    let i = c.self.inside in
    none_free i.is_few i.held i.root i.leaves i.size i.given i.entries.items i.free.items c.self.invariant.0
    c.self.invariant.1 i.room c.args.self.now c.self.view_is c.if-self.true c.args.index
    (subst (λ l. HasNoIndex c.args.index (take i.held l)) c.as_slice.ensures.value c.in-None.ensures.none))

pub returns-then-position-self-clause-free : goal.returns-then-position-self-clause-free
returns-then-position-self-clause-free c = λ _. (
    let i = c.self.inside in
    let past = c.if-position-self.true in
    let n = c.number.ensures.value in
    let m = c.from-position.ensures in
    at_past i.is_few (take i.held i.entries.items) i.leaves i.size i.given (shown i.is_few i.held i.entries.items) i.free.items
    i.room c.args.self.now c.self.invariant.0 c.self.view_is c.args.index (omega (arith, past, n, m)))

pub returns-clause-free : goal.returns-clause-free
returns-clause-free c = λ unused. (
    let i = c.self.inside in
    let xs = shown i.is_few i.held i.entries.items in
    let few = take i.held i.entries.items in
    let h = c.self.invariant.0 in
    let low = c.if-position-self.false in
    let at : c.from-position.result ≡ c.args.index = c.from-position.ensures ∙ c.number.ensures.value in
    let many = shown_many i.is_few i.held i.entries.items c.if-self.false in
    let inside = within i.is_few few i.leaves i.size i.given xs i.free.items i.room c.args.self.now h c.self.view_is in
    let l = ap length many in
    let x = c.index-2.result.now in
    let is : entry_at xs c.args.index ≡ x = ap (λ l. entry_at l c.args.index) many ∙ ap (entry_at i.entries.items) (sym at)
    ∙ get_or_default i.entries.items c.from-position.result nowhere x (omega (arith, low, inside, l)) ∙ sym c.index-2.ensures in
    let m = ap (λ (e : Entry). e.moment) is in
    at_free i.is_few few i.leaves i.size i.given xs i.free.items i.room c.args.self.now h c.self.view_is c.args.index
    (omega (arith, low, at)) (omega (arith, m, unused)))

pub returns-clause-used : goal.returns-clause-used
returns-clause-used c = λ used. (
    let i = c.self.inside in
    let xs = shown i.is_few i.held i.entries.items in
    let few = take i.held i.entries.items in
    let h = c.self.invariant.0 in
    let low = c.if-position-self.false in
    let at : c.from-position.result ≡ c.args.index = c.from-position.ensures ∙ c.number.ensures.value in
    let many = shown_many i.is_few i.held i.entries.items c.if-self.false in
    let inside = within i.is_few few i.leaves i.size i.given xs i.free.items i.room c.args.self.now h c.self.view_is in
    let l = ap length many in
    let x = c.index-2.result.now in
    let is : entry_at xs c.args.index ≡ x = ap (λ l. entry_at l c.args.index) many ∙ ap (entry_at i.entries.items) (sym at)
    ∙ get_or_default i.entries.items c.from-position.result nowhere x (omega (arith, low, inside, l)) ∙ sym c.index-2.ensures in
    let m = ap (λ (e : Entry). e.moment) is in
    at_used i.is_few few i.leaves i.size i.given xs i.free.items i.room c.args.self.now h c.self.view_is c.args.index
    (omega (arith, low, at)) (omega (arith, m, used)) ∙ ap (λ (e : Entry). Some (key e)) is)
