use Rattle.std.proofs.Common.{◌≤◌, length, sym, ap, ◌∙◌, subst, arith}
use Rattle.std.proofs.lemmas.Grind.{common_steps}
use Rattle.std.proofs.lemmas.List.Filters.{FiltersInPlace-all}
use Rattle.cyc_finder.specs.Sorted.{Rises}
use Rattle.cyc_finder.specs.Slots.{slot_id, entries_of}
use Rattle.cyc_finder.proofs.Here.{packed, packed_long, packed_rise}
use Rattle.cyc_finder.proofs.Packing.{packs_from, packs_on}
use Rattle.cyc_finder.proofs.slots.pack.Goals as goal

pub loop-at-init : goal.loop-at-init
loop-at-init c = packs_from c.args.slots.now.items c.args.position c.requires.within c.requires.gone

pub loop-at-preserved : goal.loop-at-preserved
loop-at-preserved c = let i = c.loop-at.invariant in
    packs_on c.args.slots.now.items c.loop-at.slots.items c.loop-at.kept c.loop-at.at i
    (let t = c.loop-at-test.true in let long = i.long in omega (arith, t, long)) c.index-slot.result.now c.index-slot.ensures
    _
    (let e = c.is_here.ensures in grind (arith, common_steps, e))

-- what is left is what is here
pub returns-clause-entries : goal.returns-clause-entries
returns-clause-entries c = let xs = c.args.slots.now.items in
    let all : length xs ≤ c.loop-at.at = (let t = c.loop-at-test.false in omega (arith, t)) in
    ap entries_of (c.truncate.ensures.items ∙ FiltersInPlace-all c.loop-at.invariant all) ∙ packed xs

pub returns-clause-rises : goal.returns-clause-rises
returns-clause-rises c = let xs = c.args.slots.now.items in
    let all : length xs ≤ c.loop-at.at = (let t = c.loop-at-test.false in omega (arith, t)) in
    subst (Rises slot_id) (sym (c.truncate.ensures.items ∙ FiltersInPlace-all c.loop-at.invariant all))
    (packed_rise xs c.requires.rises)

pub returns-clause-len : goal.returns-clause-len
returns-clause-len c = let xs = c.args.slots.now.items in
    let all : length xs ≤ c.loop-at.at = (let t = c.loop-at-test.false in omega (arith, t)) in
    ap length (c.truncate.ensures.items ∙ FiltersInPlace-all c.loop-at.invariant all) ∙ packed_long xs
