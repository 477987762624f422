use Rattle.std.proofs.Common.{◌-◌, get_or, sym, subst, arith}
use Rattle.cyc_finder.specs.Sorted.{IsPassed, ComesAfter}
use Rattle.cyc_finder.proofs.Here.{far}
use Rattle.cyc_finder.proofs.slots.after.Goals as goal

pub returns-in-Some-quick-clause-before : goal.returns-in-Some-quick-clause-before
returns-in-Some-quick-clause-before c k d from low = let at = c.in-Some-quick.ensures.some.at in
    let f = far c.args.slots.now c.requires (c.in-Some-quick.position - k) k c.in-Some-quick.position d (omega (arith, low))
    at.in_range in
    let i = at.has_id d in subst (λ o. IsPassed o (get_or c.args.slots.now k d).id) (sym c.in-Some.is) (omega (arith, f, i))

pub returns-in-Some-quick-clause-from : goal.returns-in-Some-quick-clause-from
returns-in-Some-quick-clause-from c k d from low = let at = c.in-Some-quick.ensures.some.at in
    let f = far c.args.slots.now c.requires (k - c.in-Some-quick.position) c.in-Some-quick.position k d (omega (arith, from))
    low in
    let i = at.has_id d in
    subst (λ o. ComesAfter o (get_or c.args.slots.now k d).id) (sym c.in-Some.is) (omega (arith, f, i, from))

pub returns-in-Ok-clause-before : goal.returns-in-Ok-clause-before
returns-in-Ok-clause-before c k d from low = let at = c.in-Ok.ensures.found in
    let f = far c.args.slots.now c.requires (c.in-Ok.position - k) k c.in-Ok.position d (omega (arith, low)) at.in_range in
    let i = at.has_id d in subst (λ o. IsPassed o (get_or c.args.slots.now k d).id) (sym c.in-Some.is) (omega (arith, f, i))

pub returns-in-Ok-clause-from : goal.returns-in-Ok-clause-from
returns-in-Ok-clause-from c k d from low = let at = c.in-Ok.ensures.found in
    let f = far c.args.slots.now c.requires (k - c.in-Ok.position) c.in-Ok.position k d (omega (arith, from)) low in
    let i = at.has_id d in
    subst (λ o. ComesAfter o (get_or c.args.slots.now k d).id) (sym c.in-Some.is) (omega (arith, f, i, from))
