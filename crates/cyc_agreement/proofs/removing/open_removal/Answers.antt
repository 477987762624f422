use Rattle.std.proofs.Common.{sym, ◌∙◌, arith}
use Rattle.cyc_agreement.proofs.Lists.{false_true}
use Rattle.cyc_agreement.proofs.Presence.{has_low, has_is}
use Rattle.cyc_agreement.proofs.One.{is_none, removal_there}
use Rattle.cyc_agreement.proofs.Opening.{tested, why_open, why_still, why_other, why_none, still_more}
use Rattle.cyc_agreement.proofs.removing.open_removal.Goals as goal
use Rattle.cyc_agreement.proofs.removing.open_removal.Goals.{then-has+in_default, else-has}

pub returns-in-Some-clause-first : goal.returns-in-Some-clause-first
returns-in-Some-clause-first g c records last =
    let v = c.args.cpus.now in let n = c.loop-number.number in let x = c.cpu-cpu.result.now in
    c.loop-number.invariant.rest ∙ why_open c.args.id v n c.in-Some.removed x c.cpu-cpu.ensures
    (tested v n c.args.id x c.has.result c.cpu-cpu.ensures c.has.ensures.here c.has.ensures.none ∙ c.if-has.true)
    (sym c.removal.ensures ∙ c.in-Some.is)

pub loop-number-preserved : goal.loop-number-preserved
loop-number-preserved g c =
    let v = c.args.cpus.now in let n = c.loop-number.number in let x = c.cpu-cpu.result.now in let at = c.cpu-cpu.ensures in
    let test = tested v n c.args.id x c.has.result at c.has.ensures.here c.has.ensures.none in
    let is = has_is v n c.args.id x c.has.result at c.has.ensures.here c.has.ensures.none in
    elim c.if-has.branch [
      | then-has+in_default w ↦ (let none = sym w.removal.ensures ∙ is_none w.removal.result w.in_default.not-Some in record {
        rest = c.loop-number.invariant.rest ∙ why_still c.args.id v n x at (test ∙ w.if-has.true) none;
        none = still_more c.args.id v n c.loop-number.invariant.none (λ h. removal_there v n x at ∙ none);
      })
      | else-has w ↦ record {
        rest = c.loop-number.invariant.rest ∙ why_other c.args.id v n x at (test ∙ w.if-has.false);
        none = still_more c.args.id v n c.loop-number.invariant.none (λ h. absurd (false_true (sym w.if-has.false ∙ is ∙ h)));
      }
    ]

pub returns-clause-first : goal.returns-clause-first
returns-clause-first g c records last =
    c.loop-number.invariant.rest ∙ why_none c.args.id c.args.cpus.now c.loop-number.number
    (let e = c.count-number-end.ensures.count in omega arith)

pub returns-clause-none : goal.returns-clause-none
returns-clause-none g c n h =
    c.loop-number.invariant.none n (let low = has_low c.args.cpus.now n c.args.id h in let e = c.count-number-end.ensures.count in
    omega arith) h
