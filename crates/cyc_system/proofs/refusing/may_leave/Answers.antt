use Rattle.std.proofs.Common.{true, sym, ap, ◌∙◌, arith}
use Rattle.std.specs.Option.{option_and_then}
use Rattle.cyc_agreement.proofs.Presence.{online_read}
use Rattle.cyc_system.specs.Juggling.{system_of}
use Rattle.cyc_system.proofs.OtherOnline.{is_last, is_busy, is_clear, is_there, is_absent}
use Rattle.cyc_system.proofs.refusing.may_leave.Goals as goal

pub returns-then-is_none-clause-err : goal.returns-then-is_none-clause-err
returns-then-is_none-clause-err g c records last =
    let v = c.args.cpus.now in let source = c.args.source in let few = c.count.ensures.count in let less =
    c.if-source-count.false in
    is_last (system_of v records last) source (online_read v source true (c.if-not-is_online.ensures)) (omega (arith, few, less))
    (sym c.destination.ensures ∙ is_absent c.destination.result (c.if-is_none.ensures))

pub returns-in-Some-clause-err : goal.returns-in-Some-clause-err
returns-in-Some-clause-err g c records last =
    let v = c.args.cpus.now in let source = c.args.source in let few = c.count.ensures.count in let less =
    c.if-source-count.false in
    let (d, is) = is_there c.destination.result (c.if-is_none.ensures) in
    is_busy (system_of v records last) source (online_read v source true (c.if-not-is_online.ensures))
    (omega (arith, few, less)) d c.in-Some.removed
    (sym c.destination.ensures ∙ is) (ap (λ o. option_and_then (λ cpu. cpu.removal) o) c.cpu.ensures ∙ sym c.removal.ensures
    ∙ c.in-Some.is)

pub returns-clause-ok : goal.returns-clause-ok
returns-clause-ok g c records last =
    let v = c.args.cpus.now in let source = c.args.source in let few = c.count.ensures.count in let less =
    c.if-source-count.false in
    let (d, is) = is_there c.destination.result (c.if-is_none.ensures) in
    is_clear (system_of v records last) source (online_read v source true (c.if-not-is_online.ensures))
    (omega (arith, few, less)) d
    (sym c.destination.ensures ∙ is) (ap (λ o. option_and_then (λ cpu. cpu.removal) o) c.cpu.ensures ∙ sym c.removal.ensures
    ∙ c.in_default.is)
