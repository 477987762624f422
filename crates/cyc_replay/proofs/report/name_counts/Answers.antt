use Rattle.std.proofs.Common.{Some, None, refl, ap, sym, ◌∙◌, subst, length}
use Rattle.cyc_system.specs.System.{running_system}
use Rattle.cyc_system.specs.Calls.{AskTotals}
use Rattle.cyc_system_model.specs.Shown.{ShowsSystem}
use Rattle.cyc_model.specs.Report.{counts_of}
use Rattle.cyc_replay.specs.Machine.{id_of_named}
use Rattle.cyc_system_model.specs.Removal.{told_by_receipt}
use Rattle.cyc_replay.proofs.Doing.{keeps, refuses}
use Rattle.cyc_replay.proofs.Named.{same_id}
use Rattle.cyc_replay.proofs.Remembering.{nobody_counts}
use Rattle.cyc_replay.proofs.Reported.{same_counts}
use Rattle.cyc_replay.proofs.report.name_counts.Goals as goal

pub returns-in_default-clause-counts : goal.returns-in_default-clause-counts
returns-in_default-clause-counts c = λ step s r h.
    let m = c.args.machine.now in let name = c.args.name in
    let found = c.id_in.ensures ∙ ap id_of_named c.at.ensures in
    let none = same_id s m name None h (sym c.in_default.is ∙ found) in
    c.no_counts.ensures ∙ sym (ap (λ k. counts_of k s) none ∙ nobody_counts step s r)

pub returns-in_default-answer-clause-counts : goal.returns-in_default-answer-clause-counts
returns-in_default-answer-clause-counts c = λ step s r h.
    let m = c.args.machine.now in let name = c.args.name in let id = c.in-Some.id in let w = c.totals-answer.new.self in
    let found = c.id_in.ensures ∙ ap id_of_named c.at.ensures in
    let at = sym (sym c.in-Some.is ∙ found) in
    let named = same_id s m name (Some id) h (sym c.in-Some.is ∙ found) in
    let gone = (c.report_law.ensures.none id s m.system w h.system h.shows c.in_default-answer.ensures).0 in
    let (receipt, removed, told) = h.remembers.counted name id at gone in
    let calls = c.from-called.ensures ∙ c.called_by.ensures ∙ h.called id in
    c.counts_left.ensures receipt (c.at-in_default-answer.ensures ∙ removed) ∙ ap (told_by_receipt receipt) calls
    ∙ sym told ∙ sym (ap (λ k. counts_of k s) named)

pub returns-in_default-answer-clause-holds : goal.returns-in_default-answer-clause-holds
returns-in_default-answer-clause-holds c = λ s h.
    let m = c.args.machine.now in let id = c.in-Some.id in let w = c.totals-answer.new.self in let did =
    c.in_default-answer.ensures in
    let before = running_system m.tally m.system in let after = running_system m.tally w in
    let kept = c.kept_law.ensures in let call = AskTotals id None in
    let system = kept.system call before after (did, refl) h.system c.law.ensures in
    let same = (c.report_law.ensures.none id s m.system w h.system h.shows did).1 in
    refuses s m (record m { system = w }) h
    (keeps s m w h system (kept.most call before after (did, refl) h.system)
    (kept.room call before after (did, refl) h.system (length s.names) h.room)
    (kept.suspended call before after (did, refl) tt))
    (subst (λ v. ShowsSystem s v) (sym same) h.shows) refl refl (record { names = refl; named = refl })

pub returns-clause-counts : goal.returns-clause-counts
returns-clause-counts c = λ step s r h.
    let m = c.args.machine.now in let name = c.args.name in let id = c.in-Some.id in let w = c.totals-answer.new.self in
    let totals = c.in-Some-answer.totals in
    let found = c.id_in.ensures ∙ ap id_of_named c.at.ensures in
    let named = same_id s m name (Some id) h (sym c.in-Some.is ∙ found) in
    let told = (c.report_law.ensures.some id totals s m.system w h.system h.shows c.in-Some-answer.ensures).1 in
    let calls = c.from-called.ensures ∙ c.called_by.ensures ∙ h.called id in
    same_counts _ _ refl calls refl refl ∙ sym told ∙ sym (ap (λ k. counts_of k s) named)

pub returns-clause-holds : goal.returns-clause-holds
returns-clause-holds c = λ s h.
    let m = c.args.machine.now in let id = c.in-Some.id in let w = c.totals-answer.new.self in let did =
    c.in-Some-answer.ensures in
    let before = running_system m.tally m.system in let after = running_system m.tally w in
    let kept = c.kept_law.ensures in let call = AskTotals id (Some c.in-Some-answer.totals) in
    let system = kept.system call before after (did, refl) h.system c.law.ensures in
    let shows = (c.report_law.ensures.some id c.in-Some-answer.totals s m.system w h.system h.shows did).0 in
    refuses s m (record m { system = w }) h
    (keeps s m w h system (kept.most call before after (did, refl) h.system)
    (kept.room call before after (did, refl) h.system (length s.names) h.room)
    (kept.suspended call before after (did, refl) tt))
    shows refl refl (record { names = refl; named = refl })
