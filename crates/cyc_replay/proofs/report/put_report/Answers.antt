use Rattle.std.proofs.Common.{List, ℕ, ◌∙◌, ap, subst}
use Rattle.std.proofs.lemmas.Result.{err_from_is_err_and}
use Rattle.std.specs.Io.KnownBytes.{Appends}
use Rattle.cyc_text.specs.Puts.{AppendsPrefix}
use Rattle.cyc_text.specs.Lines.{reported}
use Rattle.cyc_text.proofs.Puts.{nothing}
use Rattle.cyc_replay.proofs.report.put_report.Goals as goal

pub returns-in_err-write_report-clause-text : goal.returns-in_err-write_report-clause-text
returns-in_err-write_report-clause-text g c step s reached h =
    let p = err_from_is_err_and c.from_residual.result c.from_residual.ensures.1 in
    rw p.1 (nothing _ _)

pub returns-in_err-put-clause-text : goal.returns-in_err-put-clause-text
returns-in_err-put-clause-text g c step s reached h =
    let P : List ℕ → Type 0 = λ text. AppendsPrefix (g.S.Sink.written c.args.sink.now) (g.S.Sink.written c.put.new.self) text in
    let p = err_from_is_err_and c.from_residual-in_err-put.result c.from_residual-in_err-put.ensures.1 in
    rw p.1 (subst P (c.as_bytes.ensures.value ∙ c.in_ok-write_report.ensures
    ∙ ap (reported c.args.name.now) (c.name_counts-counts.ensures.counts step s reached h)) c.in_err-put.ensures.bytes)

pub returns-clause-text : goal.returns-clause-text
returns-clause-text g c step s reached h =
    let P : List ℕ → Type 0 = λ text. Appends (g.S.Sink.written c.args.sink.now) (g.S.Sink.written c.put.new.self) text in
    subst P (c.as_bytes.ensures.value ∙ c.in_ok-write_report.ensures
    ∙ ap (reported c.args.name.now) (c.name_counts-counts.ensures.counts step s reached h)) c.in_ok-put.ensures.bytes
