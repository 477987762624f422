use Rattle.std.proofs.Common.{◌≡◌, ◌<◌, ◌≤◌, ◌+◌, ◌++◌, ◌∷◌, map, drop, length, get_or, append-nil, ap, sym, ◌∙◌, subst, arith}
use Rattle.std.proofs.Common.{string_bytes, ℕ, List}
use Rattle.std.proofs.lemmas.List.{at_drop_more, drop_all}
use Rattle.std.proofs.lemmas.Result.{err_from_is_err_and}
use Rattle.std.specs.Io.KnownBytes.{Appends}
use Rattle.cyc_text.specs.Puts.{AppendsPrefix}
use Rattle.cyc_text.specs.Lines.{reported}
use Rattle.cyc_text.proofs.Puts.{turn, broke}
use Rattle.cyc_model.specs.Places.{id_of}
use Rattle.cyc_model.specs.Report.{reports, counts_of}
use Rattle.cyc_replay.proofs.report.put_reports.Goals as goal

pub returns-in_err-put_report-clause-text : goal.returns-in_err-put_report-clause-text
returns-in_err-put_report-clause-text g c step s reached h =
    let (done, split, appended) = c.loop-name.invariant.text step s reached h in
    let names = c.args.script.now.names.items in let i = c.loop-name.name-index in let x = c.name-item.result in
    let low = subst (λ xs. i < length xs) c.deref-name-items.ensures.value c.loop-name-test.true in
    let here = subst (λ xs. x ≡ get_or xs i x) c.deref-name-items.ensures.value c.name-item.is in
    let next : reports i (map string_bytes (drop i names)) s ≡ reports i (map string_bytes (x ∷ drop (i + 1) names)) s =
    at_drop_more (λ xs. reports i (map string_bytes xs) s) names i x low
    ∙ ap (λ y. reports i (map string_bytes (y ∷ drop (i + 1) names)) s) (sym here) in
    let text = ap (λ t. reported t (counts_of (id_of c.loop-name.number s) s)) c.as_str.ensures.value
    ∙ ap (λ n. reported (string_bytes x) (counts_of (id_of n s) s)) c.loop-name.invariant.count in
    let held = c.loop-name.invariant.holds s h in
    let P : List ℕ → Type 0 = λ t. AppendsPrefix (g.S.Sink.written c.loop-name.sink) (g.S.Sink.written c.put_report.new.sink) t in
    let p = err_from_is_err_and c.from_residual.result c.from_residual.ensures.1 in
    rw p.1 (broke _ _ _ _ done _ _ _ split next appended (subst P text (c.in_err-put_report.ensures.text step s reached held)))

pub returns-in_err-put_report-clause-holds : goal.returns-in_err-put_report-clause-holds
returns-in_err-put_report-clause-holds g c s h = c.in_err-put_report.ensures.holds s (c.loop-name.invariant.holds s h)

pub loop-name-preserved : goal.loop-name-preserved
loop-name-preserved g c =
    let names = c.args.script.now.names.items in let i = c.loop-name.name-index in let x = c.name-item.result in
    let low = subst (λ xs. i < length xs) c.deref-name-items.ensures.value c.loop-name-test.true in
    let here = subst (λ xs. x ≡ get_or xs i x) c.deref-name-items.ensures.value c.name-item.is in
    let count = c.loop-name.invariant.count in
    record {
      count = omega (arith, count);
      holds = λ s h. c.in_ok-put_report.ensures.holds s (c.loop-name.invariant.holds s h);
      whole = c.in_ok-put_report.ensures.write;
      text = λ step s reached h.
          let (done, split, appended) = c.loop-name.invariant.text step s reached h in
          let next : reports i (map string_bytes (drop i names)) s ≡ reports i (map string_bytes (x ∷ drop (i + 1) names)) s =
          at_drop_more (λ xs. reports i (map string_bytes xs) s) names i x low
          ∙ ap (λ y. reports i (map string_bytes (y ∷ drop (i + 1) names)) s) (sym here) in
          let text = ap (λ t. reported t (counts_of (id_of c.loop-name.number s) s)) c.as_str.ensures.value
          ∙ ap (λ n. reported (string_bytes x) (counts_of (id_of n s) s)) c.loop-name.invariant.count in
          let held = c.loop-name.invariant.holds s h in
          let P : List ℕ → Type 0 = λ t. Appends (g.S.Sink.written c.loop-name.sink) (g.S.Sink.written c.put_report.new.sink) t in
          turn _ _ _ _ done _ _ _ split next appended (subst P text (c.in_ok-put_report.ensures.text step s reached held));
    }

pub returns-clause-text : goal.returns-clause-text
returns-clause-text g c step s reached h =
    let (done, split, appended) = c.loop-name.invariant.text step s reached h in
    let names = c.args.script.now.names.items in let i = c.loop-name.name-index in
    let past = subst (λ xs. length xs ≤ i) c.deref-name-items.ensures.value c.loop-name-test.false in
    let P : List ℕ → Type 0 = λ t. Appends (g.S.Sink.written c.args.sink.now) (g.S.Sink.written c.loop-name.sink) t in
    let all : reports 0 (map string_bytes names) s ≡ done =
    split ∙ ap (λ xs. done ++ reports i (map string_bytes xs) s) (drop_all i names past) ∙ append-nil done in
    subst P (sym all) appended
