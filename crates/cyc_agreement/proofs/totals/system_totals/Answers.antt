use Rattle.std.proofs.Common.{refl, sym, subst, arith}
use Rattle.std.proofs.lemmas.Option.{slice_get_within}
use Rattle.cyc_agreement.proofs.Recording.{record_none, record_read}
use Rattle.cyc_agreement.specs.Counting.{AsksTotals}
use Rattle.cyc_agreement.specs.Withdrawing.{system}
use Rattle.cyc_agreement.proofs.totals.system_totals.Goals as goal

pub returns-in_err-position-clause-did : goal.returns-in_err-position-clause-did
returns-in_err-position-clause-did g c last =
    subst (λ o. AsksTotals g.R.Raise c.args.id o (system c.args.cpus.now c.args.records.now.list last)
    (system c.args.cpus.now c.args.records.now.list last))
    (sym c.from_residual.ensures) (record_none c.args.id c.args.records.now.list c.in_err-position.ensures.none, refl)

pub at-record-requires : goal.at-record-requires
at-record-requires g c = let (r, is, own) = c.in_ok-position.ensures.some in
    slice_get_within c.args.records.now.list c.in_ok-position.position r is

pub returns-clause-did : goal.returns-clause-did
returns-clause-did g c last =
    let (r, is, own) = c.in_ok-position.ensures.some in
    let rs = c.args.records.now.list in let x = c.at-record.result.now in
    let e = record_read c.args.id c.in_ok-position.position x rs c.law.ensures.rising c.in_ok-position.ensures.some
    c.at-record.ensures in
    let (way, cpus, works, on) = c.ask_each-going_on.ensures.did in (
      way,
      x,
      e.1,
      cpus,
      (works, refl, refl),
      record {
        expired = omega (arith, c.ended_sent.ensures.value, on.expired);
        lost = omega (arith, c.ended_lost.ensures.value, on.lost);
        pending = on.pending;
      },
    )

pub returns-clause-holds : goal.returns-clause-holds
returns-clause-holds g c last h = c.ask_each-going_on.ensures.holds c.args.records.now.list last h
