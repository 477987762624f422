use Rattle.std.proofs.Common.{subst, sym, ap, ◌∙◌, ◌+◌, ◌<◌, ◌≤◌, length}
use Rattle.std.specs.Prelude.{vec_capacity}
use Rattle.cyc_threads.proofs.Telling.{Begun, none_told, one_told, all_told, room_left}
use Rattle.cyc_threads.proofs.Quiet.{begun_settled, begun_quiet}
use Rattle.cyc_threads.proofs.counting.report.Goals as goal

pub loop-name-init : goal.loop-name-init
loop-name-init g c = let taken = c.in_ok-lines.ensures in record {
  told = subst (λ lines. Begun g.R.Raise 0 lines c.args.progress.now c.args.progress.now) (sym taken.items)
      (none_told g.R.Raise c.args.progress.now);
  long = taken.len;
  room = subst (λ n. n ≤ vec_capacity c.in_ok-lines.lines) c.len.ensures taken.capacity;
}

pub loop-name-preserved : goal.loop-name-preserved
loop-name-preserved g c =
    let inv = c.loop-name.invariant in let did = c.line_of.ensures in let pushed = c.push_reserved.ensures in
    record {
      told = subst (λ lines. Begun g.R.Raise (c.loop-name.name + 1) lines c.args.progress.now c.line_of.new.progress)
          (sym pushed.items) (one_told g.R.Raise c.loop-name.name c.loop-name.lines.items c.line_of.result c.args.progress.now
          c.loop-name.progress c.line_of.new.progress
          (subst (λ n. c.loop-name.name < n) c.len-name-end.ensures c.loop-name-test.true) inv.told did.did did.names);
      long = pushed.len ∙ ap (λ n. n + 1) inv.long;
      room = subst (λ n. length c.args.progress.now.names ≤ n) (sym pushed.capacity) inv.room;
    }

pub push_reserved-requires : goal.push_reserved-requires
push_reserved-requires g c = let inv = c.loop-name.invariant in
    room_left _ c.loop-name.name (length c.args.progress.now.names) _ inv.long
    (subst (λ n. c.loop-name.name < n) c.len-name-end.ensures c.loop-name-test.true) inv.room

pub returns-clause-lines : goal.returns-clause-lines
returns-clause-lines g c = all_told g.R.Raise c.loop-name.name c.loop-name.lines.items c.args.progress.now c.loop-name.progress
    (subst (λ n. n ≤ c.loop-name.name) c.len-name-end.ensures c.loop-name-test.false) c.loop-name.invariant.told

pub returns-clause-settled : goal.returns-clause-settled
returns-clause-settled g c = λ rests. begun_settled g.R.Raise c.loop-name.name c.loop-name.lines.items
    c.args.progress.now c.loop-name.progress c.loop-name.invariant.told rests

pub returns-clause-quiet : goal.returns-clause-quiet
returns-clause-quiet g c = λ rests. begun_quiet g.R.Raise c.loop-name.name c.loop-name.lines.items
    c.args.progress.now c.loop-name.progress c.loop-name.invariant.told rests
