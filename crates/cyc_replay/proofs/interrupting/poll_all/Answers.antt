use Rattle.std.proofs.Common.{◌≡◌, ◌≢◌, ◌++◌, [], ◌<◌, ℕ, List, map, string_bytes, append-nil, sym, subst, arith}
use Rattle.cyc_model.specs.Softint.{interrupt, leaving_ids}
use Rattle.cyc_replay.specs.Interrupting.{polls_of, IsPolling}
use Rattle.cyc_replay.proofs.OpenRemovals.{up_to}
use Rattle.cyc_replay.proofs.Polled.{none_first, polled_more, all_last}
use Rattle.cyc_replay.proofs.interrupting.poll_all.Goals as goal

pub loop-id-init : goal.loop-id-init
loop-id-init c =
    let texts = map string_bytes c.args.names.now in let m = c.args.machine.now in
    record {
      polling = λ i s p. (
        [],
        sym (append-nil (string_bytes c.args.line.now)),
        subst (λ ids. IsPolling texts c.args.step (polls_of ids []) i s m) (sym (none_first texts c.args.step i s m p)) p,
      );
      ahead = λ n k above. (λ h. h, λ h. h);
    }

pub loop-id-preserved : goal.loop-id-preserved
loop-id-preserved c =
    let texts = map string_bytes c.args.names.now in let m = c.args.machine.now in let l = c.loop-id in let id = c.in-Some.id in
    let next = c.in-Some.ensures.some in let inv = l.invariant in let value = c.number-last.ensures.value in
    let (less, (n, at), least) = next in
    record {
      polling = λ i s p. subst (λ k. (lines : List ℕ) × (string_bytes c.poll_one.new.line ≡ string_bytes c.args.line.now ++ lines)
          × IsPolling texts c.args.step (polls_of (up_to k (leaving_ids (interrupt c.args.step i s).state)) lines) i s
          c.poll_one.new.machine) (sym value)
          (polled_more texts c.args.step i s m p l.last id n less ((inv.ahead n id less).0 at)
          (λ j k above is. least j k above ((inv.ahead j k above).1 is))
          (string_bytes c.args.line.now) (string_bytes l.line) (string_bytes c.poll_one.new.line) l.machine c.poll_one.new.machine
          (inv.polling i s p) (λ ids lines so_far. c.in_ok-poll_one.ensures.polls ids lines i s so_far));
      ahead = λ n k above.
          let far : l.last < k = omega (arith, above, value, less) in
          let other : k ≢ id = λ e. omega (arith, e, above, value) in
          let one = c.in_ok-poll_one.ensures.others n k other in let all = inv.ahead n k far in
          (λ h. all.0 (one.0 h), λ h. one.1 (all.1 h));
    }

pub returns : goal.returns
returns c = record {
  polls = λ i s p.
      let texts = map string_bytes c.args.names.now in let m = c.args.machine.now in let l = c.loop-id in
      let (lines, same, so_far) = l.invariant.polling i s p in (
        lines,
        same,
        subst (λ ids. IsPolling texts c.args.step (polls_of ids lines) i s l.machine)
            (all_last texts c.args.step i s m p l.last
            (λ n k above is. c.in_default.ensures.none n k above ((l.invariant.ahead n k above).1 is))) so_far,
      );
}
