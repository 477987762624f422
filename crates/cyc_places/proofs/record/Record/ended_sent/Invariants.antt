use Rattle.std.proofs.Common.{◌≡◌, ◌+◌, ◌*◌, ◌^◌, ◌≤◌, sum_by, take}
use Rattle.cyc_places.proofs.record.Record.ended_sent.Given as goal

abbrev pub invariant-loop-counts : goal.invariant-loop-counts
invariant-loop-counts l = record {
  total : l.total ≡ sum_by (λ s. s.sent) (take l.counts-index l.counts-items);
  bound : l.total + l.counts-index ≤ l.counts-index * 2 ^ 64;
}
