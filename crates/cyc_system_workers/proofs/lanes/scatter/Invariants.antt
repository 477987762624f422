use Rattle.std.proofs.Common.{◌≡◌, ◌+◌, ◌≤◌, ◌++◌, map, length}
use Rattle.std.specs.Prelude.{vec_len, vec_capacity}
use Rattle.std.specs.Vec.Iter.{into_iter_items, into_iter_len}
use Rattle.cyc_system_workers.specs.declared.lanes.LaneAfter.{LaneAfter}
use Rattle.cyc_system_workers.proofs.lanes.scatter.Given as goal

abbrev pub invariant-loop-lane : goal.invariant-loop-lane
invariant-loop-lane g l = record {
  all : l.yielded ++ into_iter_items l.lane-iterator ≡ l.fn.lanes.items;
  many : into_iter_len l.lane-iterator ≡ length (into_iter_items l.lane-iterator);
  room : vec_len l.hards + into_iter_len l.lane-iterator ≤ vec_capacity l.hards;
  room_leads : vec_len l.leads + into_iter_len l.lane-iterator ≤ vec_capacity l.leads;
  room_answers : vec_len l.answers + into_iter_len l.lane-iterator ≤ vec_capacity l.answers;
  hards : l.hards.items ≡ map (λ (x : LaneAfter _ _). x.hard) l.yielded;
  leads : l.leads.items ≡ map (λ (x : LaneAfter _ _). x.lead) l.yielded;
  answers : l.answers.items ≡ map (λ (x : LaneAfter _ _). x.answer) l.yielded;
}
