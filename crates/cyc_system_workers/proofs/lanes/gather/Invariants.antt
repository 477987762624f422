use Rattle.std.proofs.Common.{◌≡◌, ◌+◌, ◌≤◌, ◌++◌, map, length, take}
use Rattle.std.specs.Prelude.{vec_len, vec_capacity}
use Rattle.std.specs.Vec.Iter.{into_iter_items, into_iter_len}
use Rattle.cyc_system_workers.specs.declared.lanes.Lane.{Lane}
use Rattle.cyc_system_workers.proofs.lanes.gather.Given as goal

abbrev pub invariant-loop-hard : goal.invariant-loop-hard
invariant-loop-hard g l = record {
  all : l.yielded ++ into_iter_items l.hard-iterator ≡ l.fn.hards.items;
  many : into_iter_len l.hard-iterator ≡ length (into_iter_items l.hard-iterator);
  many_leads : into_iter_len l.rest ≡ length (into_iter_items l.rest);
  positions : vec_len l.lanes + into_iter_len l.hard-iterator ≡ length l.online;
  positions_leads : vec_len l.lanes + into_iter_len l.rest ≡ length l.online;
  room : length l.online ≤ vec_capacity l.lanes;
  hards : map (λ (x : Lane _ _). x.hard) l.lanes.items ≡ l.yielded;
  leads : map (λ (x : Lane _ _). x.lead) l.lanes.items ++ into_iter_items l.rest ≡ l.fn.leads.items;
  online : map (λ (x : Lane _ _). x.online) l.lanes.items ≡ take (vec_len l.lanes) l.online;
}
