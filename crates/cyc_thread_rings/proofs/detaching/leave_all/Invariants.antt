use Rattle.std.proofs.Common.{◌≡◌, ◌+◌, ◌≤◌, ◌++◌, map, length}
use Rattle.std.specs.Prelude.{vec_len, vec_capacity}
use Rattle.std.specs.Vec.Iter.{into_iter_items, into_iter_len}
use Rattle.cyc_workers.specs.declared.settling.Lead.{Lead}
use Rattle.cyc_thread_rings.specs.declared.levels.Seated.{Seated}
use Rattle.cyc_thread_rings.specs.Rings.{firing_seats, seats_on, soft_seats, soft_seats_on}
use Rattle.cyc_thread_rings.proofs.detaching.leave_all.Given as goal

abbrev pub invariant-loop-hard : goal.invariant-loop-hard
invariant-loop-hard g l = record {
  all : l.yielded ++ into_iter_items l.hard-iterator ≡ l.fn.hards.items;
  many : into_iter_len l.hard-iterator ≡ length (into_iter_items l.hard-iterator);
  room : vec_len l.all + into_iter_len l.hard-iterator ≤ vec_capacity l.all;
  many_leads : into_iter_len l.rest_leads ≡ length (into_iter_items l.rest_leads);
  many_soft : into_iter_len l.rest_soft ≡ length (into_iter_items l.rest_soft);
  firing : map firing_seats l.all.items ≡ map seats_on l.yielded;
  high : map (λ (x : Seated _). x.calls.high) l.all.items ++ map (λ (x : Lead _). x.calls) (into_iter_items l.rest_leads)
      ≡ map (λ (x : Lead _). x.calls) l.fn.leads.items;
  soft : map soft_seats l.all.items ++ map soft_seats_on (into_iter_items l.rest_soft) ≡ map soft_seats_on l.fn.soft.items;
}
