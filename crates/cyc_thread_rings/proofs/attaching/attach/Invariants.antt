use Rattle.std.proofs.Common.{◌≡◌, ◌+◌, ◌≤◌, ◌++◌, length}
use Rattle.std.specs.Prelude.{vec_len, vec_capacity}
use Rattle.std.specs.Vec.Iter.{into_iter_items, into_iter_len}
use Rattle.cyc_types.specs.Pairs.{EachTwo}
use Rattle.cyc_thread_rings.specs.Rings.{IsAttached}
use Rattle.cyc_thread_rings.proofs.attaching.attach.Given as goal

abbrev pub invariant-loop-seated : goal.invariant-loop-seated
invariant-loop-seated g l = record {
  all : l.yielded ++ into_iter_items l.seated-iterator ≡ l.fn.all.items;
  many : into_iter_len l.seated-iterator ≡ length (into_iter_items l.seated-iterator);
  room : vec_len l.attached + into_iter_len l.seated-iterator ≤ vec_capacity l.attached;
  done : EachTwo IsAttached l.yielded l.attached.items;
}
