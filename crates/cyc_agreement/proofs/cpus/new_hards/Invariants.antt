use Rattle.std.proofs.Common.{◌≡◌, ◌+◌, ◌≤◌, ◌++◌, map, length}
use Rattle.std.specs.Prelude.{vec_len, vec_capacity}
use Rattle.std.specs.Vec.Iter.{into_iter_items, into_iter_len}
use Rattle.cyc_agreement.specs.Cpus.{new_cpu}
use Rattle.cyc_agreement.proofs.cpus.new_hards.Given as goal

abbrev pub invariant-loop-lock : goal.invariant-loop-lock
invariant-loop-lock g l = record {
  all : l.yielded ++ into_iter_items l.lock-iterator ≡ l.fn.ends.items;
  many : into_iter_len l.lock-iterator ≡ length (into_iter_items l.lock-iterator);
  room : vec_len l.hards + into_iter_len l.lock-iterator ≤ vec_capacity l.hards;
  made : l.hards.items ≡ map (λ e. new_cpu l.most e.0 e.1) l.yielded;
}
