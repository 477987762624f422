use Rattle.std.proofs.Common.{◌≡◌, ◌++◌, map, length}
use Rattle.std.specs.Vec.Iter.{into_iter_items, into_iter_len}
use Rattle.cyc_workers.specs.declared.settling.Lead.{Lead}
use Rattle.cyc_thread_rings.specs.declared.attaching.Attached.{Attached}
use Rattle.cyc_thread_rings.specs.Preparing.{HasThreadRoom}
use Rattle.cyc_thread_rings.specs.Working.{sides_of}
use Rattle.cyc_thread_rings.proofs.preparing.prepare.Given as goal

abbrev pub invariant-loop-attached : goal.invariant-loop-attached
invariant-loop-attached g l = record {
  all : l.yielded ++ into_iter_items l.attached-iterator ≡ l.fn.all.items;
  many : into_iter_len l.attached-iterator ≡ length (into_iter_items l.attached-iterator);
  room : HasThreadRoom (into_iter_len l.attached-iterator) l.lists;
  ends : l.lists.ends.items ≡ map (λ (x : Attached _). x.ends) l.yielded;
  leads : map (λ (x : Lead _). x.calls) l.lists.leads.items ≡ map (λ (x : Attached _). x.high) l.yielded;
  drainers : map sides_of l.lists.drainers.items ≡ map (λ (x : Attached _). x.soft) l.yielded;
}
