-- What goes out through a parameter.
use Rattle.std.specs.Prelude.{◌≡◌, ℕ, ◌-◌, ◌^◌, min, pos}
use Rattle.cyc_types.specs.declared.receipt.Receipt.{Receipt}
use Rattle.cyc_timers.specs.declared.fire.Fired.{Fired}
use Rattle.cyc_timers.specs.declared.fire.FireRefused.{FireRefused}
use Rattle.cyc_cpu.specs.declared.hard.Totals.{Totals}
use Rattle.cyc_ring.specs.declared.closed.Book.{Book}
use Rattle.cyc_border.specs.Numbers.{id_in_refusal}
use Rattle.cyc_border.specs.declared.numbers.Denied.TheVariants.{Refused}
use Rattle.cyclic_c.specs.declared.records.CyclicFired.{CyclicFired}
use Rattle.cyclic_c.specs.declared.records.CyclicTotals.{CyclicTotals}
use Rattle.cyclic_c.specs.declared.records.CyclicReceipt.{CyclicReceipt}
use Rattle.cyclic_c.specs.declared.records.CyclicBook.{CyclicBook}

-- the greatest number that goes out; no cyclic expires more often
abbrev pub greatest : ℕ
greatest = 2 ^ 64 - 1

abbrev pub IsFiredRecord : Fired → CyclicFired → Type 0
IsFiredRecord r f = (f.expired ≡ r.expired) × (f.lost ≡ r.lost) × (f.next ≡ pos r.next) × (f.id ≡ 0)

abbrev pub IsRefusedRecord : FireRefused → CyclicFired → Type 0
IsRefusedRecord e f = (f.expired ≡ e.expired) × (f.lost ≡ e.lost) × (f.next ≡ pos 0) × (f.id ≡ id_in_refusal (Refused e.why))

abbrev pub IsTotals : Totals → CyclicTotals → Type 0
IsTotals t c = (c.expired ≡ t.expired) × (c.lost ≡ t.lost) × (c.pending ≡ t.pending)

abbrev pub IsReceiptRecord : Receipt → CyclicReceipt → Type 0
IsReceiptRecord r c = (c.id ≡ r.id) × (c.expired ≡ min r.sent greatest) × (c.lost ≡ min r.lost greatest)

abbrev pub IsBookOut : Book → CyclicBook → Type 0
IsBookOut b c = (c.id ≡ b.id) × (c.expired ≡ b.sent) × (c.done ≡ b.done) × (c.lost ≡ b.lost) × (c.pending ≡ b.count)
    × (c.removed ≡ b.marked)
