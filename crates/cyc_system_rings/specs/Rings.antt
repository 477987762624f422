-- What the rings of a system say of each id, over all CPUs.
use Rattle.std.specs.Prelude.{◌≡◌, ℕ, ◌+◌, ◌==◌, cond, sum_by, ⊤, List, [], ◌∷◌, Option, Some, None, Ok}
use Rattle.std.specs.Option.{option_map_or}
use Rattle.cyc_types.specs.declared.firing.Sent.{Sent}
use Rattle.cyc_types.specs.declared.receipt.Receipt.{Receipt}
use Rattle.ring_rule.specs.Trail.{raises_of, losses_on_trail}
use Rattle.ring_rule.specs.Conservation.{IsAccounted}
use Rattle.cyc_ring.specs.declared.ends.RaiseEnd.{RaiseEnd}
use Rattle.cyc_ring.specs.declared.closed.Closed.{Closed}
use Rattle.cyc_ring.specs.Ends.{raise_trail, drain_trail, end_view}
use Rattle.cyc_ring.specs.Books.{closed_raises, closed_made}
use Rattle.cyc_cpu.specs.Cpu.{CpuView}
use Rattle.cyc_cpu.specs.Moving.{IsSettled}
use Rattle.cyc_system_laws.specs.SystemRemoval.TheVariants.{Done}
use Rattle.cyc_system_laws.specs.System.{SystemView}
use Rattle.cyc_system_laws.specs.Counts.{all_expired, all_lost}
use Rattle.cyc_system_laws.specs.SystemCalls.{BeginRemove, PollRemove}
use Rattle.cyc_system_workers.specs.Lead.{Lead}
use Rattle.cyc_system_rings.specs.Leading.{LeadCall, Make}

-- the raises of an id at the two ends of a CPU since their rings were opened, and those that were lost
abbrev pub raised_at_ends : ℕ → CpuView RaiseEnd → ℕ
raised_at_ends id cpu = raises_of id (raise_trail cpu.lock.seat) + raises_of id (raise_trail cpu.low.seat)

abbrev pub dropped_on : ℕ → CpuView RaiseEnd → ℕ
dropped_on id cpu = losses_on_trail id (raise_trail cpu.lock.seat) + losses_on_trail id (raise_trail cpu.low.seat)

-- on all CPUs
abbrev pub all_raised : ℕ → SystemView RaiseEnd → ℕ
all_raised id s = sum_by (raised_at_ends id) s.cpus.cpus

abbrev pub all_dropped : ℕ → SystemView RaiseEnd → ℕ
all_dropped id s = sum_by (dropped_on id) s.cpus.cpus

-- the calls of an id that the handlers of all high levels had
abbrev pub counted_by : {C : Type 0} → (C → ℕ → ℕ) → ℕ → List (Lead C) → ℕ
counted_by count id leads = sum_by (λ l. count l.calls id) leads

-- ---- what is told of an id at the end of a run

-- the receipt with which a call answers the removal of this id
abbrev pub receipt_of : ℕ → LeadCall → Option Receipt
receipt_of id (Make (BeginRemove own (Ok (Done receipt)))) = cond (own == id) (Some receipt) None
receipt_of id (Make (PollRemove own (Ok (Some receipt)))) = cond (own == id) (Some receipt) None
receipt_of id call = None

abbrev pub first_ring : {A : Type 0} → Option A → Option A → Option A
first_ring None later = later
first_ring (Some x) later = Some x

abbrev pub receipt_in : ℕ → List LeadCall → Option Receipt
receipt_in id [] = None
receipt_in id (call ∷ way) = first_ring (receipt_of id call) (receipt_in id way)

-- its counts: those of the receipt where its removal has answered, else those that the system has of it on all CPUs
abbrev pub counts_in : ℕ → List LeadCall → SystemView RaiseEnd → Sent
counts_in id way t = option_map_or (λ r. record { sent = r.sent; lost = r.lost })
    (receipt_in id way) (record { sent = all_expired id t; lost = all_lost id t })

-- ---- the rings that are closed at the end

-- the ring of this end was closed, and says of each id what was made, what is pending and what was lost
abbrev pub IsClosedOver : RaiseEnd → Closed → Type 0
IsClosedOver e c =
    (closed_raises c ≡ raise_trail e.seat) × IsAccounted (closed_raises c) (drain_trail c.drain_seat.value)

-- each CPU has settled, and its two rings were closed: by the numbers of the CPUs, the lock level's before the low level's
abbrev pub AreSettledAndClosed : List (CpuView RaiseEnd) → List Closed → Type 0
AreSettledAndClosed [] [] = ⊤
AreSettledAndClosed (x ∷ xs) (lock ∷ low ∷ rings) =
    IsSettled end_view x × IsClosedOver x.lock lock × IsClosedOver x.low low × AreSettledAndClosed xs rings
AreSettledAndClosed xs rings = ⊥

-- the calls of an id that the soft sides of all rings made
abbrev pub all_made : ℕ → List Closed → ℕ
all_made id rings = sum_by (λ c. closed_made c id) rings
