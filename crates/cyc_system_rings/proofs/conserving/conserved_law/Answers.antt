use Rattle.std.proofs.Common.{ℕ}
use Rattle.ring_rule.specs.Trail.{raises_of, losses_on_trail}
use Rattle.cyc_ring.specs.declared.ends.RaiseEnd.{RaiseEnd}
use Rattle.cyc_ring.specs.Ends.{raise_trail, raise_end}
use Rattle.cyc_ring.proofs.Ways.{raise_ways}
use Rattle.cyc_system_rings.proofs.Balance.{run_even}
use Rattle.cyc_system_rings.proofs.Closing.{all_closed}
use Rattle.cyc_system_rings.proofs.conserving.conserved_law.Goals as goal

abbrev raised : ℕ → RaiseEnd → ℕ
raised id e = raises_of id (raise_trail e.seat)

abbrev dropped : ℕ → RaiseEnd → ℕ
dropped id e = losses_on_trail id (raise_trail e.seat)

pub returns-clause-expired : goal.returns-clause-expired
returns-clause-expired g c id s t way run sound ready =
    (run_even g.C.Calls raise_end raised dropped
    (λ e f way goes id. (let (same, up, down) = raise_ways e f way goes in (up id, down id))) id s t way run sound ready).expired

pub returns-clause-lost : goal.returns-clause-lost
returns-clause-lost g c id s t way run sound ready =
    (run_even g.C.Calls raise_end raised dropped
    (λ e f way goes id. (let (same, up, down) = raise_ways e f way goes in (up id, down id))) id s t way run sound ready).losses

pub returns-clause-closed : goal.returns-clause-closed
returns-clause-closed g c id t rings closed = all_closed id t.cpus.cpus rings closed
