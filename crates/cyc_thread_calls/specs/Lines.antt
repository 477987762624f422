-- What the report of a run in threads says of a name.
use Rattle.std.specs.Prelude.{ℕ, List, Option, Some, None}
use Rattle.cyc_ring.specs.declared.ends.RaiseEnd.{RaiseEnd}
use Rattle.cyc_types.specs.declared.firing.Sent.{Sent}
use Rattle.cyc_threads.specs.System.{SystemView}
use Rattle.cyc_system_rings.specs.Leading.{LeadCall}
use Rattle.cyc_system_rings.specs.Rings.{counts_in}
use Rattle.cyc_threads.specs.declared.counting.Line.{Line}
use Rattle.cyc_threads.specs.Counting.{no_line}

-- these counts, and nothing pending
abbrev pub settled_line : Sent → Line
settled_line c = record { expired = c.sent; lost = c.lost; pending = 0 }

-- what is told of its id after these calls, which end with this system; zeros where it got none
abbrev pub line_in : Option ℕ → List LeadCall → SystemView RaiseEnd → Line
line_in None way t = no_line
line_in (Some id) way t = settled_line (counts_in id way t)
