-- What is reported of each name.
use Rattle.std.specs.Prelude.{◌≡◌, ℕ, List, map, Option, Some, None}
use Rattle.std.specs.List.{FoldsTo}
use Rattle.cyc_types.specs.declared.Raise.{Ghosts as Raise}
use Rattle.cyc_types.specs.declared.receipt.Receipt.{Receipt}
use Rattle.cyc_system_laws.specs.SystemTotals.{SystemTotals}
use Rattle.cyc_system_workers.specs.Calls.{AskTotals}
use Rattle.cyc_words.specs.declared.named.Named.{Named}
use Rattle.cyc_words.specs.declared.named.Named.TheVariants.{Nothing, Cyclic, Leaving, Removed}
use Rattle.cyc_threads.specs.declared.progress.Progress.{Progress}
use Rattle.cyc_threads.specs.declared.counting.Line.{Line}
use Rattle.cyc_threads.specs.StepCalls.{CallsFor}

-- the line of a name whose add was refused, and that of an id of which the system knows nothing
abbrev pub no_line : Line
no_line = record { expired = 0; lost = 0; pending = 0 }

-- what a receipt has
abbrev pub receipt_line : Receipt → Line
receipt_line receipt = record { expired = receipt.sent; lost = receipt.lost; pending = 0 }

-- what the system answered
abbrev pub totals_line : Option SystemTotals → Line
totals_line None = no_line
totals_line (Some totals) = record { expired = totals.expired; lost = totals.lost; pending = totals.pending }

-- a name and its line
pub record NameLine : Type 0 where
  pub named : Named
  pub line : Line

-- the system is asked for the totals of a cyclic that is here, and for nothing else
abbrev pub AsksTotalsOf : {C R : Type 0} → Raise R
    → ℕ → Line → Progress R C → Progress R C → Type 0
AsksTotalsOf firing id line s t =
    (answer : Option SystemTotals) × CallsFor firing 0 (AskTotals id answer) s t × (line ≡ totals_line answer)

-- the line of what a name has: its cyclic's totals, or what the receipt of its removal has
abbrev pub TellsOf : {C R : Type 0} → Raise R
    → Named → Line → Progress R C → Progress R C → Type 0
TellsOf firing Nothing line s t = (line ≡ no_line) × (t ≡ s)
TellsOf firing (Cyclic id) line s t = AsksTotalsOf firing id line s t
TellsOf firing (Leaving id) line s t = AsksTotalsOf firing id line s t
TellsOf firing (Removed receipt) line s t = (line ≡ receipt_line receipt) × (t ≡ s)

abbrev pub Tells : {C R : Type 0} → Raise R → Progress R C → NameLine → Progress R C → Type 0
Tells firing s told t = TellsOf firing told.named told.line s t

-- a line for each name, in order
pub record Reports {C R : Type 0} (firing : Raise R) (lines : List Line)
    (s t : Progress R C) : Type 0 where
  pub all : List NameLine
  pub tells : FoldsTo (Tells firing) s all t
  pub names : map (λ told. told.named) all ≡ s.names
  pub lines_are : map (λ told. told.line) all ≡ lines
