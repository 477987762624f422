-- The counts of a cyclic over all CPUs.
use Rattle.std.specs.Prelude.{◌≡◌, ℕ, ◌+◌, List, map, sum_by, Option, Some, None}
use Rattle.cyc_types.specs.declared.Raise.{Ghosts as Raise}
use Rattle.cyc_cpu.specs.declared.hard.Totals.{Totals}
use Rattle.cyc_cpu.specs.Calls.{AskTotals}
use Rattle.cyc_places.specs.declared.record.Record.{Record}
use Rattle.cyc_agreement.specs.Cpus.{CallOn, on}
use Rattle.cyc_agreement.specs.System.{SystemView, record_of}
use Rattle.cyc_agreement.specs.Adding.{OnlyWorks}
use Rattle.cyc_agreement.specs.declared.totals.SystemTotals.{SystemTotals}
use Rattle.cyc_agreement.specs.Removing.{cpus_with}

-- what a CPU answered
pub record Counted : Type 0 where
  pub cpu : ℕ
  pub totals : Totals

abbrev pub asked : ℕ → Counted → CallOn
asked id a = on a.cpu (AskTotals id (Some a.totals))

-- the counts of the stays that go on
pub record GoingOn (way : List Counted) (answer : SystemTotals) : Type 0 where
  pub expired : answer.expired ≡ sum_by (λ a. a.totals.expired) way
  pub lost : answer.lost ≡ sum_by (λ a. a.totals.lost) way
  pub pending : answer.pending ≡ sum_by (λ a. a.totals.pending) way

-- with those of the stays that have ended
pub record AddsUp (way : List Counted) (r : Record) (answer : SystemTotals) : Type 0 where
  pub expired : answer.expired ≡ sum_by (λ s. s.sent) r.ended + sum_by (λ a. a.totals.expired) way
  pub lost : answer.lost ≡ sum_by (λ s. s.lost) r.ended + sum_by (λ a. a.totals.lost) way
  pub pending : answer.pending ≡ sum_by (λ a. a.totals.pending) way

-- every CPU that has the cyclic was asked for it; no other was, and nothing else was done
abbrev pub AsksTotals : {R : Type 0} → Raise R
    → ℕ → Option SystemTotals → SystemView R → SystemView R → Type 0
AsksTotals firing id (Some totals) s t = (way : List Counted) × (r : Record) × (record_of id s ≡ Some r)
    × (map (λ a. a.cpu) way ≡ cpus_with id s.cpus) × OnlyWorks firing (map (asked id) way) s t × AddsUp way r totals
AsksTotals firing id None s t = (record_of id s ≡ None) × (t ≡ s)
