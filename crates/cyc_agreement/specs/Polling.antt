-- How an open removal ends.
use Rattle.std.specs.Prelude.{◌≡◌, ◌≢◌, ℕ, not, List, [], ◌∷◌, map, Option, Some, None, Result, Ok, Err}
use Rattle.std.specs.List.{FoldsTo}
use Rattle.cyc_types.specs.declared.Raise.{Ghosts as Raise}
use Rattle.cyc_types.specs.declared.receipt.Receipt.{Receipt}
use Rattle.cyc_types.specs.declared.refusal.Refusal.{Refusal}
use Rattle.cyc_types.specs.declared.refusal.Refusal.TheVariants.{NoCyclic}
use Rattle.cyc_types.specs.Reasons.{when}
use Rattle.cyc_cpu.specs.Calls.{PollRemove}
use Rattle.cyc_agreement.specs.Cpus.{CpusView, on, numbers_from}
use Rattle.cyc_agreement.specs.System.{SystemView, is_leaving_here, is_leaving}
use Rattle.cyc_agreement.specs.Refusals.{Unless}
use Rattle.cyc_agreement.specs.Removing.{OnlyDoes, EndsStay, AnswersRemoval, cpus_with}

-- the numbers of the CPUs on which the removal of this id is open, rising
abbrev pub leaving_cpus : {R : Type 0} → ℕ → CpusView R → List ℕ
leaving_cpus id v = numbers_from 0 (map (is_leaving_here id) v.cpus)

-- the CPU was asked whether the removal is done there
abbrev pub PollsOn : {R : Type 0} → Raise R
    → ℕ → ℕ → Option Receipt → SystemView R → SystemView R → Type 0
PollsOn firing id n (Some receipt) s t = EndsStay firing id receipt (on n (PollRemove (Some receipt))) s t
PollsOn firing id n None s t = OnlyDoes firing n (PollRemove None) s t

-- what a CPU answered
pub record Polled : Type 0 where
  pub cpu : ℕ
  pub answer : Option Receipt

-- these CPUs were asked, in order, and nothing was done on any other
abbrev pub PollsEach : {R : Type 0} → Raise R
    → ℕ → List Polled → SystemView R → SystemView R → Type 0
PollsEach firing id way s t = FoldsTo (λ u p w. PollsOn firing id p.cpu p.answer u w) s way t

-- Every CPU on which the removal is open was asked, and where one has ended its counts are kept. The receipt comes when no
-- CPU has the cyclic any more.
abbrev pub PollsCpus : {R : Type 0} → Raise R
    → ℕ → Result (Option Receipt) Refusal → SystemView R → SystemView R → Type 0
PollsCpus {R} firing id (Ok (Some receipt)) s t = (way : List Polled) × (u : SystemView R)
    × (map (λ p. p.cpu) way ≡ leaving_cpus id s.cpus) × PollsEach firing id way s u × AnswersRemoval id receipt u t
PollsCpus firing id (Ok None) s t = (way : List Polled) × (map (λ p. p.cpu) way ≡ leaving_cpus id s.cpus)
    × PollsEach firing id way s t × (cpus_with id t.cpus ≢ [])
PollsCpus firing id (Err e) s t = ⊥

-- no removal of this id is open
abbrev pub not_leaving : {R : Type 0} → ℕ → SystemView R → Option Refusal
not_leaving id s = when (not (is_leaving id s)) NoCyclic

-- a poll of a removal, with the reason for which it is refused
abbrev pub PollsRemoval : {R : Type 0} → Raise R
    → ℕ → Result (Option Receipt) Refusal → SystemView R → SystemView R → Type 0
PollsRemoval firing id answer s t =
    Unless (not_leaving id s ∷ []) (λ e. Err e) answer s t (PollsCpus firing id answer s t)
