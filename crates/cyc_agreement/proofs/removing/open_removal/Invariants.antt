use Rattle.std.proofs.Common.{◌≡◌, ℕ, ◌<◌, ◌==◌, true, None, map, drop}
use Rattle.std.specs.List.{list_any}
use Rattle.cyc_types.specs.Reasons.{first_refusal, busy}
use Rattle.cyc_agreement.specs.Cpus.{numbers_from}
use Rattle.cyc_agreement.specs.System.{has, removal_on, ids_of}
use Rattle.cyc_agreement.specs.Removing.{cpus_with}
use Rattle.cyc_agreement.proofs.removing.open_removal.Given as goal

abbrev pub invariant-loop-number : goal.invariant-loop-number
invariant-loop-number g l = record {
  rest : first_refusal (map (λ n. busy (removal_on n l.cpus)) (cpus_with l.id l.cpus))
      ≡ first_refusal (map (λ n. busy (removal_on n l.cpus))
      (numbers_from l.number (drop l.number (map (λ cpu. list_any (λ own. own == l.id) (ids_of cpu)) l.cpus.cpus))));
  none : (m : ℕ) → m < l.number → has m l.id l.cpus ≡ true → removal_on m l.cpus ≡ None;
}
