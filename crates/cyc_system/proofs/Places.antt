-- The ids of a CPU by their positions.
use Rattle.std.proofs.Common.{◌≡◌, ℕ, ◌<◌, ◌≤◌, true, Some, length, option_map, sym, ap, ◌∙◌, arith}
use Rattle.std.specs.Prelude.{◌==◌}
use Rattle.std.specs.List.{slice_get}
use Rattle.std.proofs.lemmas.Option.{slice_get-map, slice_get_within, get_or_from_slice_get}
use Rattle.std.proofs.lemmas.List.{length-map}
use Rattle.cyc_types.specs.Limits.{cyclics as most_cyclics}
use Rattle.cyc_types.specs.Firing.{FiringView}
use Rattle.cyc_cpu.specs.Cpu.{CpuView, IsCyclic}
use Rattle.cyc_cpu.specs.Laws.{IsLawful}
use Rattle.cyc_cpu.specs.Removal.{HasCyclic}
use Rattle.cyc_cpu.specs.Rows.{Cyclic}
use Rattle.cyc_agreement.specs.Cpus.{CpusView, IsCpu}
use Rattle.cyc_agreement.specs.System.{ids_on, has}
use Rattle.cyc_agreement.proofs.Lists.{any_at, true_eq}
use Rattle.cyc_agreement.proofs.Spots.{get_some, same_some}
use Rattle.cyc_agreement.proofs.Who.{id_in, ids_there}

module _ {R : Type 0} (v : CpusView R) (n : ℕ) (cpu : CpuView R) (at : IsCpu n cpu v) where
  pub length_is : length (ids_on n v) ≡ length cpu.cyclics
  length_is = ap length (ids_there v n cpu cpu at) ∙ length-map cpu.cyclics id_in

  pub few_ids : (view : R → FiringView) → IsLawful view cpu → length (ids_on n v) ≤ most_cyclics
  few_ids view law = let l = length_is in let a = law.few in let b = law.size in omega (arith, l, a, b)

  -- a cyclic by its position
  pub cyclic_at : (k : ℕ) → k < length cpu.cyclics → (c : Cyclic) × IsCyclic cpu.cyclics k c
      × (slice_get (ids_on n v) k ≡ Some c.timer.id)
  cyclic_at k low = let (c, is) = get_some cpu.cyclics k low in (
    c,
    (low, get_or_from_slice_get cpu.cyclics k c c is),
    ap (λ l. slice_get l k) (ids_there v n cpu cpu at)
        ∙ slice_get-map id_in cpu.cyclics k ∙ ap (option_map id_in) is,
  )

  pub id_there : (k id : ℕ) → k < length (ids_on n v) → ((c : Cyclic) → IsCyclic cpu.cyclics k c → id ≡ c.timer.id)
      → slice_get (ids_on n v) k ≡ Some id
  id_there k id low same = let l = length_is in let (c, is, at) = cyclic_at k (omega (arith, low, l)) in at
      ∙ ap Some (sym (same c is))

pub has_at : {R : Type 0} (v : CpusView R) (n k id : ℕ) → slice_get (ids_on n v) k ≡ Some id → has n id v ≡ true
has_at v n k id at = any_at (λ own. own == id) (ids_on n v) k 0 (slice_get_within (ids_on n v) k id at)
    (true_eq _ id (get_or_from_slice_get (ids_on n v) k id 0 at))

-- the cyclic of the id at a position
pub cyclic_of : {R : Type 0} (v : CpusView R) (n k id : ℕ) (cpu : CpuView R) → IsCpu n cpu v → slice_get (ids_on n v) k ≡ Some id
    → HasCyclic id cpu.cyclics
cyclic_of v n k id cpu at spot =
    let l = length_is v n cpu at in let low = slice_get_within (ids_on n v) k id spot in
    let (c, is, same) = cyclic_at v n cpu at k (omega (arith, l, low)) in (k, c, is, same_some (sym same ∙ spot))
