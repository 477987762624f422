use Rattle.std.proofs.Common.{refl}
use Rattle.cyc_types.specs.declared.firing.Sent.{Sent}
use Rattle.cyc_system_laws.proofs.Counts.{counts_same}
use Rattle.cyc_system_laws.proofs.keeping.counts_law.Goals as goal

pub returns : goal.returns
returns g c id s t call a b d open_still = (
  counts_same g.R.Raise (λ (e : Sent). e.sent) refl (λ x y. refl) id s t call a b d open_still,
  counts_same g.R.Raise (λ (e : Sent). e.lost) refl (λ x y. refl) id s t call a b d open_still,
)
