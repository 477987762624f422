use Rattle.std.proofs.Common.{refl}
use Rattle.cyc_agreement.proofs.CpuSpots.{changed}
use Rattle.cyc_agreement.proofs.cpus.Cpus.bring.Goals as goal

pub returns : goal.returns
returns g c = (
  _,
  changed _ _ _ _ _ c.cpu_mut.ensures.cpu c.widen.ensures,
  (_, changed _ _ _ _ _ c.cpu_mut-2.ensures.cpu c.place.ensures, refl),
)
