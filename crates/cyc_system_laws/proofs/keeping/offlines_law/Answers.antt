use Rattle.cyc_system_laws.proofs.Components.{offline_keeps}
use Rattle.cyc_system_laws.proofs.keeping.offlines_law.Goals as goal

pub returns : goal.returns
returns g c id n m answer s t everywhere apart d =
    offline_keeps g.R.Raise m id n answer s t everywhere apart d
