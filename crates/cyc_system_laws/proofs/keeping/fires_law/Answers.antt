use Rattle.cyc_cpu.specs.Calls.{no_interrupts}
use Rattle.cyc_system_laws.proofs.Lasting.{fires_keep}
use Rattle.cyc_system_laws.proofs.keeping.fires_law.Goals as goal

pub returns : goal.returns
returns g c id n now answer s t a b d =
    fires_keep g.C.Calls g.R.Raise no_interrupts id n now answer
    s t a b d
