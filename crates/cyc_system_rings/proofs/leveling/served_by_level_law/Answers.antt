use Rattle.cyc_system_rings.proofs.Closing.{level_closed}
use Rattle.cyc_system_rings.proofs.AtRings.{made_of, not_served, served_of}
use Rattle.cyc_system_rings.proofs.leveling.served_by_level_law.Goals as goal

pub returns-clause-closed : goal.returns-clause-closed
returns-clause-closed g c id soft t rings closed = level_closed soft id t.cpus.cpus rings closed

pub returns-clause-made : goal.returns-clause-made
returns-clause-made g c id soft s t way rings l new closed =
    made_of g.C.Calls id s t way l new rings closed soft

pub returns-clause-served : goal.returns-clause-served
returns-clause-served g c id soft s t way rings before after l new closed served =
    served_of g.C.Calls id s t way l new rings closed soft before after served

pub returns-clause-uncalled : goal.returns-clause-uncalled
returns-clause-uncalled g c id soft s t way rings before after l new closed served other =
    not_served g.C.Calls id s t way l new rings closed soft before after served other
