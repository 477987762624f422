use Rattle.cyc_types.specs.declared.level.Level.TheVariants.{Low, Lock, High}
use Rattle.cyc_types.specs.declared.level.Soft.TheVariants as soft
use Rattle.cyc_system_rings.proofs.AtRings.{at_level, high_keeps, not_called, none_given}
use Rattle.cyc_system_rings.proofs.leveling.conserved_by_level_law.Goals as goal

pub returns-clause-raised : goal.returns-clause-raised
returns-clause-raised g c id soft.Low s t way l =
    (at_level g.C.Calls id s t way l Low).0
returns-clause-raised g c id soft.Lock s t way l =
    (at_level g.C.Calls id s t way l Lock).0

pub returns-clause-lost : goal.returns-clause-lost
returns-clause-lost g c id soft.Low s t way l =
    (at_level g.C.Calls id s t way l Low).1
returns-clause-lost g c id soft.Lock s t way l =
    (at_level g.C.Calls id s t way l Lock).1

pub returns-clause-called : goal.returns-clause-called
returns-clause-called g c id s t way l =
    (at_level g.C.Calls id s t way l High).0

pub returns-clause-kept : goal.returns-clause-kept
returns-clause-kept g c id s t way l =
    high_keeps g.C.Calls id s t way l

pub returns-clause-ungiven : goal.returns-clause-ungiven
returns-clause-ungiven g c id s t way l is = none_given g.C.Calls id s t way l is

pub returns-clause-uncalled : goal.returns-clause-uncalled
returns-clause-uncalled g c id s t way l other =
    not_called g.C.Calls id s t way l other
