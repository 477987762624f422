use Rattle.std.proofs.Common.{subst}
use Rattle.cyc_types.specs.Firing.{Sound}
use Rattle.cyc_core.specs.Tables.{Tables, level_of}
use Rattle.cyc_core.specs.FiringSide.{firing_view}
use Rattle.cyc_core.specs.Shown.{shown_core}
use Rattle.cyc_core.proofs.Changes.{reached_lawful}
use Rattle.cyc_core.proofs.FiringLaws.{sound_level}
use Rattle.cyc_core.proofs.raise.LevelCoreRaise.followed.Goals as goal

pub returns-clause-sound : goal.returns-clause-sound
returns-clause-sound c =
    let l = level_of (shown_core c.self.inside) in
    subst (λ (t : Tables). Sound (firing_view (level_of t))) c.self.view_is
    (sound_level l (reached_lawful l c.self.invariant.reached) c.self.invariant.some_ceiling)
