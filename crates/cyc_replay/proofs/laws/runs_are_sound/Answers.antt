use Rattle.cyc_replay.proofs.Running.{has_run}
use Rattle.cyc_replay.proofs.laws.runs_are_sound.Goals as goal

pub returns : goal.returns
returns c = λ script m r. has_run script m r
