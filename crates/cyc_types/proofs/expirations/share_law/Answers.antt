use Rattle.cyc_types.proofs.Laws.{times_expirations, times_others}
use Rattle.cyc_types.proofs.expirations.share_law.Goals as goal

pub returns-clause-share : goal.returns-clause-share
returns-clause-share c now ts distinct i d low = times_expirations now ts i d distinct low

pub returns-clause-others : goal.returns-clause-others
returns-clause-others c = times_others
