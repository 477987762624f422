use Rattle.std.proofs.Common.{rules}
use Rattle.ring_steps.proofs.words.Words.split.Goals as goal

pub split_seat-other-requires : goal.split_seat-other-requires
split_seat-other-requires c = (search rules, search rules, c.split_is_allowed.ensures _ _ _ c.args.both.role)
