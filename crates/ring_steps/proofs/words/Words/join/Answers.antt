use Rattle.std.proofs.Common.{rules}
use Rattle.ring_steps.proofs.words.Words.join.Goals as goal

pub join_seat-requires : goal.join_seat-requires
join_seat-requires c = (
  search rules,
  search rules,
  search rules,
  search rules,
  c.join_is_allowed.ensures c.args.self.now.table.shared.key _ _ _ _ c.args.firing.role c.args.soft.role,
)
