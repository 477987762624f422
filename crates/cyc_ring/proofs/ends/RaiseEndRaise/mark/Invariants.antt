use Rattle.std.proofs.Common.{get_or}
use Rattle.cyc_ring.proofs.ends.RaiseEndRaise.mark.Given as goal

abbrev pub ghosts-mark_as : goal.ghosts-mark_as
ghosts-mark_as a = record { id = get_or a.raise_seat.now.stays.value.ids a.index 0; setting = a.self.now.setting }
