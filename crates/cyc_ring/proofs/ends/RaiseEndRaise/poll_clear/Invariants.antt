use Rattle.std.proofs.Common.{get_or}
use Rattle.cyc_ring.proofs.ends.RaiseEndRaise.poll_clear.Given as goal

abbrev pub ghosts-load_as : goal.ghosts-load_as
ghosts-load_as a = record { id = get_or a.raise_seat.now.stays.value.ids a.index 0; setting = a.self.now.setting }

abbrev pub ghosts-clear_as : goal.ghosts-clear_as
ghosts-clear_as a = record { id = a.id; setting = a.self.now.setting }
