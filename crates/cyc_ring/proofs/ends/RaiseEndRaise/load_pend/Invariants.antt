use Rattle.std.proofs.Common.{get_or}
use Rattle.cyc_ring.proofs.ends.RaiseEndRaise.load_pend.Given as goal

abbrev pub ghosts-load_as : goal.ghosts-load_as
ghosts-load_as a = record { id = get_or a.raise_seat.now.stays.value.ids a.index 0; setting = a.self.now.setting }
