use Rattle.cyc_ring.proofs.ends.RaiseEnd.raise_at.Given as goal

abbrev pub ghosts-raise_as : goal.ghosts-raise_as
ghosts-raise_as a = record { id = a.id; setting = a.self.now.setting }
