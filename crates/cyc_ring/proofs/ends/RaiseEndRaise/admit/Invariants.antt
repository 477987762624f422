use Rattle.cyc_ring.proofs.ends.RaiseEndRaise.admit.Given as goal

abbrev pub ghosts-admit_as : goal.ghosts-admit_as
ghosts-admit_as a = record { id = a.id; setting = a.self.now.setting }
