use Rattle.cyc_ring.proofs.ends.RaiseEndRaise.expand.Given as goal

abbrev pub ghosts-switch_as : goal.ghosts-switch_as
ghosts-switch_as a = record { id = 0; setting = a.self.now.setting }
