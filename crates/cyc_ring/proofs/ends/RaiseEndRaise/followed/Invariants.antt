use Rattle.cyc_ring.proofs.ends.RaiseEndRaise.followed.Given as goal

abbrev pub ghosts-look_as : goal.ghosts-look_as
ghosts-look_as a = record { id = 0; setting = a.self.now.setting }
