use Rattle.cyc_ring.proofs.ends.DrainEndDrain.take.Given as goal

abbrev pub ghosts-take_as : goal.ghosts-take_as
ghosts-take_as a = record { id = 0; setting = a.self.now.setting }
