use Rattle.cyc_ring.proofs.ends.DrainEndDrain.finish.Given as goal

abbrev pub ghosts-finish_as : goal.ghosts-finish_as
ghosts-finish_as a = record { id = 0; setting = a.self.now.setting }
