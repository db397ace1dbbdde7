use Rattle.dc_engine.proofs.top.play_by.Given as goal

abbrev pub ghosts-play_over : goal.ghosts-play_over
ghosts-play_over g a = record { sound = g.M.Disks.sound a.disks.now }
