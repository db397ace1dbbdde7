use Rattle.seat_rule.proofs.looks.look.Given as goal

abbrev pub ghosts-look_at : goal.ghosts-look_at
ghosts-look_at g a = record { size = a.traces.now.key }
