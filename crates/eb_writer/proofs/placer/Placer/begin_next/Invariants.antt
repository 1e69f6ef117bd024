use Rattle.eb_writer.proofs.placer.Placer.begin_next.Given as goal

abbrev pub ghosts-make_plan : goal.ghosts-make_plan
ghosts-make_plan g a = record { name = a.blank.name; parts = a.blank.parts }
