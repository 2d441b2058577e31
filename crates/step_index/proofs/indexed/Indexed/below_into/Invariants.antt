use Rattle.step_index.proofs.indexed.Indexed.below_into.Given as goal

abbrev pub ghosts-fill_below : goal.ghosts-fill_below
ghosts-fill_below g a = record { name = a.blank.name; parts = a.blank.parts }
