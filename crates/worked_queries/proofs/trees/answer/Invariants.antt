use Rattle.worked_queries.proofs.trees.answer.Given as goal

abbrev pub ghosts-placed : goal.ghosts-placed
ghosts-placed g a = record { name = a.blank.name; parts = a.blank.parts }

abbrev pub ghosts-listed : goal.ghosts-listed
ghosts-listed g a = record { name = a.blank.name; parts = a.blank.parts }
