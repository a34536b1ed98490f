-- A ledger of the blank's own.
use Rattle.class_solver.proofs.uncounted.add.Given as goal

abbrev pub ghosts-add_by : goal.ghosts-add_by
ghosts-add_by a = record { name = a.blank.name; parts = a.blank.parts }
