-- A ledger of the blank's own.
use Rattle.class_keeping.proofs.tests_grown.with.Given as goal

abbrev pub ghosts-with_by : goal.ghosts-with_by
ghosts-with_by a = record { name = a.blank.name; parts = a.blank.parts }
