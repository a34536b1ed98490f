-- A ledger of the blank's own.
use Rattle.wu_classes.proofs.tests.grown.Given as goal

abbrev pub ghosts-model_by : goal.ghosts-model_by
ghosts-model_by a = record { name = a.blank.name; parts = a.blank.parts }
