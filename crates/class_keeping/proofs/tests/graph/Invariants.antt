-- A ledger of the blank's own.
use Rattle.class_keeping.proofs.tests.graph.Given as goal

abbrev pub ghosts-graph_by : goal.ghosts-graph_by
ghosts-graph_by a = record { name = a.blank.name; parts = a.blank.parts }
