-- A ledger of the blank's own.
use Rattle.manifold_links.proofs.collapse_tests.cross_polytope.Given as goal

abbrev pub ghosts-cross_by : goal.ghosts-cross_by
ghosts-cross_by a = record { name = a.blank.name; parts = a.blank.parts }
