-- A ledger of the blank's own.
use Rattle.manifold_links.proofs.tests.filled.Given as goal

abbrev pub ghosts-filled_by : goal.ghosts-filled_by
ghosts-filled_by a = record { name = a.blank.name; parts = a.blank.parts }
