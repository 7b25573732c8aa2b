-- The ledger of each call is that of the blank that it is given.
use Rattle.order_tests.proofs.linearize_tests.worked_graphs_fall_into_their_parts.Given as goal

abbrev pub ghosts-rows : goal.ghosts-rows
ghosts-rows g a = record { name = a.blank.name; parts = a.blank.parts }
