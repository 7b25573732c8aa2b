-- The ledger of the call is that of the blank that it is given.
use Rattle.session_tests.proofs.tx_graph_tests.clusters_fall_apart_from_the_middle.Given as goal

abbrev pub ghosts-removals : goal.ghosts-removals
ghosts-removals g a = record { name = a.blank.name; parts = a.blank.parts }
