-- The ledger of the call is that of the blank that it is given.
use Rattle.session_tests.proofs.dump_tests.a_dumped_graph_loads.Given as goal

abbrev pub ghosts-graphs : goal.ghosts-graphs
ghosts-graphs g a = record { name = a.blank.name; parts = a.blank.parts }
