-- The ledger of the call is that of the blank that it is given.
use Rattle.session_tests.proofs.tx_graph_tests.sequences_have_their_answers.Given as goal

abbrev pub ghosts-sequences : goal.ghosts-sequences
ghosts-sequences g a = record { name = a.blank.name; parts = a.blank.parts }
