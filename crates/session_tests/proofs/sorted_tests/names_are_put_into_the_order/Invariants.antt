-- The ledger of the call is that of the blank that it is given.
use Rattle.session_tests.proofs.sorted_tests.names_are_put_into_the_order.Given as goal

abbrev pub ghosts-orders : goal.ghosts-orders
ghosts-orders g a = record { name = a.blank.name; parts = a.blank.parts }
