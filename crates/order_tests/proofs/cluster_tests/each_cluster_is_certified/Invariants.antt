-- The ledger of the call is that of the blank that it is given.
use Rattle.order_tests.proofs.cluster_tests.each_cluster_is_certified.Given as goal

abbrev pub ghosts-rows : goal.ghosts-rows
ghosts-rows g a = record { name = a.blank.name; parts = a.blank.parts }
