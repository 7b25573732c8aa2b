-- The ledger of the call is that of the blank that it is given.
use Rattle.cross_tests.proofs.orders.orders_are_certified.Given as goal

abbrev pub ghosts-all : goal.ghosts-all
ghosts-all g a = record { name = a.blank.name; parts = a.blank.parts }
