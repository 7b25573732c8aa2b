-- The ledger of the call is that of the blank that it is given.
use Rattle.order_tests.proofs.drawn_tests.changed_clusters_are_as_from_nothing.Given as goal

abbrev pub ghosts-all : goal.ghosts-all
ghosts-all g a = record { name = a.blank.name; parts = a.blank.parts }
