-- The ledger of the call is that of the blank that it is given.
use Rattle.session_tests.proofs.sorted_tests.an_oversized_level_has_no_order.Given as goal

abbrev pub ghosts-refusals : goal.ghosts-refusals
ghosts-refusals g a = record { name = a.blank.name; parts = a.blank.parts }
