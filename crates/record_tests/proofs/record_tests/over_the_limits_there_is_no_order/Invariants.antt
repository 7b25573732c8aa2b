-- The ledger of the call is that of the blank that it is given.
use Rattle.record_tests.proofs.record_tests.over_the_limits_there_is_no_order.Given as goal

abbrev pub ghosts-without_count : goal.ghosts-without_count
ghosts-without_count g a = record { name = a.blank.name; parts = a.blank.parts }
