-- The ledger of the call is that of the blank that it is given.
use Rattle.record_tests.proofs.store_tests.levels_lack_an_order_while_one_over_the_limits_stands_there.Given as goal

abbrev pub ghosts-all_rows : goal.ghosts-all_rows
ghosts-all_rows g a = record { name = a.blank.name; parts = a.blank.parts }
