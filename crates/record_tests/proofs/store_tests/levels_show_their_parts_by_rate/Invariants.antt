-- The ledger of the call is that of the blank that it is given.
use Rattle.record_tests.proofs.store_tests.levels_show_their_parts_by_rate.Given as goal

abbrev pub ghosts-all_rows : goal.ghosts-all_rows
ghosts-all_rows g a = record { name = a.blank.name; parts = a.blank.parts }
