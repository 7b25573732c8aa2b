-- The ledger of the call is that of the blank that it is given.
use Rattle.record_tests.proofs.levels_tests.main_stays_while_staging_changes.Given as goal

abbrev pub ghosts-stagings : goal.ghosts-stagings
ghosts-stagings g a = record { name = a.blank.name; parts = a.blank.parts }
