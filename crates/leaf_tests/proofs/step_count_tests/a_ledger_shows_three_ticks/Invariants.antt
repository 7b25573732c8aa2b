-- The calls' ledgers are those of the blanks that they are given.
use Rattle.leaf_tests.proofs.step_count_tests.a_ledger_shows_three_ticks.Given as goal

abbrev pub ghosts-three : goal.ghosts-three
ghosts-three g a = record { name = a.blank.name; parts = a.blank.parts }

abbrev pub ghosts-uncounted : goal.ghosts-uncounted
ghosts-uncounted g a = record { name = a.blank.name; parts = a.blank.parts }
