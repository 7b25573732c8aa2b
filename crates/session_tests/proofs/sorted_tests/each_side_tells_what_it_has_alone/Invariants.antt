-- The ledger of the call is that of the blank that it is given.
use Rattle.session_tests.proofs.sorted_tests.each_side_tells_what_it_has_alone.Given as goal

abbrev pub ghosts-sides : goal.ghosts-sides
ghosts-sides g a = record { name = a.blank.name; parts = a.blank.parts }
