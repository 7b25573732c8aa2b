-- The ledger of the call is that of the blank that it is given.
use Rattle.size_tests.proofs.list_tests.a_block_has_as_many_names_as_a_line_may_list.Given as goal

abbrev pub ghosts-lists : goal.ghosts-lists
ghosts-lists g a = record { name = a.blank.name; parts = a.blank.parts }
