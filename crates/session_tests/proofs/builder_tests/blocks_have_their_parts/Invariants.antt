-- The ledger of the call is that of the blank that it is given.
use Rattle.session_tests.proofs.builder_tests.blocks_have_their_parts.Given as goal

abbrev pub ghosts-tables : goal.ghosts-tables
ghosts-tables g a = record { name = a.blank.name; parts = a.blank.parts }
