-- The ledger of the call is that of the blank that it is given.
use Rattle.session_tests.proofs.dump_tests.a_text_loads_or_is_refused.Given as goal

abbrev pub ghosts-texts : goal.ghosts-texts
ghosts-texts g a = record { name = a.blank.name; parts = a.blank.parts }
