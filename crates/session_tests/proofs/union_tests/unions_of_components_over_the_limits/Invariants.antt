-- The ledger of the call is that of the blank that it is given.
use Rattle.session_tests.proofs.union_tests.unions_of_components_over_the_limits.Given as goal

abbrev pub ghosts-unions : goal.ghosts-unions
ghosts-unions g a = record { name = a.blank.name; parts = a.blank.parts }
