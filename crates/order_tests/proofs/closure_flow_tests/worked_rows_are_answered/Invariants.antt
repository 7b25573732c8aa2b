-- The ledger of the call is that of the blank that it is given.
use Rattle.order_tests.proofs.closure_flow_tests.worked_rows_are_answered.Given as goal

abbrev pub ghosts-first_rows : goal.ghosts-first_rows
ghosts-first_rows g a = record { name = a.blank.name; parts = a.blank.parts }

abbrev pub ghosts-edge_rows : goal.ghosts-edge_rows
ghosts-edge_rows g a = record { name = a.blank.name; parts = a.blank.parts }

abbrev pub ghosts-stars : goal.ghosts-stars
ghosts-stars g a = record { name = a.blank.name; parts = a.blank.parts }

abbrev pub ghosts-cut_rows : goal.ghosts-cut_rows
ghosts-cut_rows g a = record { name = a.blank.name; parts = a.blank.parts }
