-- The ledger is that of the blank that is handed over.
use Rattle.node_example.proofs.main.Given as goal

abbrev pub ghosts-live_through : goal.ghosts-live_through
ghosts-live_through a = record { name = a.blank.name; parts = a.blank.parts }
