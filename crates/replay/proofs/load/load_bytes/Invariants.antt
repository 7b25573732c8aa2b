-- The ledger is that of the blank that is handed over.
use Rattle.replay.proofs.load.load_bytes.Given as goal

abbrev pub ghosts-load_unpaid : goal.ghosts-load_unpaid
ghosts-load_unpaid g a = record { name = a.blank.name; parts = a.blank.parts }
