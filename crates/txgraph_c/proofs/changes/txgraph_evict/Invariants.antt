-- The ledger is that of the blank that is handed over.
use Rattle.txgraph_c.proofs.changes.txgraph_evict.Given as goal

abbrev pub ghosts-evict_last : goal.ghosts-evict_last
ghosts-evict_last a = record { name = a.blank.name; parts = a.blank.parts }
