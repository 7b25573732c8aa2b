-- The ledger is that of the blank that is handed over.
use Rattle.txgraph_c.proofs.changes.txgraph_trim.Given as goal

abbrev pub ghosts-trim_top : goal.ghosts-trim_top
ghosts-trim_top a = record { name = a.blank.name; parts = a.blank.parts }
