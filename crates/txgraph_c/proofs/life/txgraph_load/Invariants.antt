-- The ledger is that of the blank that is handed over.
use Rattle.txgraph_c.proofs.life.txgraph_load.Given as goal

abbrev pub ghosts-load_desk : goal.ghosts-load_desk
ghosts-load_desk a = record { name = a.blank.name; parts = a.blank.parts }
