-- The ledger is that of the blank that is handed over.
use Rattle.desk.proofs.picking.take_back.Given as goal

abbrev pub ghosts-pay_back : goal.ghosts-pay_back
ghosts-pay_back a = record { name = a.blank.name; parts = a.blank.parts }
