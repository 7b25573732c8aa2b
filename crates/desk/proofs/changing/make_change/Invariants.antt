-- The ledger is that of the blank that is handed over.
use Rattle.desk.proofs.changing.make_change.Given as goal

abbrev pub ghosts-pay_change : goal.ghosts-pay_change
ghosts-pay_change a = record { name = a.blank.name; parts = a.blank.parts }
