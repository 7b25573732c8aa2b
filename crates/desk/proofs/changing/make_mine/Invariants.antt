-- The ledger is that of the blank that is handed over.
use Rattle.desk.proofs.changing.make_mine.Given as goal

abbrev pub ghosts-pay_mine : goal.ghosts-pay_mine
ghosts-pay_mine a = record { name = a.blank.name; parts = a.blank.parts }
