-- The ledger is that of the blank that is handed over.
use Rattle.replay.proofs.commands.answer_line.Given as goal

abbrev pub ghosts-obey_unpaid : goal.ghosts-obey_unpaid
ghosts-obey_unpaid g a = record { name = a.blank.name; parts = a.blank.parts }
