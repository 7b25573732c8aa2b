use Rattle.wire.proofs.RowLemmas.{tx_no_row}
use Rattle.wire.proofs.texts.row.tx.Goals as goal

pub returns-in-None : goal.returns-in-None
returns-in-None c = tx_no_row c.args.rest.now c.in-None.ensures
