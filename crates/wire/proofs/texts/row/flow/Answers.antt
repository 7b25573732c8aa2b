use Rattle.wire.proofs.RowLemmas.{flow_no_row}
use Rattle.wire.proofs.texts.row.flow.Goals as goal

pub returns-in-None : goal.returns-in-None
returns-in-None c = flow_no_row c.args.rest.now c.in-None.ensures
