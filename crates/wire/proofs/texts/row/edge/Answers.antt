use Rattle.wire.proofs.RowLemmas.{edge_no_row}
use Rattle.wire.proofs.texts.row.edge.Goals as goal

pub returns-in-None : goal.returns-in-None
returns-in-None c = edge_no_row c.args.rest.now c.in-None.ensures
