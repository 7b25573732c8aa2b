use Rattle.wire.proofs.RowLemmas.{kind_no_row}
use Rattle.wire.proofs.texts.row.read_words.Goals as goal

pub returns-in-None : goal.returns-in-None
returns-in-None c = kind_no_row c.args.word.now c.args.rest.now c.requires c.in-None.ensures
