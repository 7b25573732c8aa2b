use Rattle.wire.proofs.FormLemmas.{word_unread}
use Rattle.wire.proofs.line.read_word.Goals as goal

pub returns-in-None-clause-says : goal.returns-in-None-clause-says
returns-in-None-clause-says c ids = word_unread c.args.word.now c.requires c.in-None.ensures
