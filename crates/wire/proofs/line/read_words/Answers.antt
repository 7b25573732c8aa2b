use Rattle.wire.proofs.FormLemmas.{form_unread}
use Rattle.wire.proofs.line.read_words.Goals as goal

pub returns-in-None-clause-says : goal.returns-in-None-clause-says
returns-in-None-clause-says c = form_unread c.args.word.now c.args.rest.now c.requires.one c.in-None.ensures
