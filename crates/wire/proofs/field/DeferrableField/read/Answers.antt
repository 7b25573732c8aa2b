use Rattle.wire.proofs.DeferLemmas.{alone_unread}
use Rattle.wire.proofs.field.DeferrableField.read.Goals as goal

pub returns-in_err-number-in-None : goal.returns-in_err-number-in-None
returns-in_err-number-in-None c = rw c.from_residual.ensures (alone_unread c.args.text.now c.in-None.ensures.none c.in_err-number-in-None.ensures)
