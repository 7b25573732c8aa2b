use Rattle.wire.specs.Drafts.{written}
use Rattle.wire.proofs.TextLemmas.{text_takes, text_unread}
use Rattle.wire.proofs.texts.text.take_text.Goals as goal

pub returns-in-Ok : goal.returns-in-Ok
returns-in-Ok c = text_takes (written c.args.draft) c.args.text.now c.in-Ok.row c.with.result c.requires c.in-Ok.ensures c.with.ensures

pub returns-in-Err : goal.returns-in-Err
returns-in-Err c = rw c.given_up.ensures (text_unread (written c.args.draft) c.args.text.now c.in-Err.fault c.requires c.in-Err.ensures)
