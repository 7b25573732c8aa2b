use Rattle.std.proofs.Common.{arith}
use Rattle.wire.proofs.NumberLemmas.{small_amount_unread}
use Rattle.wire.proofs.field.U128Field.read.Goals as goal

pub returns-in-Some-eq0 : goal.returns-in-Some-eq0
returns-in-Some-eq0 c = let h = c.in-Some-eq0.ensures in small_amount_unread c.args.text.now c.in-Some-eq0.field-0 (omega arith) h.1
