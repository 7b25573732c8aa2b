use Rattle.std.proofs.Common.{sym}
use Rattle.wire.proofs.ReadLemmas.{without_return_last, without_return_other}
use Rattle.wire.proofs.line.trimmed.Goals as goal

pub returns-in-Some-clause-text : goal.returns-in-Some-clause-text
returns-in-Some-clause-text c = rw c.in-Some.ensures (sym (without_return_last c.in-Some.front.now))

pub returns-in-None-clause-text : goal.returns-in-None-clause-text
returns-in-None-clause-text c = sym (without_return_other c.args.bytes.now c.in-None.ensures)
