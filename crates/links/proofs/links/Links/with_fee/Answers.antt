use Rattle.std.proofs.Common.{ℕ, List, subst}
use Rattle.std.specs.Prelude.{IfOk}
use Rattle.links.specs.Links.{AreSame}
use Rattle.links.proofs.Composing.{as_read}
use Rattle.links.proofs.links.Links.with_fee.Goals as goal

pub with_fee-requires-clause-whole : goal.with_fee-requires-clause-whole
with_fee-requires-clause-whole c = as_read c.args.self.now c.txs.result.now c.pairs.result.now c.txs.ensures.txs c.pairs.ensures c.txs.ensures.whole

pub returns-clause-pairs : goal.returns-clause-pairs
returns-clause-pairs c = subst (λ (ps : List (ℕ × ℕ)). IfOk c.with_fee.result (λ links. AreSame ps links.pairs)) c.pairs.ensures c.with_fee.ensures.pairs
