use Rattle.std.proofs.Common.{ap, ◌∙◌, map, arith}
use Rattle.std.proofs.lemmas.List.{take_all}
use Rattle.record.proofs.record.names_of.Goals as goal

pub push_reserved-requires : goal.push_reserved-requires
push_reserved-requires c = omega arith

pub returns : goal.returns
returns c = c.loop-tx.invariant.names ∙ ap (map (λ tx. tx.0)) (take_all c.loop-tx.tx-index c.args.txs.now (omega arith))
