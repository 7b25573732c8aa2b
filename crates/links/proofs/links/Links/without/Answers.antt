use Rattle.std.proofs.Common.{◌≡◌, ℕ, List, not, subst}
use Rattle.std.specs.Prelude.{IfOk}
use Rattle.std.specs.List.{filter}
use Rattle.std.proofs.lemmas.Result.{IfOk-weaker}
use Rattle.graphs.specs.Certificates.{Txs}
use Rattle.links.specs.Leaving.{ArePairsLeft, goes}
use Rattle.links.proofs.Composing.{as_read}
use Rattle.links.proofs.Bridging.{keep_ancestors}
use Rattle.links.proofs.links.Links.without.Goals as goal

pub without-requires : goal.without-requires
without-requires c = as_read c.args.self.now c.txs.result.now c.pairs.result.now c.txs.ensures.txs c.pairs.ensures c.txs.ensures.whole

pub returns-clause-txs : goal.returns-clause-txs
returns-clause-txs c =
    subst (λ (ts : Txs). IfOk c.without.result (λ links. links.txs ≡ filter (λ tx. not (goes c.args.names.now tx.0)) ts)) c.txs.ensures.txs
    c.without.ensures.txs

pub returns-clause-pairs : goal.returns-clause-pairs
returns-clause-pairs c = subst (λ (ps : List (ℕ × ℕ)). IfOk c.without.result (λ links. ArePairsLeft ps c.args.names.now links.pairs)) c.pairs.ensures c.without.ensures.pairs

pub returns-clause-ancestors : goal.returns-clause-ancestors
returns-clause-ancestors c =
    IfOk-weaker c.without.result _ _ (λ links is. keep_ancestors c.args.self.now.pairs c.args.names.now links.pairs is) (subst (λ (ps : List (ℕ × ℕ)). IfOk c.without.result (λ links. ArePairsLeft ps c.args.names.now links.pairs)) c.pairs.ensures c.without.ensures.pairs)
