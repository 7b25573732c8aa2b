use Rattle.std.proofs.Common.{ℕ, List, nat_eq, sym, subst, arith, take}
use Rattle.std.specs.HashSet as bag
use Rattle.std.proofs.lemmas.List.{take_all}
use Rattle.graphs.specs.Certificates.{Txs}
use Rattle.graph_model.specs.Changes.{ids_of}
use Rattle.levels.specs.Gathered.{HasNames}
use Rattle.levels.proofs.Listing.{ids_more, names_more}
use Rattle.levels.proofs.restoring.names_of.Goals as goal

pub loop-tx-preserved : goal.loop-tx-preserved
loop-tx-preserved c =
    subst (λ (xs : List ℕ). HasNames (bag.contains nat_eq c.insert.new.self) xs) (sym (ids_more c.args.txs.now c.loop-tx.tx-index _ c.loop-tx-test.true))
    (names_more (bag.contains nat_eq c.loop-tx.names) (bag.contains nat_eq c.insert.new.self) _ c.in_ok-insert.ensures.updates.0
    (ids_of (take c.loop-tx.tx-index c.args.txs.now)) c.loop-tx.invariant)

pub returns : goal.returns
returns c =
    subst (λ (txs : Txs). HasNames (bag.contains nat_eq c.loop-tx.names) (ids_of txs)) (take_all c.loop-tx.tx-index c.args.txs.now (omega arith))
    c.loop-tx.invariant
