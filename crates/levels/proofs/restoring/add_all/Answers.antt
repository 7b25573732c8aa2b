use Rattle.std.proofs.Common.{ℕ, List, sym, subst, arith, take, inl, inr}
use Rattle.std.proofs.lemmas.List.{take_all}
use Rattle.graphs.specs.Certificates.{Txs}
use Rattle.graph_model.specs.Changes.{ids_of}
use Rattle.levels.specs.Gathered.{GainsAll}
use Rattle.levels.proofs.Listing.{gains_more, ids_long, ids_more, name_listed, not_before}
use Rattle.levels.proofs.restoring.add_all.Goals as goal

pub add-requires-clause-absent : goal.add-requires-clause-absent
add-requires-clause-absent c named =
    elim ((c.loop-tx.invariant.gains.names _).0 named) [
      | inl first ↦ c.requires.absent _ (name_listed c.args.txs.now c.loop-tx.tx-index _ c.loop-tx-test.true) first
      | inr listed ↦ not_before c.args.txs.now c.loop-tx.tx-index _ c.loop-tx-test.true c.requires.once listed
    ]

pub add-requires-clause-spare : goal.add-requires-clause-spare
add-requires-clause-spare c = omega (arith, c.loop-tx.invariant.spare, c.requires.spare, c.loop-tx-test.true)

pub add-requires-clause-issued : goal.add-requires-clause-issued
add-requires-clause-issued c =
    let long = ids_long c.args.txs.now c.loop-tx.tx-index (omega (arith, c.loop-tx-test.true)) in
    omega (arith, long, c.loop-tx.invariant.gains.issued, c.requires.issued, c.loop-tx-test.true)

pub loop-tx-preserved : goal.loop-tx-preserved
loop-tx-preserved c = record {
  gains =
      subst (λ (xs : List ℕ). GainsAll xs c.args.rings.now c.add.new.self) (sym (ids_more c.args.txs.now c.loop-tx.tx-index _ c.loop-tx-test.true))
      (gains_more (ids_of (take c.loop-tx.tx-index c.args.txs.now)) _ c.args.rings.now c.loop-tx.rings c.add.new.self c.loop-tx.invariant.gains
      c.add.ensures);
  spare = omega (arith, c.loop-tx.invariant.spare, c.add.ensures.spare);
}

pub returns : goal.returns
returns c =
    subst (λ (txs : Txs). GainsAll (ids_of txs) c.args.rings.now c.loop-tx.rings) (take_all c.loop-tx.tx-index c.args.txs.now (omega arith))
    c.loop-tx.invariant.gains
