use Rattle.std.proofs.Common.{◌∙◌, true≢false, sym, refl}
use Rattle.graph_model.specs.Limits.{AreOver, bounds_of}
use Rattle.plain_graph.specs.Plain.{sizes_in}
use Rattle.plain_graph.specs.Overs.{graph_of}
use Rattle.plain_graph.specs.declared.walk.Way.TheVariants.{Either}
use Rattle.plain_graph.proofs.Entries.{so, not_so}
use Rattle.plain_graph.proofs.Starts.{distinct_one, holds_one, lists_from_one}
use Rattle.plain_graph.proofs.OverLemmas.{named_at, over_found, in_none_more, in_none_all}
use Rattle.plain_graph.proofs.over.is_over.Goals as goal

pub reach-requires-clause-room : goal.reach-requires-clause-room
reach-requires-clause-room c =
    rw c.loop-tx.invariant.1
    (holds_one c.args.limits.now c.args.txs.now c.args.pairs.now _ _ c.requires (named_at c.args.txs.now c.loop-tx.tx-index _ c.loop-tx-test.true))

pub reach-requires-clause-distinct : goal.reach-requires-clause-distinct
reach-requires-clause-distinct c = distinct_one _

pub returns-then-are_over : goal.returns-then-are_over
returns-then-are_over c =
    let lists = lists_from_one Either c.args.pairs.now _ c.reach.new.found.ids c.reach.ensures.lists in
    let over : AreOver (bounds_of c.args.limits.now) (sizes_in c.args.txs.now) c.reach.new.found.ids =
    rw (← c.ids.ensures) (so c.are_over.result c.are_over.ensures c.if-are_over.true) in
    let found = over_found (bounds_of c.args.limits.now) (sizes_in c.args.txs.now) (graph_of c.args.txs.now c.args.pairs.now) _ c.reach.new.found.ids
    c.requires.ends (named_at c.args.txs.now c.loop-tx.tx-index _ c.loop-tx-test.true) lists over in
    record { sound = rw (c.reach.ensures.room, c.loop-tx.invariant.1) c.requires; noted = (λ is. (c.if-not-limits.false, found), λ is. refl) }

pub loop-tx-preserved : goal.loop-tx-preserved
loop-tx-preserved c =
    let lists = lists_from_one Either c.args.pairs.now _ c.reach.new.found.ids c.reach.ensures.lists in
    let within : AreOver (bounds_of c.args.limits.now) (sizes_in c.args.txs.now) c.reach.new.found.ids → ⊥ =
    rw (← c.ids.ensures) (not_so c.are_over.result c.are_over.ensures c.if-are_over.false) in (
      in_none_more c.args.limits.now c.args.txs.now c.args.pairs.now c.loop-tx.tx-index _ c.reach.new.found.ids c.loop-tx-test.true lists within
          c.loop-tx.invariant.0,
      c.reach.ensures.room ∙ c.loop-tx.invariant.1,
    )

pub returns : goal.returns
returns c = record {
  sound = rw c.loop-tx.invariant.1 c.requires;
  noted = (
    λ none. absurd (true≢false (sym none)),
    λ over. absurd (in_none_all c.args.limits.now c.args.txs.now c.args.pairs.now c.loop-tx.tx-index c.loop-tx-test.false c.loop-tx.invariant.0 over),
  );
}
