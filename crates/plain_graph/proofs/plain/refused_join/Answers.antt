use Rattle.std.proofs.Common.{refl}
use Rattle.graph_model.specs.Refusals.{JoinsTo}
use Rattle.graphs.proofs.WalkLemmas.{AreConnected-itself}
use Rattle.plain_graph.proofs.Starts.{distinct_two, lists_from_two}
use Rattle.plain_graph.proofs.JoinLemmas.{join_too_many, join_too_large, join_fits, join_deferred}
use Rattle.plain_graph.proofs.plain.refused_join.Goals as goal

pub reach-requires-clause-distinct : goal.reach-requires-clause-distinct
reach-requires-clause-distinct c =
    distinct_two c.args.parent c.args.child (λ same. c.requires.apart (AreConnected-itself c.args.pairs.now c.args.parent c.args.child same))

pub returns-then-limits-clause-first : goal.returns-then-limits-clause-first
returns-then-limits-clause-first c =
    join_deferred c.args.limits.now c.args.txs.now c.args.pairs.now c.args.parent c.args.child c.if-limits.true

pub returns-then-count-limits-clause-first : goal.returns-then-count-limits-clause-first
returns-then-count-limits-clause-first c =
    let lists : JoinsTo c.args.pairs.now c.args.parent c.args.child c.ids.result.now =
    rw c.ids.ensures (c.requires.apart, lists_from_two c.args.pairs.now c.args.parent c.args.child c.reach.new.found.ids c.reach.ensures.lists) in
    join_too_many c.args.limits.now c.args.txs.now c.args.pairs.now c.args.parent c.args.child c.ids.result.now _ c.if-limits.false lists refl c.if-count-limits.true

pub returns-then-size-limits-clause-first : goal.returns-then-size-limits-clause-first
returns-then-size-limits-clause-first c =
    let lists : JoinsTo c.args.pairs.now c.args.parent c.args.child c.reach.new.found.ids =
    (c.requires.apart, lists_from_two c.args.pairs.now c.args.parent c.args.child c.reach.new.found.ids c.reach.ensures.lists) in
    join_too_large c.args.limits.now c.args.txs.now c.args.pairs.now c.args.parent c.args.child c.reach.new.found.ids _ c.if-limits.false lists
    (rw (← c.ids.ensures) c.if-count-limits.false)
    (rw (← c.ids-2.ensures) c.total_size-size.ensures) c.if-size-limits.true

pub returns-clause-first : goal.returns-clause-first
returns-clause-first c =
    let lists : JoinsTo c.args.pairs.now c.args.parent c.args.child c.reach.new.found.ids =
    (c.requires.apart, lists_from_two c.args.pairs.now c.args.parent c.args.child c.reach.new.found.ids c.reach.ensures.lists) in
    join_fits c.args.limits.now c.args.txs.now c.args.pairs.now c.args.parent c.args.child c.reach.new.found.ids lists
    (rw (← c.ids.ensures) c.if-count-limits.false)
    (rw (← c.ids-2.ensures) (rw (← c.total_size-size.ensures) c.if-size-limits.false))
