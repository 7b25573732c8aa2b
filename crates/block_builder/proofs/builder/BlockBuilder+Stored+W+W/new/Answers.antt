-- Nothing is gone past at the start.
use Rattle.std.proofs.Common.{List, map, sym, ap, ◌∙◌, subst}
use Rattle.cluster_store.specs.Stores.{Shown}
use Rattle.tx_graph.specs.Dropped.{AreOfClusters}
use Rattle.block_builder.proofs.Calls.{building_of}
use Rattle.block_builder.proofs.Passing.{part_of, starts_past}
use Rattle.block_builder.proofs.builder.BlockBuilder+Stored+W+W.new.Goals as goal

pub returns-clause-past : goal.returns-clause-past
returns-clause-past g c =
    starts_past (building_of c.args.graph.now c.new.result c.new-2.result.items) (ap (map part_of) c.new.ensures ∙ c.numbered.ensures.parts)
    (λ state stands. subst (λ (shown : List Shown). AreOfClusters state.plain.main shown) (sym c.new.ensures) (c.numbered.ensures.numbers state stands))
    c.new-2.ensures.items
