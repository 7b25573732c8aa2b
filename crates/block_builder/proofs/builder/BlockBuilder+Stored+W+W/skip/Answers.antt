-- The part that is offered is left out.
use Rattle.std.proofs.Common.{false, subst}
use Rattle.cluster_store.specs.Walks.{shown_part}
use Rattle.block_builder.specs.Building.{Building, StepsPast}
use Rattle.block_builder.proofs.Calls.{building_of, skipped}
use Rattle.block_builder.proofs.builder.BlockBuilder+Stored+W+W.skip.Goals as goal

pub returns-clause-past : goal.returns-clause-past
returns-clause-past g c =
    let b = c.self.inside in
    subst (λ (old : Building). StepsPast false old (building_of b.graph.now c.go_past.new.self c.mark.new.marks.items)) c.self.view_is
    (skipped b.graph.now b.ahead c.go_past.new.self b.marks.items c.as_slice.result.now c.go_past.ensures c.mark.new.marks.items
    (shown_part c.in-Some.shown) c.in-Some.ensures.0 c.as_slice.ensures.value c.in-Some.ensures.1 c.in_ok-mark.ensures.marked)
