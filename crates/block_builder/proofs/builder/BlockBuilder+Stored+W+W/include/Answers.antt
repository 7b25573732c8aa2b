-- The part that is offered is included.
use Rattle.std.proofs.Common.{true, subst}
use Rattle.block_builder.specs.Building.{Building, StepsPast}
use Rattle.block_builder.proofs.Calls.{building_of, included}
use Rattle.block_builder.proofs.builder.BlockBuilder+Stored+W+W.include.Goals as goal

pub returns : goal.returns
returns g c =
    let b = c.self.inside in
    subst (λ (old : Building). StepsPast true old (building_of b.graph.now c.go_past.new.self b.marks.items)) c.self.view_is
    (included b.graph.now b.ahead c.go_past.new.self b.marks.items c.as_slice.result.now c.go_past.ensures c.as_slice.ensures.value)
