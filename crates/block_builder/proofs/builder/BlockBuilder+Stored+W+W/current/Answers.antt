-- What is ahead is offered.
use Rattle.std.proofs.Common.{[], Some, None, refl, sym, ap, ◌∙◌}
use Rattle.lists.proofs.Cases.{some_none}
use Rattle.cluster_store.specs.Walks.{shown_part}
use Rattle.block_builder.specs.Building.{Building}
use Rattle.block_builder.proofs.Passing.{is_offered}
use Rattle.block_builder.proofs.builder.BlockBuilder+Stored+W+W.current.Goals as goal

pub returns-in-Some-clause-offered : goal.returns-in-Some-clause-offered
returns-in-Some-clause-offered g c past passed state stands =
    let s = shown_part c.in-Some.shown in
    is_offered c.args.self.now past passed state stands (Some s) c.in-Some.ensures.0
    (ap (λ (b : Building). b.ahead) (sym c.self.view_is) ∙ c.in-Some.ensures.1) (λ none. absurd (some_none s none))

pub returns-in-None-clause-offered : goal.returns-in-None-clause-offered
returns-in-None-clause-offered g c past passed state stands =
    is_offered c.args.self.now past passed state stands None []
    (ap (λ (b : Building). b.ahead) (sym c.self.view_is) ∙ c.in-None.ensures) (λ _. refl)
