-- What a filled draft picks is the block.
use Rattle.std.proofs.Common.{List, ◌∙◌, subst}
use Rattle.graphs.specs.Certificates.{Part}
use Rattle.graph_model.specs.Commands.{Block}
use Rattle.graph_model.specs.Replies.{Built, block_reply}
use Rattle.tx_graph.specs.Dropped.{IsBlockOf}
use Rattle.tx_graph.specs.Kept.{MakesStep}
use Rattle.block_builder.specs.Building.{Building}
use Rattle.block_builder.specs.Drafts.{ArePicked}
use Rattle.block_builder.proofs.Calls.{walk_bounded}
use Rattle.block_builder.proofs.Drafting.{makes_block, steps_filled, steps_unfilled}
use Rattle.block_builder.proofs.builder.BlockBuilder+Stored+W+W.fill.Goals as goal

pub numbered-parts-requires : goal.numbered-parts-requires
numbered-parts-requires g c = (c.self.invariant.0, (assumption, c.self.invariant.1))

pub least-requires : goal.least-requires
least-requires g c = c.self.invariant.0

pub fill-requires-clause-least : goal.fill-requires-clause-least
fill-requires-clause-least g c =
    walk_bounded c.least.result c.self.inside.graph.now.levels.main.parts c.numbered-parts.result c.numbered-parts.ensures.parts
    (c.least.ensures.parts c.self.invariant.1)

pub returns-in_err-fill-clause-step : goal.returns-in_err-fill-clause-step
returns-in_err-fill-clause-step g c =
    subst (λ (b : Building). MakesStep b.graph b.graph (Block c.args.limit) (block_reply c.from_residual.result)) c.self.view_is
    (steps_unfilled c.self.inside.graph.now c.args.limit c.from_residual.result c.from_residual.ensures.0 c.numbered-parts.ensures.memory)

pub returns-clause-block : goal.returns-clause-block
returns-clause-block g c =
    subst (λ (b : Building). (taken : List Part) × IsBlockOf b.graph c.args.limit taken × ArePicked taken c.picked.result) c.self.view_is
    (makes_block c.fill.new.self c.self.inside.graph.now c.numbered-parts.result c.args.limit c.picked.result c.in_ok-fill.ensures.filled
    (c.in_ok-fill.ensures.limit ∙ c.new-draft.ensures.limit) c.numbered-parts.ensures.parts c.numbered-parts.ensures.numbers c.picked.ensures.fee
    c.picked.ensures.size c.picked.ensures.ids)

pub returns-clause-step : goal.returns-clause-step
returns-clause-step g c =
    let picked = c.picked.result in
    let block = makes_block c.fill.new.self c.self.inside.graph.now c.numbered-parts.result c.args.limit picked c.in_ok-fill.ensures.filled
    (c.in_ok-fill.ensures.limit ∙ c.new-draft.ensures.limit) c.numbered-parts.ensures.parts c.numbered-parts.ensures.numbers c.picked.ensures.fee
    c.picked.ensures.size c.picked.ensures.ids in
    subst (λ (b : Building). MakesStep b.graph b.graph (Block c.args.limit) (Built (record { fee = picked.fee; size = picked.size }) picked.ids)) c.self.view_is
    (steps_filled c.self.inside.graph.now c.args.limit picked block c.numbered-parts.ensures.block)
