use Rattle.std.proofs.Common.{◌≡◌, ℕ, List, sym, ◌∙◌, subst, subst₂, inl, inr}
use Rattle.graph_model.specs.declared.names.Refusal.{Refusal}
use Rattle.graph_model.specs.Commands.{Mine}
use Rattle.graph_model.specs.Replies.{Refused, change_reply}
use Rattle.graph_model.specs.States.{MinedBlock}
use Rattle.tx_graph.specs.Kept as graphs
use Rattle.reorg.specs.Blocks.{HaveAtMost}
use Rattle.reorg.specs.Kept.{MakesStep}
use Rattle.reorg.proofs.Mining.{refused_any}
use Rattle.reorg.proofs.reorg.Reorg.mine.Goals as goal

pub returns-in-Ok-clause-step : goal.returns-in-Ok-clause-step
returns-in-Ok-clause-step g c =
    subst₂ (λ (k : graphs.Kept) (bs : List MinedBlock). MakesStep (record { graph = k; blocks = bs })
    (record { graph = c.mine_block.new.graph; blocks = c.mine_block.new.blocks.items }) (Mine c.args.ids.now) (change_reply c.mine_block.result))
    c.prepared.ensures.same (c.prepared.ensures.blocks ∙ c.self.view_is) c.mine_block.ensures.step

pub returns-in-Ok-clause-sizes : goal.returns-in-Ok-clause-sizes
returns-in-Ok-clause-sizes g c = λ most few were.
    c.mine_block.ensures.sizes most few (subst (λ (bs : List MinedBlock). HaveAtMost bs most) (sym (c.prepared.ensures.blocks ∙ c.self.view_is)) were)

pub returns-in-Err-clause-step : goal.returns-in-Err-clause-step
returns-in-Err-clause-step g c =
    let old = c.args.graph.now in let blocks = c.args.self.now in
    subst₂ (λ (k : graphs.Kept) (bs : List MinedBlock). MakesStep (record { graph = old; blocks = blocks }) (record { graph = k; blocks = bs })
    (Mine c.args.ids.now) (Refused c.in-Err.why))
    (sym c.prepared.ensures.same) (sym (c.prepared.ensures.blocks ∙ c.self.view_is)) (refused_any old blocks c.args.ids.now c.in-Err.why c.in-Err.ensures.block)
