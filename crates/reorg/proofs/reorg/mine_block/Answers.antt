use Rattle.std.proofs.Common.{◌≡◌, ℕ, List, sym, subst}
use Rattle.graph_model.specs.Commands.{Mine}
use Rattle.graph_model.specs.Replies.{Done, change_reply}
use Rattle.graph_model.specs.States.{MinedBlock}
use Rattle.tx_graph.specs.Kept as graphs
use Rattle.reorg.specs.Blocks.{AreKept, HaveAtMost}
use Rattle.reorg.specs.Kept.{MakesStep}
use Rattle.reorg.proofs.Mining.{mined_step, kept_mined, sizes_mined, lifted_refusal}
use Rattle.reorg.proofs.reorg.mine_block.Goals as goal

pub returns-in-Ok-clause-step : goal.returns-in-Ok-clause-step
returns-in-Ok-clause-step g c =
    let old = c.args.graph.now in let new = c.mine.new.self in let ids = c.args.ids.now in let blocks = c.args.blocks.now.items in
    let steps = subst (λ r. graphs.MakesStep old new (Mine ids) (change_reply r)) c.in-Ok.is c.mine.ensures.step in
    subst (λ (bs : List MinedBlock). MakesStep (record { graph = old; blocks = blocks }) (record { graph = new; blocks = bs }) (Mine ids) Done) (sym c.put.ensures)
    (mined_step old new ids c.args.block c.requires.block.1 c.requires.block.0 steps blocks)

pub returns-in-Ok-clause-kept : goal.returns-in-Ok-clause-kept
returns-in-Ok-clause-kept g c =
    let old = c.args.graph.now in let new = c.mine.new.self in let ids = c.args.ids.now in let blocks = c.args.blocks.now.items in
    let steps = subst (λ r. graphs.MakesStep old new (Mine ids) (change_reply r)) c.in-Ok.is c.mine.ensures.step in
    subst AreKept (sym c.put.ensures)
    (kept_mined old new ids c.args.block c.requires.block.1 c.requires.block.0 steps blocks c.additions-stands.ensures.stands c.requires.kept)

pub returns-in-Ok-clause-sizes : goal.returns-in-Ok-clause-sizes
returns-in-Ok-clause-sizes g c =
    let old = c.args.graph.now in let new = c.mine.new.self in let ids = c.args.ids.now in let blocks = c.args.blocks.now.items in
    let steps = subst (λ r. graphs.MakesStep old new (Mine ids) (change_reply r)) c.in-Ok.is c.mine.ensures.step in
    λ most few were. subst (λ (bs : List MinedBlock). HaveAtMost bs most) (sym c.put.ensures)
    (sizes_mined old new ids c.args.block c.requires.block.1 c.requires.block.0 steps blocks most few were)

pub returns-in-Err-clause-step : goal.returns-in-Err-clause-step
returns-in-Err-clause-step g c =
    let old = c.args.graph.now in let new = c.mine.new.self in let ids = c.args.ids.now in
    lifted_refusal old new c.args.blocks.now.items ids c.in-Err.why
    (subst (λ r. graphs.MakesStep old new (Mine ids) (change_reply r)) c.in-Err.is c.mine.ensures.step)
