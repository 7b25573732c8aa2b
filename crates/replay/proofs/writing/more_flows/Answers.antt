use Rattle.std.proofs.Common.{map, take, get_or, ◌∷◌, []}
use Rattle.graph_model.specs.Texts.{flow_line}
use Rattle.replay.proofs.WritingLemmas.{lines_on, map_take}
use Rattle.replay.proofs.writing.more_flows.Goals as goal

pub loop-flow-preserved : goal.loop-flow-preserved
loop-flow-preserved g c =
    lines_on _ _ _ _ _ _ _ _ _ (map flow_line (take c.loop-flow.flow-index c.args.flows.now))
    (flow_line (get_or c.args.flows.now c.loop-flow.flow-index _) ∷ []) _ c.loop-flow.invariant c.more-so_far.ensures
    (map_take flow_line c.args.flows.now c.loop-flow.flow-index _ c.loop-flow-test.true)
