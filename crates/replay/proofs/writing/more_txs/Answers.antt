use Rattle.std.proofs.Common.{map, take, get_or, ◌∷◌, [], ◌++◌, sym, ap, ◌∙◌}
use Rattle.fee_rate.specs.declared.rates.FeeRate.{FeeRate}
use Rattle.graph_model.specs.Texts.{tx_line}
use Rattle.replay.specs.Writings.{tx_line_of}
use Rattle.replay.proofs.WritingLemmas.{lines_on, map_take}
use Rattle.replay.proofs.writing.more_txs.Goals as goal

pub loop-id-preserved : goal.loop-id-preserved
loop-id-preserved g c =
    let graph = c.args.cluster.now.graph in
    let so_far = map (tx_line_of graph) (take c.loop-id.id-index c.args.ids.now) in
    let id = get_or c.args.ids.now c.loop-id.id-index 0 in
    let line = λ (rate : FeeRate). tx_line id rate.fee rate.size in
    lines_on _ _ _ _ _ _ _ _ _ so_far (line c.rate.result ∷ []) _ c.loop-id.invariant c.more-so_far.ensures
    (map_take (tx_line_of graph) c.args.ids.now c.loop-id.id-index 0 c.loop-id-test.true ∙ ap (λ (rate : FeeRate). so_far ++ line rate ∷ [])
    (sym c.rate.ensures))
