use Rattle.std.proofs.Common.{◌*◌}
use Rattle.graph_model.specs.Commands.{Count}
use Rattle.graph_model.specs.Replies.{Number}
use Rattle.tx_graph.proofs.Calls.{kept_of, both_views}
use Rattle.tx_graph.proofs.Reading.{steps_counted}
use Rattle.tx_graph.proofs.Rooms.{levels_fit}
use Rattle.tx_graph.proofs.graph.TxGraph.count.Goals as goal

pub returns : goal.returns
returns g c =
    let kept = kept_of (64 * g.row.W) c.self.inside.begun c.self.inside.levels in
    both_views kept c.args.self.now (Count c.args.level) (Number c.count.result) c.self.view_is
    (steps_counted kept c.args.level c.count.result c.self.invariant.picked c.count.ensures)

pub count-requires : goal.count-requires
count-requires g c = levels_fit g.row.W assumption
