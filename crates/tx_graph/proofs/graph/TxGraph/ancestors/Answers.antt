use Rattle.std.proofs.Common.{◌*◌, Some, sym, refl, subst}
use Rattle.graph_model.specs.Commands.{Ancestors}
use Rattle.graph_model.specs.Replies.{Refused, Ids, names_reply}
use Rattle.levels.specs.Levels.{level_at}
use Rattle.tx_graph.specs.Kept.{MakesStep}
use Rattle.tx_graph.proofs.Calls.{error_is, on_error, kept_of, both_views, ancestors_list}
use Rattle.tx_graph.proofs.Reading.{steps_ascended}
use Rattle.tx_graph.proofs.Rows.{unread_row}
use Rattle.tx_graph.proofs.Standing.{steps_refused}
use Rattle.tx_graph.proofs.Rooms.{levels_fit, cluster_fits}
use Rattle.tx_graph.proofs.graph.TxGraph.ancestors.Goals as goal

pub returns-in_err-cluster-clause-step : goal.returns-in_err-cluster-clause-step
returns-in_err-cluster-clause-step g c =
    let kept = kept_of (64 * g.row.W) c.self.inside.begun c.self.inside.levels in
    let why = c.in_err-cluster.field-0.0 in
    subst (λ r. MakesStep c.args.self.now c.args.self.now (Ancestors c.args.id c.args.level) (names_reply r c.args.out.now.ids))
    (sym (error_is c.from_residual.result why c.from_residual.ensures.1))
    (both_views kept c.args.self.now (Ancestors c.args.id c.args.level) (Refused why) c.self.view_is
    (steps_refused kept (Ancestors c.args.id c.args.level) why (unread_row kept c.args.level c.args.id (Some why) c.in_err-cluster.ensures)))

pub returns-clause-step : goal.returns-clause-step
returns-clause-step g c =
    let kept = kept_of (64 * g.row.W) c.self.inside.begun c.self.inside.levels in
    let found = c.in_ok-cluster.ensures in
    let ids = c.list_ancestors.new.out.ids in
    both_views kept c.args.self.now (Ancestors c.args.id c.args.level) (Ids ids) c.self.view_is
    (steps_ascended kept c.args.level c.args.id ids c.self.invariant.picked found.1 found.0
    (ancestors_list (level_at kept.levels c.args.level).graph c.args.id c.in_ok-cluster.cluster.now found.2 ids c.list_ancestors.ensures.lists))

pub cluster_of-requires : goal.cluster_of-requires
cluster_of-requires g c = (levels_fit g.row.W assumption, cluster_fits g.row.W assumption)

pub list_ancestors-requires : goal.list_ancestors-requires
list_ancestors-requires g c = (cluster_fits g.row.W assumption, (c.in_ok-cluster.ensures.2.here, c.requires))

pub returns-in_err-cluster-clause-room : goal.returns-in_err-cluster-clause-room
returns-in_err-cluster-clause-room g c = refl

pub returns-in_err-cluster-clause-err : goal.returns-in_err-cluster-clause-err
returns-in_err-cluster-clause-err g c = on_error c.from_residual.result refl

pub returns-clause-room : goal.returns-clause-room
returns-clause-room g c = c.list_ancestors.ensures.room

pub returns-clause-err : goal.returns-clause-err
returns-clause-err g c = tt
