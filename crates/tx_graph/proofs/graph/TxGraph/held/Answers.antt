use Rattle.std.proofs.Common.{◌*◌, Contains, ap, ◌∙◌, subst}
use Rattle.cluster_store.specs.Held.{Held}
use Rattle.levels.specs.Held.{IsHeldIn}
use Rattle.levels.specs.Levels.{level_at}
use Rattle.tx_graph.specs.Kept.{Kept}
use Rattle.tx_graph.proofs.Calls.{kept_of, within_view}
use Rattle.tx_graph.proofs.Rooms.{levels_fit}
use Rattle.tx_graph.proofs.graph.TxGraph.held.Goals as goal

pub held-requires : goal.held-requires
held-requires g c =
    let kept = kept_of (64 * g.row.W) c.self.inside.begun c.self.inside.levels in
    (levels_fit g.row.W assumption, (assumption, within_view kept c.args.self.now c.args.level c.self.view_is c.requires.within))

pub returns-clause-parts : goal.returns-clause-parts
returns-clause-parts g c = c.held.ensures.parts ∙ ap (λ (k : Kept). (level_at k.levels c.args.level).parts) c.self.view_is

pub returns-clause-clusters : goal.returns-clause-clusters
returns-clause-clusters g c =
    subst (λ (k : Kept). (h : Held) → Contains c.held.result h → IsHeldIn (level_at k.levels c.args.level) h) c.self.view_is c.held.ensures.clusters

pub returns-clause-narrow : goal.returns-clause-narrow
returns-clause-narrow g c = c.held.ensures.narrow
