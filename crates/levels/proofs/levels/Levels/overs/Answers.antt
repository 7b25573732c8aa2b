-- The store shows the clusters of the level without an order.
use Rattle.std.proofs.Common.{sym, subst, subst₂}
use Rattle.graphs.specs.Closures.{Closure}
use Rattle.graph_model.specs.declared.names.Limits.{Limits}
use Rattle.cluster_store.specs.Overs.{AreLacking}
use Rattle.cluster_store.specs.Stores.{Store}
use Rattle.levels.specs.Overs.{LendsOvers}
use Rattle.levels.proofs.Finds.{graph_is, limits_is}
use Rattle.levels.proofs.Overs.{lends_overs}
use Rattle.levels.proofs.levels.Levels.overs.Goals as goal

pub returns : goal.returns
returns g c =
    subst₂ (λ (l : Limits) (h : Closure). LendsOvers l h c.walk_over.result)
    (sym (limits_is g.row.W c.self.inside.issued c.self.inside.shelves c.args.self.now c.self.invariant.order c.self.view_is))
    (sym (graph_is g.row.W c.self.inside.issued c.self.inside.shelves c.args.self.now c.self.invariant.order c.self.view_is c.args.level))
    (lends_overs g.row.W c.args.level c.self.inside.shelves c.self.invariant.order c.walk_over.result
    (subst (λ (s : Store). AreLacking c.args.level s.clusters c.walk_over.result) c.store.ensures c.walk_over.ensures))
