-- The clusters that stand in the level are its components.
use Rattle.std.proofs.Common.{sym, subst}
use Rattle.graphs.specs.Closures.{Closure}
use Rattle.cluster_store.specs.Names.{AreClusters}
use Rattle.cluster_store.specs.Stores.{Store}
use Rattle.levels.specs.Views.{AreItsClusters}
use Rattle.levels.proofs.Finds.{graph_is}
use Rattle.levels.proofs.Members.{its_clusters}
use Rattle.levels.proofs.levels.Levels.components.Goals as goal

pub returns-clause-components : goal.returns-clause-components
returns-clause-components g c =
    subst (λ (h : Closure). AreItsClusters h c.walk_records.result)
    (sym (graph_is g.row.W c.self.inside.issued c.self.inside.shelves c.args.self.now c.self.invariant.order c.self.view_is c.args.level))
    (its_clusters g.row.W c.args.level c.self.inside.shelves c.self.invariant.order c.walk_records.result
    (subst (λ (s : Store). AreClusters c.args.level s.clusters c.walk_records.result) c.store.ensures c.walk_records.ensures))

pub returns-clause-narrow : goal.returns-clause-narrow
returns-clause-narrow g c = c.self.invariant.order.narrow
