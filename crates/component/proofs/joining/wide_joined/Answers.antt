use Rattle.std.proofs.Common.{◌++◌, ◌≡◌}
use Rattle.cluster.specs.Clusters.{Cluster}
use Rattle.cluster.specs.Changes.{Joins}
use Rattle.component.proofs.Kept.{handed}
use Rattle.component.proofs.joining.wide_joined.Goals as goal

pub returns-clause-names : goal.returns-clause-names
returns-clause-names g c =
    handed (λ (k : Cluster). k.names ≡ c.args.first.now.names ++ c.args.second.now.names)
    c.in_ok-joined.joined c.wide.result c.wide.ensures c.in_ok-joined.ensures.names

pub returns-clause-graph : goal.returns-clause-graph
returns-clause-graph g c =
    handed (λ (k : Cluster). Joins c.args.first.now.graph c.args.second.now.graph c.args.parent c.args.child k.graph)
    c.in_ok-joined.joined c.wide.result c.wide.ensures c.in_ok-joined.ensures.graph
