-- The names in their new order lie in the same clusters.
use Rattle.levels.proofs.Kins.{under_moved}
use Rattle.levels.proofs.shelves.Shelves.count_clusters.Goals as goal

pub returns-clause-count : goal.returns-clause-count
returns-clause-count g c =
    let (numbers, under, clusters, names) = c.measure-clusters.ensures in
    (numbers, under_moved c.args.level c.args.self.now c.args.ids.now c.group.new.ids numbers c.group.ensures.same under, clusters)
