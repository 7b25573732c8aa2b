-- The names in their new order have the same kin, and lie in the same clusters.
use Rattle.std.proofs.Common.{ap, arith}
use Rattle.std.proofs.lemmas.List.Sorted.{length_permutation}
use Rattle.graphs.specs.Rooms.{Room}
use Rattle.levels.specs.Shelves.{view_of}
use Rattle.levels.specs.Views.{graph_of}
use Rattle.levels.proofs.Kins.{kin_listed, under_moved}
use Rattle.levels.proofs.shelves.Shelves.kin.Goals as goal

pub returns-then-names-capacity-clause-needs : goal.returns-then-names-capacity-clause-needs
returns-then-names-capacity-clause-needs g c =
    let (numbers, under, clusters, names) = c.measure-clusters.ensures in
    (numbers, under_moved c.args.level c.args.self.now c.args.ids.now c.group.new.ids numbers c.group.ensures.same under, names)

pub returns-clause-lists : goal.returns-clause-lists
returns-clause-lists g c =
    kin_listed c.args.kin (graph_of (view_of c.args.level c.args.self.now)) c.args.ids.now c.group.new.ids c.add_all.new.out.ids c.sort.new.self.ids
    c.group.ensures.same c.add_all.ensures.adds c.sort.ensures.permutation c.sort.ensures.sorted

pub returns-clause-room : goal.returns-clause-room
returns-clause-room g c =
    let sorted = c.sort.ensures.room in
    let added = c.add_all.ensures.room in
    let long = length_permutation c.add_all.new.out.ids c.sort.new.self.ids c.sort.ensures.permutation in
    let cleared = ap (λ (r : Room). r.room) c.clear.ensures in
    omega (arith, sorted, added, long, cleared)
