-- The parents in a cluster are those in the graph.
use Rattle.std.proofs.Common.{◌≤◌, arith}
use Rattle.levels.proofs.Places.{lists_covers}
use Rattle.levels.proofs.Under.{held, seen_there}
use Rattle.levels.proofs.Oversizing.{ordered_there}
use Rattle.component.proofs.Rooms.{covers_fits}
use Rattle.levels.proofs.Rooms.{cluster_fits}
use Rattle.levels.proofs.shelves.Shelves.covers.Goals as goal

pub ordered_at-requires : goal.ordered_at-requires
ordered_at-requires g c =
    let narrow : g.row.W ≤ 2 = c.requires.order.narrow in
    let under = c.its_number in
    (omega arith, (cluster_fits g.row.W narrow, ordered_there g.row.W c.args.level c.args.self.now c.requires.order c.requires.within c.args.id under.result under.ensures))

pub covers-requires : goal.covers-requires
covers-requires g c =
    let narrow : g.row.W ≤ 2 = c.requires.order.narrow in
    let under = c.its_number in
    let at = seen_there g.row.W c.args.self.now c.requires.order c.args.level c.args.id under.result under.ensures c.ordered_at.result.now c.ordered_at.ensures in (
      cluster_fits g.row.W narrow,
      (
        covers_fits g.row.W narrow,
        held g.row.W c.args.self.now c.requires.order c.args.level c.args.id under.result
            under.ensures c.ordered_at.result.now at,
      ),
    )

pub returns : goal.returns
returns g c =
    let under = c.its_number in
    let at = seen_there g.row.W c.args.self.now c.requires.order c.args.level c.args.id under.result under.ensures c.ordered_at.result.now c.ordered_at.ensures in
    lists_covers g.row.W c.args.self.now c.requires.order c.args.level c.args.id under.result c.ordered_at.result.now at
    (held g.row.W c.args.self.now c.requires.order c.args.level c.args.id under.result under.ensures c.ordered_at.result.now at)
    c.covers.result c.covers.ensures
