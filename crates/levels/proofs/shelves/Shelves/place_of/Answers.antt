-- The part of a name is one of its cluster.
use Rattle.std.proofs.Common.{◌≤◌, arith}
use Rattle.graphs.specs.declared.names.Level.TheVariants.{Main}
use Rattle.levels.proofs.Places.{has_part}
use Rattle.levels.proofs.Under.{held, seen_there}
use Rattle.levels.proofs.Oversizing.{ordered_there}
use Rattle.levels.proofs.Rooms.{cluster_fits}
use Rattle.levels.proofs.shelves.Shelves.place_of.Goals as goal

pub ordered_at-requires : goal.ordered_at-requires
ordered_at-requires g c =
    let narrow : g.row.W ≤ 2 = c.requires.order.narrow in
    let under = c.its_number-number in
    (omega arith, (cluster_fits g.row.W narrow, ordered_there g.row.W Main c.args.self.now c.requires.order c.requires.within c.args.id under.result under.ensures))

pub part_of-requires : goal.part_of-requires
part_of-requires g c =
    let narrow : g.row.W ≤ 2 = c.requires.order.narrow in
    let under = c.its_number-number in
    let at = seen_there g.row.W c.args.self.now c.requires.order Main c.args.id under.result under.ensures c.ordered_at.result.now c.ordered_at.ensures in
    (cluster_fits g.row.W narrow, held g.row.W c.args.self.now c.requires.order Main c.args.id under.result under.ensures c.ordered_at.result.now at)

pub returns : goal.returns
returns g c =
    let under = c.its_number-number in
    let at = seen_there g.row.W c.args.self.now c.requires.order Main c.args.id under.result under.ensures c.ordered_at.result.now c.ordered_at.ensures in
    let part = c.part_of.ensures in
    has_part g.row.W c.args.self.now c.requires.order Main c.args.id under.result c.part_of.result c.ordered_at.result.now part.0 at part.1 part.2
