-- No name and no cluster.
use Rattle.std.proofs.Common.{ap₂}
use Rattle.levels.proofs.Calls.{shelf_of}
use Rattle.levels.proofs.Standing.{order_empty}
use Rattle.levels.proofs.shelves.Shelves.new.Goals as goal

pub invariant_of-result : goal.invariant_of-result
invariant_of-result g c =
    order_empty g.row.W c.args.limits (shelf_of c.args.limits c.new.result c.new-2.result)
    (ap₂ (shelf_of c.args.limits) c.new.ensures c.new-2.ensures.empty) c.requires.wide c.requires.narrow c.requires.in_range c.new-2.ensures.store

pub returns-clause-order : goal.returns-clause-order
returns-clause-order g c =
    order_empty g.row.W c.args.limits (shelf_of c.args.limits c.new.result c.new-2.result)
    (ap₂ (shelf_of c.args.limits) c.new.ensures c.new-2.ensures.empty) c.requires.wide c.requires.narrow c.requires.in_range c.new-2.ensures.store
