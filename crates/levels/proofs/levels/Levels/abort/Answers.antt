use Rattle.std.proofs.Common.{◌∙◌, arith}
use Rattle.graphs.specs.declared.names.Level.TheVariants.{Main}
use Rattle.levels.proofs.Keeping.{levels_closed, shelf_staged}
use Rattle.levels.proofs.levels.Levels.abort.Goals as goal

pub close-requires : goal.close-requires
close-requires g c =
    (omega arith, shelf_staged c.self.inside.shelves c.self.inside.issued c.args.self.now c.self.view_is ∙ c.requires)

pub returns : goal.returns
returns g c =
    levels_closed g.row.W c.self.inside.issued c.self.inside.shelves c.close.new.self c.args.self.now c.self.invariant.order c.close.ensures.order
    c.self.view_is Main c.close.ensures.main c.close.ensures.staging c.close.ensures.limits c.close.ensures.seen
