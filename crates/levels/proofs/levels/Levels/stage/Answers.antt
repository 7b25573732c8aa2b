use Rattle.levels.proofs.Keeping.{levels_begun}
use Rattle.levels.proofs.levels.Levels.stage.Goals as goal

pub returns : goal.returns
returns g c =
    levels_begun g.row.W c.self.inside.issued c.self.inside.shelves c.begin.new.self
    c.args.self.now c.self.invariant.order c.self.view_is c.requires c.begin.ensures.staged
