use Rattle.std.proofs.Common.{is_some, sym, ap, ◌∙◌}
use Rattle.levels.proofs.Finds.{member_is}
use Rattle.levels.proofs.levels.Levels.has.Goals as goal

pub returns : goal.returns
returns g c =
    c.is_some.ensures ∙ ap is_some c.number.ensures.number
    ∙ sym (member_is g.row.W c.self.inside.issued c.self.inside.shelves c.args.self.now c.self.invariant.order c.self.view_is c.args.level c.args.id)
