use Rattle.std.proofs.Common.{sym, ◌∙◌}
use Rattle.levels.proofs.Keeping.{live_counted, live_listed}
use Rattle.levels.proofs.levels.Levels.live.Goals as goal

pub returns-clause-count : goal.returns-clause-count
returns-clause-count g c ids lists =
    c.len.ensures ∙ sym (live_counted g.row.W c.self.inside.issued c.self.inside.shelves c.args.self.now
    c.self.invariant.order c.self.view_is c.self.inside.rings c.self.invariant.right ids lists)

pub returns-clause-listed : goal.returns-clause-listed
returns-clause-listed g c =
    let listed = live_listed g.row.W c.self.inside.issued c.self.inside.shelves c.args.self.now
    c.self.invariant.order c.self.view_is c.self.inside.rings c.self.invariant.right in
    (listed.0, listed.1, c.len.ensures ∙ listed.2)
