use Rattle.std.proofs.Common.{None}
use Rattle.staging.proofs.WholeMapsLemmas.{change_first, change_second}
use Rattle.leaf_tests.proofs.staging_tests.whole_maps.WholeMaps.remove.Goals as goal

pub returns-then-self-clause-top : goal.returns-then-self-clause-top
returns-then-self-clause-top c =
    let o = c.self.inside in
    let drop = c.swap_remove in
    rw (← c.self.view_is)
    (change_second c.args.key None o.spare o.spare o.top.entries drop.new.self.entries o.base.entries drop.ensures.updates.0 o.staged c.if-self.true)

pub returns-else-self-clause-top : goal.returns-else-self-clause-top
returns-else-self-clause-top c =
    let o = c.self.inside in
    let drop = c.swap_remove-else-self in
    rw (← c.self.view_is)
    (change_first c.args.key None o.spare o.spare o.base.entries drop.new.self.entries o.top.entries drop.ensures.updates.0 o.staged c.if-self.false)
