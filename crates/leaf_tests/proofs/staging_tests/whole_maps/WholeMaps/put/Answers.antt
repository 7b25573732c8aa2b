use Rattle.std.proofs.Common.{◌-◌, Some}
use Rattle.staging.proofs.WholeMapsLemmas.{change_first, change_second}
use Rattle.leaf_tests.proofs.staging_tests.whole_maps.WholeMaps.put.Goals as goal

pub returns-then-self-clause-top : goal.returns-then-self-clause-top
returns-then-self-clause-top c =
    let o = c.self.inside in
    let put = c.insert in
    let second = change_second c.args.key (Some c.args.value) o.spare (o.spare - 1) in
    rw (← c.self.view_is)
    (second o.top.entries put.new.map.entries o.base.entries put.ensures.updates.0 o.staged c.if-self.true)

pub returns-else-self-clause-top : goal.returns-else-self-clause-top
returns-else-self-clause-top c =
    let o = c.self.inside in
    let put = c.insert-else-self in
    let first = change_first c.args.key (Some c.args.value) o.spare (o.spare - 1) in
    rw (← c.self.view_is)
    (first o.base.entries put.new.map.entries o.top.entries put.ensures.updates.0 o.staged c.if-self.false)
