use Rattle.std.proofs.Common.{◌*◌, ◌∙◌, sym}
use Rattle.cluster.proofs.Firsts.{none_to_come, is_alone}
use Rattle.cluster.proofs.covers.first_chosen.Goals as goal

pub returns-in_default : goal.returns-in_default
returns-in_default g c = none_to_come (64 * g.row.W) c.args.names.now c.args.order.now c.args.chosen.now c.requires c.in_default.ensures.least

pub returns-in-None : goal.returns-in-None
returns-in-None g c =
    is_alone (64 * g.row.W) c.args.names.now c.args.order.now c.args.chosen.now c.requires c.in-Some.place c.in-Some.ensures.least.member
    (sym c.remove.ensures ∙ c.in-None.ensures.least)
