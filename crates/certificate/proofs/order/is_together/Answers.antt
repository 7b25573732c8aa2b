use Rattle.certificate.proofs.Seats.{apart}
use Rattle.certificate.proofs.order.is_together.Goals as goal

pub returns-then-group_of-group : goal.returns-then-group_of-group
returns-then-group_of-group c =
    apart _ c.args.groups.now c.args.ids.now c.loop-id.id-index c.in-Some.first.now _ _ c.loop-id-test.true
    (c.in-Some.ensures.item.3.1 0) c.requires c.group_of-group.ensures c.group_of.ensures c.if-group_of-group.true
