use Rattle.std.proofs.Common.{◌≡◌, rules, true}
use Rattle.order_tests.proofs.Sizes.{cluster_fits}
use Rattle.order_tests.proofs.cluster_tests.is_above.Goals as goal

pub has-requires : goal.has-requires
has-requires g c = (cluster_fits g.row.W c.requires, c.requires)

pub has-requires-2 : goal.has-requires-2
has-requires-2 g c = (cluster_fits g.row.W c.requires, c.requires)

pub reaches-requires : goal.reaches-requires
reaches-requires g c =
    let one : c.has.result ≡ true = search rules in
    let two : c.has-2.result ≡ true = search rules in
    (cluster_fits g.row.W c.requires, (c.has.ensures.0 one, c.has-2.ensures.0 two))
