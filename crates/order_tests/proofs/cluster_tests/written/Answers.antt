use Rattle.std.proofs.Common.{◌≡◌, rules, true}
use Rattle.order_tests.proofs.Sizes.{cluster_fits}
use Rattle.order_tests.proofs.cluster_tests.written.Goals as goal

pub names-child-items-requires : goal.names-child-items-requires
names-child-items-requires g c = cluster_fits g.row.W c.requires

pub has-requires : goal.has-requires
has-requires g c = (cluster_fits g.row.W c.requires, c.requires)

pub rate-rate-requires : goal.rate-rate-requires
rate-rate-requires g c =
    let there : c.has.result ≡ true = search rules in
    (cluster_fits g.row.W c.requires, c.has.ensures.0 there)

pub names-parent-items-requires : goal.names-parent-items-requires
names-parent-items-requires g c = cluster_fits g.row.W c.requires

pub is_above-requires : goal.is_above-requires
is_above-requires g c = (cluster_fits g.row.W c.requires, c.requires)
