use Rattle.std.proofs.Common.{◌≡◌, rules, true}
use Rattle.order_tests.proofs.Sizes.{cluster_fits, work_fits}
use Rattle.order_tests.proofs.samples.alone.Goals as goal

pub single-requires : goal.single-requires
single-requires g c =
    let rated : c.is_rate.result ≡ true = search rules in
    (work_fits g.row.W c.requires, (cluster_fits g.row.W c.requires, c.is_rate.ensures.0 rated))
