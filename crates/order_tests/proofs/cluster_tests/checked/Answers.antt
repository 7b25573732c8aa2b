use Rattle.order_tests.proofs.Sizes.{cluster_fits}
use Rattle.order_tests.proofs.cluster_tests.checked.Goals as goal

pub claims_of-requires : goal.claims_of-requires
claims_of-requires g c = (cluster_fits g.row.W c.requires, c.requires)
