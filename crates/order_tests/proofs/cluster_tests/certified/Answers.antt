use Rattle.order_tests.proofs.Sizes.{cluster_fits}
use Rattle.order_tests.proofs.cluster_tests.certified.Goals as goal

pub written-requires : goal.written-requires
written-requires g c = (cluster_fits g.row.W c.requires.narrow, c.requires.narrow)

pub verdict-requires : goal.verdict-requires
verdict-requires g c = c.requires.claims
