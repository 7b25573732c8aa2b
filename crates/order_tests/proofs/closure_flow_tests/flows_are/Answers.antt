use Rattle.order_tests.proofs.Sizes.{scratch_fits}
use Rattle.order_tests.proofs.closure_flow_tests.flows_are.Goals as goal

pub flow-requires : goal.flow-requires
flow-requires g c = (scratch_fits g.row.W c.requires, c.requires)
