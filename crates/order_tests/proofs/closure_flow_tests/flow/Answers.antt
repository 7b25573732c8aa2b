use Rattle.order_tests.proofs.Sizes.{scratch_fits}
use Rattle.order_tests.proofs.closure_flow_tests.flow.Goals as goal

pub flow-requires : goal.flow-requires
flow-requires g c = scratch_fits g.row.W c.requires
