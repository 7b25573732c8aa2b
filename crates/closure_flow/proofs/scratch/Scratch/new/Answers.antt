use Rattle.std.proofs.Common.{◌*◌, ◌∙◌, ap}
use Rattle.std.specs.FinSet as set
use Rattle.bitset.specs.Sets.{contains-empty}
use Rattle.closure_flow.proofs.Networks.{not_received}
use Rattle.closure_flow.proofs.Shown.{shown_is}
use Rattle.closure_flow.proofs.scratch.Scratch.new.Goals as goal

pub returns-clause-flow : goal.returns-clause-flow
returns-clause-flow g c d p =
    let net = c.in_ok-network.network in
    shown_is (64 * g.row.W) net.within net.into.items net.amounts.items net.lean net.inside d p
    ∙ not_received (64 * g.row.W) net.within net.into.items net.amounts.items d p (ap (λ s. set.contains s p) c.in_ok-network.ensures ∙ contains-empty p)
