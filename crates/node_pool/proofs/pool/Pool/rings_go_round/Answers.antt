use Rattle.std.proofs.Common.{subst}
use Rattle.node_pool.specs.Laws.{RingsGoRound}
use Rattle.node_pool.proofs.RoundLemmas.{rings-round}
use Rattle.node_pool.proofs.pool.Pool.rings_go_round.Goals as goal

pub returns : goal.returns
returns g c =
    subst (RingsGoRound g.row.R) c.self.view_is (rings-round g.row.R c.self.inside.nodes c.self.inside.rings c.self.inside.issued c.self.invariant)
