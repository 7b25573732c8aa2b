use Rattle.std.proofs.Common.{◌≡◌, ℕ, ◌-◌, ◌<◌, ◌≤◌}
use Rattle.node_pool.specs.Nodes.{SameRings, SameOrder}
use Rattle.node_pool.specs.Laws.{RingsGoRound}
use Rattle.node_pool.proofs.pool.Pool.reserve.Given as goal

abbrev pub invariant-loop-self : goal.invariant-loop-self
invariant-loop-self g l =
    (l.self.slots ≡ l.fn.self.slots) × (l.self.issued ≡ l.fn.self.issued) × (l.fn.self.spare ≤ l.self.spare)
    × ((r : ℕ) → r < g.row.R → SameRings l.fn.self l.self r) × ((r : ℕ) → r < g.row.R → SameOrder l.fn.self l.self r)
    × RingsGoRound g.row.R l.self

abbrev pub decreases-loop-self : goal.decreases-loop-self
decreases-loop-self g l = l.n - l.self.spare
