use Rattle.std.proofs.Common.{◌≡◌}
use Rattle.node_pool.proofs.LinkLemmas.{IsCutBelow}
use Rattle.node_pool.proofs.pool.Pool.take.Given as goal

abbrev pub invariant-loop-r : goal.invariant-loop-r
invariant-loop-r g l =
    (l.self-inside.nodes ≡ l.initial.self-inside.nodes) × (l.self-inside.issued ≡ l.initial.self-inside.issued)
    × IsCutBelow l.initial.self-inside.rings l.self-inside.rings l.key.slot l.r
