use Rattle.std.proofs.Common.{◌≡◌}
use Rattle.node_pool.proofs.LinkLemmas.{IsGrown}
use Rattle.node_pool.proofs.rings.Rings.grow.Given as goal

abbrev pub invariant-loop-slot : goal.invariant-loop-slot
invariant-loop-slot l =
    (l.self-inside.links.room ≡ l.initial.self-inside.links.room)
    × (l.self-inside.links.width ≡ l.self-inside.width)
    × (l.self-inside.width ≡ l.initial.self-inside.width)
    × IsGrown l.initial.self-inside.width l.initial.self-inside.links.items l.self-inside.links.items l.slot
