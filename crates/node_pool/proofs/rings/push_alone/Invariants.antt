use Rattle.std.proofs.Common.{◌≡◌, ◌++◌, replicate}
use Rattle.node_pool.specs.Row.{row}
use Rattle.node_pool.specs.Links.{self_link}
use Rattle.node_pool.proofs.rings.push_alone.Given as goal

abbrev pub invariant-loop : goal.invariant-loop
invariant-loop l =
    (l.link ≡ self_link l.slot)
    × (l.links ≡ row (l.fn.links.items ++ replicate l.counter (self_link l.slot)) l.fn.links.room l.fn.links.width)
