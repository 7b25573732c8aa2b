use Rattle.std.proofs.Common.{◌≡◌, drop}
use Rattle.std.specs.List.{filter}
use Rattle.cluster.specs.Covers.{has_chosen}
use Rattle.cluster.proofs.covers.look_for.Given as goal

-- none of those before is to come
abbrev pub invariant-loop-at : goal.invariant-loop-at
invariant-loop-at g l = filter (has_chosen l.names l.chosen) (drop l.at l.order) ≡ filter (has_chosen l.names l.chosen) l.order
