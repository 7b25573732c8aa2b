use Rattle.std.proofs.Common.{◌≡◌, ◌*◌, ◌/◌, ◌^◌}
use Rattle.bitset.specs.Places.{places}
use Rattle.dep_graph.specs.Moves.{ChangesFrom}
use Rattle.dep_graph.proofs.Gaps.{IsStanding}
use Rattle.dep_graph.proofs.numbering.number_anew.Given as goal

abbrev pub invariant-loop-left : goal.invariant-loop-left
invariant-loop-left g l =
    ChangesFrom (IsStanding (places (64 * g.row.W) l.within) l.power) l.first l.initial.rows l.rows × (l.left ≡ l.initial.left / 2 ^ l.power)

abbrev pub decreases-loop-left : goal.decreases-loop-left
decreases-loop-left g l = l.left
