use Rattle.std.proofs.Common.{ℕ, ◌*◌, ◌<◌, ◌≤◌, length}
use Rattle.bitset.specs.Places.{places}
use Rattle.dep_graph.specs.Moves.{gap}
use Rattle.dep_graph.proofs.Moving.{Counting}
use Rattle.dep_graph.proofs.numbering.greatest_gap.Given as goal

abbrev pub invariant-loop-place : goal.invariant-loop-place
invariant-loop-place g l = Counting (places (64 * g.row.W) l.within) l.number l.yielded l.place-iterator
    × ((i : ℕ) → i < length l.yielded → gap (places (64 * g.row.W) l.within) i ≤ l.greatest)
