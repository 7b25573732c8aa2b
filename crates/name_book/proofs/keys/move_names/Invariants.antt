-- the names of the pieces so far have come to the ring
use Rattle.std.proofs.Common.{◌≡◌, ◌++◌, ℕ, List, Some, length}
use Rattle.node_pool.specs.Laws.{RingsGoRound}
use Rattle.name_book.specs.Changes.{Gathers}
use Rattle.name_book.specs.Tables.{key_of, table_of, ChangesRing}
use Rattle.name_book.proofs.keys.move_names.Given as goal

abbrev pub invariant-loop-rest : goal.invariant-loop-rest
invariant-loop-rest l =
    let es = l.names.entries in
    record {
      ring : ChangesRing l.fn.nodes l.nodes l.r;
      gathers : (front : List ℕ) × (front ++ l.rest ≡ l.ids) × ((spare t : ℕ) → key_of es t ≡ Some l.to
          → Gathers (table_of l.fn.nodes es spare) (table_of l.nodes es spare) l.r t front);
      round : RingsGoRound 2 l.fn.nodes → RingsGoRound 2 l.nodes;
    }

abbrev pub decreases-loop-rest : goal.decreases-loop-rest
decreases-loop-rest l = length l.rest
