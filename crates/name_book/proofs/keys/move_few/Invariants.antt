-- the names so far have come to the ring
use Rattle.std.proofs.Common.{◌≡◌, ℕ, Some, take}
use Rattle.node_pool.specs.Laws.{RingsGoRound}
use Rattle.name_book.specs.Changes.{Gathers}
use Rattle.name_book.specs.Tables.{key_of, table_of, ChangesRing}
use Rattle.name_book.proofs.keys.move_few.Given as goal

abbrev pub invariant-loop-key : goal.invariant-loop-key
invariant-loop-key l =
    let es = l.names.entries in
    record {
      ring : ChangesRing l.fn.nodes l.nodes l.r;
      gathers : (spare t : ℕ) → key_of es t ≡ Some l.to
          → Gathers (table_of l.fn.nodes es spare) (table_of l.nodes es spare) l.r t (take l.key-index l.ids);
      round : RingsGoRound 2 l.fn.nodes → RingsGoRound 2 l.nodes;
    }
