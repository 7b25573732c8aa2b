use Rattle.std.proofs.Common.{ℕ, List, take, ◌++◌}
use Rattle.lists.specs.Distinct.{AreDistinct}
use Rattle.graph_model.specs.Answers.{order_of}
use Rattle.levels.specs.Levels.{OneLevel}
use Rattle.dump.specs.Listings.{AreListed, Tells}
use Rattle.dump.proofs.listing.add_part.Given as goal

-- the names so far were added
abbrev pub invariant-loop-id : goal.invariant-loop-id
invariant-loop-id g l =
    (level : OneLevel) (before : List ℕ) → Tells level l.fn.cluster → AreDistinct (order_of level.parts) → AreDistinct (before ++ l.ids)
    → AreListed level before l.fn.lists.txs.items l.fn.lists.edges.items
    → AreListed level (before ++ take l.id-index l.ids) l.lists.txs.items l.lists.edges.items
