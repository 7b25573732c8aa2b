-- the ancestors of the names so far are touched, and the shelves stay
use Rattle.std.proofs.Common.{◌≡◌, ℕ, Contains, take}
use Rattle.graphs.specs.declared.names.Level.TheVariants.{Main}
use Rattle.levels.specs.Mining.{LacksTouched}
use Rattle.levels.specs.Shelves.{view_of}
use Rattle.levels.specs.Views.{graph_of}
use Rattle.levels.proofs.mining.first_untouched.Given as goal

abbrev pub invariant-loop-id : goal.invariant-loop-id
invariant-loop-id g l = record {
  none : (id : ℕ) → Contains (take l.id-index l.ids) id → LacksTouched (graph_of (view_of Main l.fn.shelves)) l.rings id → ⊥;
  same : l.shelves ≡ l.fn.shelves;
}
