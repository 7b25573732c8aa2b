-- What is kept of the levels.
use Rattle.std.specs.Prelude.{◌≡◌, ℕ, ◌≤◌}
use Rattle.std.specs.FinMap as finmap
use Rattle.std.specs.FinSet as set
use Rattle.fee_rate.specs.declared.limits.TheConstants.{MAX_TOTAL}
use Rattle.graphs.specs.declared.names.Level.TheVariants.{Top}
use Rattle.levels.specs.Rings.{Ringed, AreRight}
use Rattle.levels.specs.Shelves.{Shelf, IsInOrder, numbers_at}

-- The rings are those of the shelf
abbrev pub SuitsShelf : Ringed → Shelf → Type 0
SuitsShelf rings shelf = AreRight rings shelf.main (numbers_at Top shelf)

-- The shelf is in order, the rings are right, and the names of each level are counted, and all that were added; together the
-- levels have no more names than may be.
pub record IsKept (w : ℕ) (shelf : Shelf) (rings : Ringed) (main_count top_count additions : ℕ) : Type 0 where
  pub order : IsInOrder w shelf
  pub right : SuitsShelf rings shelf
  pub mains : main_count ≡ finmap.len shelf.main
  pub tops : top_count ≡ finmap.len (numbers_at Top shelf)
  pub issued : additions ≡ rings.book.issued
  pub few : set.len rings.book.names ≤ MAX_TOTAL
