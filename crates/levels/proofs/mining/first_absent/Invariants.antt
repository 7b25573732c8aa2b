-- main has the names so far
use Rattle.std.proofs.Common.{◌≡◌, ℕ, false, Contains, take}
use Rattle.graphs.specs.declared.names.Level.TheVariants.{Main}
use Rattle.graphs.specs.Closures.{is_member}
use Rattle.levels.specs.Shelves.{view_of}
use Rattle.levels.specs.Views.{graph_of}
use Rattle.levels.proofs.mining.first_absent.Given as goal

abbrev pub invariant-loop-id : goal.invariant-loop-id
invariant-loop-id g l = (id : ℕ) → Contains (take l.id-index l.ids) id → is_member (graph_of (view_of Main l.shelves)) id ≡ false → ⊥
