-- Where the part of a name stands.
use Rattle.std.specs.Prelude.{ℕ, Contains}
use Rattle.graphs.specs.Certificates.{Part}
use Rattle.graphs.specs.declared.names.Level.{Level}
use Rattle.cluster_store.specs.Laws.{StandsAt}
use Rattle.levels.specs.Shelves.{Shelf}

-- the part at a place of a level has the name; a place is the number of a cluster and a position there
abbrev pub HasPart : Level → Shelf → ℕ × ℕ → ℕ → Type 0
HasPart level shelf place id = (part : Part) × StandsAt level shelf.store.clusters place part × Contains part.ids id
