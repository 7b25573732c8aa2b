-- What is told of several transactions together: their ancestors, their descendants, and their clusters. One that the level hasn't is passed
-- over.
use Rattle.std.specs.Prelude.{◌≡◌, ◌⊎◌, ℕ, List, length}
use Rattle.graphs.specs.declared.names.Kin.{Kin}
use Rattle.graphs.specs.declared.names.Level.{Level}
use Rattle.graphs.specs.Graphs.{Lists}
use Rattle.graph_model.specs.States.{State, level_of}
use Rattle.tx_graph.specs.Unions.{IsKinIn, LieInComponents}
use Rattle.reorg.specs.Kept.{Kept, StandsFor}
use Rattle.desk.specs.declared.desk.Desk.{Desk}
use Rattle.desk.specs.Copies.{copied}

-- These are the ancestors of the transactions, or their descendants, each once, in rising order.
abbrev pub AreKinOf : Kept → Kin → Level → List ℕ → List ℕ → Type 0
AreKinOf kept kin level ids found = (state : State) → StandsFor kept state → Lists (IsKinIn kin (level_of state.plain level) ids) found

-- They are copied to the front of the caller's array, as many as it has room for, and their number is told.
pub record ShowsKin (kept : Kept) (kin : Kin) (level : Level) (ids old new : List ℕ) (count : ℕ) : Type 0 where
  pub found : List ℕ
  pub are_kin : AreKinOf kept kin level ids found
  pub items : new ≡ copied found old
  pub count_is : count ≡ length found

-- Where there is no memory nothing is written. The graph stays.
pub record Unites (desk next : Desk) (kin : Kin) (level : Level) (ids : List ℕ) (code : ℕ) (old new : List ℕ) (count_old count : ℕ) : Type 0 where
  pub same : next ≡ desk
  pub told : ((code ≡ 18) × (new ≡ old) × (count ≡ count_old)) ⊎ ((code ≡ 0) × ShowsKin desk.pool kin level ids old new count)

-- the transactions lie in so many clusters
abbrev pub AreInClusters : Kept → Level → List ℕ → ℕ → Type 0
AreInClusters kept level ids count = (state : State) → StandsFor kept state → LieInComponents (level_of state.plain level) ids count

abbrev pub CountsClusters : Desk → Level → List ℕ → ℕ → ℕ → ℕ → Type 0
CountsClusters desk level ids code old new = ((code ≡ 18) × (new ≡ old)) ⊎ ((code ≡ 0) × AreInClusters desk.pool level ids new)
