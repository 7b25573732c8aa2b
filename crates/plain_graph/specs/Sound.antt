-- What a plain graph's fields keep.
use Rattle.std.specs.Prelude.{ℕ, ◌≤◌, List, map, length, All}
use Rattle.lists.specs.Distinct.{AreDistinct}
use Rattle.fee_rate.specs.declared.limits.TheConstants.{MAX_SIZE}
use Rattle.graph_model.specs.declared.names.Limits.{Limits}
use Rattle.graph_model.specs.Limits.{AreInRange, bounds_of}
use Rattle.plain_graph.specs.declared.limits.TheConstants.{MAX_NAMES}
use Rattle.plain_graph.specs.declared.tx.Tx.{Tx}
use Rattle.plain_graph.specs.Walks.{EndsAreAmong}

abbrev pub names_of : List Tx → List ℕ
names_of txs = map (λ tx. tx.id) txs

-- no transaction is larger than may be
abbrev pub AreSmall : List Tx → Type 0
AreSmall txs = All (λ tx. tx.size ≤ MAX_SIZE) txs

-- The limits are in range, sizes are, names and pairs stand once each, pairs are of names, and there
-- are places for all names.
pub record IsSound (set : Limits) (txs : List Tx) (pairs : List (ℕ × ℕ)) (places : ℕ) : Type 0 where
  pub in_range : AreInRange MAX_NAMES (bounds_of set)
  pub small : AreSmall txs
  pub names_once : AreDistinct (names_of txs)
  pub pairs_once : AreDistinct pairs
  pub ends : EndsAreAmong (names_of txs) pairs
  pub enough : length txs ≤ places
