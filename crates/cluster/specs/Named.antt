-- The graph of the names of places.
use Rattle.std.specs.Prelude.{◌≡◌, ℕ, zero, suc, ◌<◌, ◌≤◌, Bool, cond, nat_lt, List, length, slice_index}
use Rattle.std.specs.Ordering.{nat_cmp}
use Rattle.std.specs.FinSet as set
use Rattle.std.specs.FinMap as map
use Rattle.lists.specs.Distinct.{AreDistinct}
use Rattle.lists.specs.Walks.{Walk}
use Rattle.fee_rate.specs.Limits.{IsRate}
use Rattle.graphs.specs.Closures.{Node, Closure, is_member, is_ancestor, rate_of, IsOrder, IsRelated}

-- the names of the places below n that pass a test
unfoldable pub names_where : List ℕ → (ℕ → Bool) → ℕ → set.FinSet nat_cmp
names_where names f zero = set.empty
names_where names f (suc n) = cond (f n) (set.insert (names_where names f n) (slice_index names n)) (names_where names f n)

-- what is known of a place, by names
abbrev pub named_node : List ℕ → Closure → ℕ → Node
named_node names g p = record { rate = rate_of g p; ancestors = names_where names (λ a. is_ancestor g a p) (length names) }

-- the graph of the names of the places below n
unfoldable pub named_below : List ℕ → Closure → ℕ → Closure
named_below names g zero = map.empty
named_below names g (suc n) = map.insert (named_below names g n) (slice_index names n) (named_node names g n)

-- the graph of the names, each with what its place has
unfoldable pub named : List ℕ → Closure → Closure
named names g = named_below names g (length names)

-- Places are the numbers from 0 on, each has one name, they are one component, and fees and sizes are in range.
pub record IsNamed (n : ℕ) (names : List ℕ) (g : Closure) : Type 0 where
  pub some : 1 ≤ length names
  pub few : length names ≤ n
  pub once : AreDistinct names
  pub members : (p : ℕ) → is_member g p ≡ nat_lt p (length names)
  pub order : IsOrder (is_member g) (is_ancestor g)
  pub whole : (p q : ℕ) → p < length names → q < length names → Walk (IsRelated g) p q
  pub rates : (p : ℕ) → p < length names → IsRate (rate_of g p)
