-- How a graph is kept: the members as a set, and a row for each place.
use Rattle.std.specs.Prelude.{◌≡◌, ℕ, zero, suc, ◌≤◌, Bool, true, cond, ◌&&◌, ◌||◌, List, length, slice_index_or}
use Rattle.std.specs.Ordering.{nat_cmp}
use Rattle.std.specs.FinSet as set
use Rattle.std.specs.FinMap as map
use Rattle.graphs.specs.Closures.{Node, Closure, IsOrder, no_rate}
use Rattle.bitset.specs.Places.{IsWithin}
use Rattle.dep_graph.specs.declared.rows.Row.{Row}

-- the members below n, each with its node
unfoldable pub graph_where : set.FinSet nat_cmp → (ℕ → Node) → ℕ → Closure
graph_where members node zero = map.empty
graph_where members node (suc n) = cond (set.contains members n) (map.insert (graph_where members node n) n (node n)) (graph_where members node n)

module _ {W : ℕ} where
  -- what is read where there is no row
  abbrev pub no_row : Row W
  no_row = record { rate = no_rate; ancestors = set.empty; descendants = set.empty }

  abbrev pub row_at : List (Row W) → ℕ → Row W
  row_at rows p = slice_index_or rows p no_row

  abbrev pub node_of : Row W → Node
  node_of row = record { rate = row.rate; ancestors = row.ancestors }

  -- whether a row has a place in one of its sets
  abbrev pub holds : Row W → ℕ → Bool
  holds row p = set.contains row.ancestors p || set.contains row.descendants p

  -- the graph of the members, which are below n
  unfoldable pub graph_from : ℕ → set.FinSet nat_cmp → List (Row W) → Closure
  graph_from n members rows = graph_where members (λ p. node_of (row_at rows p)) n

  -- whether a is kept as an ancestor of the member d
  abbrev pub above : set.FinSet nat_cmp → List (Row W) → ℕ → ℕ → Bool
  above members rows a d = set.contains members d && set.contains (row_at rows d).ancestors a

  -- what is kept of the members, which are below n, is an order on them, in both directions
  pub record IsKept (n : ℕ) (members : set.FinSet nat_cmp) (rows : List (Row W)) : Type 0 where
    pub room : length rows ≤ n
    pub there : IsWithin (length rows) members
    pub order : IsOrder (set.contains members) (above members rows)
    pub mirrored : (a d : ℕ) → set.contains members a ≡ true → set.contains (row_at rows a).descendants d ≡ above members rows a d
