-- Replies that go out line by line.
use Rattle.std.specs.Prelude.{◌≡◌, ℕ, List, [], ◌∷◌, ◌++◌, map, flat_map, codes}
use Rattle.std.specs.declared.option.Option.{Option}
use Rattle.std.specs.declared.result.Result.{Result}
use Rattle.graphs.specs.Closures.{Closure, rate_of, IsCover}
use Rattle.cluster.specs.Clusters.{Cluster}
use Rattle.cluster.specs.Covers.{ListsInOrder}
use Rattle.cluster_store.specs.Lent.{lent}
use Rattle.graph_model.specs.Replies.{point_line}
use Rattle.graph_model.specs.Words.{line_text}
use Rattle.graph_model.specs.Texts.{tx_line, edge_line, chunk_line, flow_line}
use Rattle.wire.specs.Pieces.{GoesOn}
use Rattle.levels.specs.Orders.{ListsCovers}
use Rattle.replay.specs.declared.writing.Line.{Line}
use Rattle.replay.specs.declared.writing.Line.TheVariants as written

-- the bytes of a line, without its line feed
abbrev pub line_of : Line → List ℕ
line_of (written.Tx id rate) = tx_line id rate.fee rate.size
line_of (written.Edge parent child) = edge_line parent child
line_of (written.Chunk part) = chunk_line (lent part)
line_of (written.Flow flow) = flow_line flow
line_of (written.Point size fee) = point_line (size, fee)
line_of written.End = codes "end"

-- the next lines are written where all so far was, and else nothing happens
abbrev pub GoesOnLines : {T E : Type 0} → Result T E → Option (List ℕ) → Option (List ℕ) → ℕ → ℕ → Result T E → List (List ℕ) → Type 0
GoesOnLines so_far old new before now result lines = GoesOn so_far old new before now result (flat_map line_text lines)

-- the line of a transaction by its name
abbrev pub tx_line_of : Closure → ℕ → List ℕ
tx_line_of graph id = tx_line id (rate_of graph id).fee (rate_of graph id).size

abbrev pub edges_lines : List (ℕ × ℕ) → List (List ℕ)
edges_lines edges = map (λ edge. edge_line edge.0 edge.1) edges

-- The edges are, for each of some children in turn, those from its parents, of which a property holds.
abbrev pub ListsBy : (ℕ → List ℕ → Type 0) → List ℕ → List (ℕ × ℕ) → Type 0
ListsBy P [] edges = edges ≡ []
ListsBy P (child ∷ children) edges =
    (parents : List ℕ) × (rest : List (ℕ × ℕ)) × P child parents × ListsBy P children rest × (edges ≡ map (λ parent. (parent, child)) parents ++ rest)

-- The parents are those with nothing between, as these stand in an order.
abbrev pub ListsEach : Closure → List ℕ → List ℕ → List (ℕ × ℕ) → Type 0
ListsEach graph order = ListsBy (ListsCovers graph order)

-- The same for children of a cluster, in its order.
abbrev pub ListsOwn : Cluster → List ℕ → List (ℕ × ℕ) → Type 0
ListsOwn c = ListsBy (λ child parents. ListsInOrder (λ a. IsCover c.graph a child) (flat_map (λ part. part.ids) c.parts) parents)
