-- Linearizations: orders of a graph in which parents stand before their children, cut into parts of falling rate. Bitcoin Core's
-- `cluster_linearize.h` and the cluster mempool posts of Wuille and Daftuar call such a part a chunk.
use Rattle.std.specs.Prelude.{◌≡◌, ◌≢◌, ◌↔◌, ℕ, ◌+◌, ◌≤◌, pos, ◌-ℤ◌, ◌*ℤ◌, ◌≤ℤ◌, List, [], ◌∷◌, ◌++◌, map, flat_map, Contains}
use Rattle.lists.specs.Distinct.{AreDistinct}
use Rattle.fee_rate.specs.declared.rates.Sum.{Sum}
use Rattle.fee_rate.specs.Rates.{AtMost}
use Rattle.graphs.specs.Graphs.{Graph, AreConnected}
use Rattle.graphs.specs.Rates.{sum_of, sums, Falls}

-- A set closed within a part: names of the part, each once, with each of their parents that is in the part. Within all names of a graph
-- this is a closed set, which Core calls topologically valid.
pub record IsClosedWithin (pairs : List (ℕ × ℕ)) (part set : List ℕ) : Type 0 where
  pub once : AreDistinct set
  pub inside : (id : ℕ) → Contains set id → Contains part id
  pub parents : (parent child : ℕ) → Contains pairs (parent, child) → Contains part parent → Contains set child → Contains set parent

-- No set closed within the part has a greater rate than the part.
abbrev pub IsFlat : (ℕ → Sum) → List (ℕ × ℕ) → List ℕ → Type 0
IsFlat rate pairs part = (set : List ℕ) → IsClosedWithin pairs part set → AtMost (sums rate set) (sums rate part)

-- a stands before b in the order.
abbrev pub StandsBefore : List ℕ → ℕ → ℕ → Type 0
StandsBefore order a b = (front rest : List ℕ) × (order ≡ front ++ b ∷ rest) × Contains front a

-- A linearization: all names of the graph, each once, every parent before its children.
pub record IsTopological (graph : Graph) (order : List ℕ) : Type 0 where
  pub once : AreDistinct order
  pub names : (id : ℕ) → Contains order id ↔ Contains graph.names id
  pub parents_first : (parent child : ℕ) → Contains graph.pairs (parent, child) → StandsBefore order parent child

-- Any two names of the part are in one component.
abbrev pub IsTogether : List (ℕ × ℕ) → List ℕ → Type 0
IsTogether pairs part = (a b : ℕ) → Contains part a → Contains part b → AreConnected pairs a b

-- Chunks: no part is empty, rates fall, each part lies in one component, and no front of a part has a greater rate than the part.
pub record AreChunks (rate : ℕ → Sum) (pairs : List (ℕ × ℕ)) (parts : List (List ℕ)) : Type 0 where
  pub filled : (part : List ℕ) → Contains parts part → part ≢ []
  pub falling : Falls (map (sums rate) parts)
  pub fronts : (part front rest : List ℕ) → Contains parts part → part ≡ front ++ rest → front ≢ [] → AtMost (sums rate front) (sums rate part)
  pub together : (part : List ℕ) → Contains parts part → IsTogether pairs part

-- A point (a size and a fee) is on or below the line that starts at `origin` and rises by the rate of `part`.
abbrev pub IsUnderLine : Sum → Sum → Sum → Type 0
IsUnderLine origin part point = ((point.fee -ℤ origin.fee) *ℤ pos part.size) ≤ℤ (part.fee *ℤ (pos point.size -ℤ pos origin.size))

-- A point is on or below the diagram of parts: on or below the line of each part whose range of sizes has the point's size. Of sizes past
-- the total nothing is asked.
pub record IsUnderDiagram (parts : List Sum) (point : Sum) : Type 0 where
  pub lines : (before after : List Sum) (part : Sum) → parts ≡ before ++ part ∷ after
      → (sum_of before).size ≤ point.size → point.size ≤ (sum_of before).size + part.size → IsUnderLine (sum_of before) part point
  pub none : parts ≡ [] → point.fee ≤ℤ pos 0

-- An optimal order: no front of any linearization of the graph lies above this order's diagram.
pub record IsOptimal (rate : ℕ → Sum) (graph : Graph) (parts : List (List ℕ)) : Type 0 where
  pub order : IsTopological graph (flat_map (λ part. part) parts)
  pub chunks : AreChunks rate graph.pairs parts
  pub best : (front rest : List ℕ) → IsTopological graph (front ++ rest) → IsUnderDiagram (map (sums rate) parts) (sums rate front)
