-- Certificates: parts with flows that show by themselves that the order of the parts is optimal.
--
-- A name's weight in a part says how far the name pays more than its share: the part's size times the name's fee, less the part's fee
-- times the name's size, in satoshis times virtual bytes. A flow gives an amount from a child to a parent, and flows balance a part where
-- each name gives its weight more than it gets. A set closed within the part has the parents of its members, so no flow leaves the set.
-- What comes in makes up for weight that the set lacks. So the set's weight is at most 0, and its rate is at most the part's rate.
-- Balanced flows of this kind solve the maximum closure problem at the part's own rate.
use Rattle.std.specs.Prelude.{◌≡◌, ◌≢◌, ℕ, ◌==◌, if◌then◌else◌, ◌≤◌, ℤ, pos, ◌-ℤ◌, ◌*ℤ◌, List, [], ◌∷◌, map, flat_map, sum_by, length, Contains}
use Rattle.lists.specs.Distinct.{AreDistinct}
use Rattle.fee_rate.specs.declared.limits.TheConstants.{MAX_TOTAL}
use Rattle.fee_rate.specs.declared.rates.Sum.{Sum}
use Rattle.graphs.specs.declared.names.Flow.{Flow}
use Rattle.fee_rate.specs.Limits.{IsFee, IsSize}
use Rattle.graphs.specs.Graphs.{Graph, IsGraph}
use Rattle.graphs.specs.Rates.{sums, Falls}
use Rattle.graphs.specs.Linearizations.{IsTopological, IsTogether}

-- A part of an order: its fee and size, its names in their order, and the flows that certify the part.
pub record Part : Type 0 where
  pub rate : Sum
  pub ids : List ℕ
  pub flows : List Flow

-- The amounts that a name gives to its parents, and gets from its children.
abbrev pub given : List Flow → ℕ → ℕ
given flows id = sum_by (λ flow. if flow.child == id then flow.amount else 0) flows

abbrev pub gotten : List Flow → ℕ → ℕ
gotten flows id = sum_by (λ flow. if flow.parent == id then flow.amount else 0) flows

-- The weight of a name in a whole: how far the name's rate is above that of the whole, times both sizes.
abbrev pub weight_in : Sum → Sum → ℤ
weight_in whole own = (own.fee *ℤ pos whole.size) -ℤ (whole.fee *ℤ pos own.size)

-- Flows certify a part over links (parent, child): no two flows have the same ends, each flow is along a link inside the part, each
-- amount is at least 1, and each name gives its weight more than it gets.
pub record Certifies (rate : ℕ → Sum) (IsLink : ℕ → ℕ → Type 0) (ids : List ℕ) (flows : List Flow) : Type 0 where
  pub once : AreDistinct {A = ℕ × ℕ} (map (λ flow. (flow.child, flow.parent)) flows)
  pub links : (flow : Flow) → Contains flows flow → IsLink flow.parent flow.child
  pub inside : (flow : Flow) → Contains flows flow → Contains ids flow.child × Contains ids flow.parent
  pub some : (flow : Flow) → Contains flows flow → 1 ≤ flow.amount
  pub balanced : (id : ℕ) → Contains ids id → weight_in (sums rate ids) (rate id) ≡ pos (given flows id) -ℤ pos (gotten flows id)

-- The names of the parts are a linearization, and each part lies in one component.
pub record HasOrder (graph : Graph) (parts : List Part) : Type 0 where
  pub topological : IsTopological graph (flat_map (λ part. part.ids) parts)
  pub together : (part : Part) → Contains parts part → IsTogether graph.pairs part.ids

-- Each part's fee and size are the sums over its names, and no part has a greater rate than the one before it.
pub record HasFalling (rate : ℕ → Sum) (parts : List Part) : Type 0 where
  pub summed : (part : Part) → Contains parts part → part.rate ≡ sums rate part.ids
  pub falling : Falls (map (λ part. part.rate) parts)

-- The flows of each part certify it.
abbrev pub HasFlows : (ℕ → Sum) → (ℕ → ℕ → Type 0) → List Part → Type 0
HasFlows rate IsLink parts = (part : Part) → Contains parts part → Certifies rate IsLink part.ids part.flows

-- A certificate of a graph: an order in parts of falling rate, each certified by its flows. Flows go along the covering pairs of the graph,
-- or along any of its pairs, as `IsLink` says.
pub record IsCertificate (rate : ℕ → Sum) (graph : Graph) (IsLink : ℕ → ℕ → Type 0) (parts : List Part) : Type 0 where
  pub filled : (part : Part) → Contains parts part → part.ids ≢ []
  pub order : HasOrder graph parts
  pub falling : HasFalling rate parts
  pub flows : HasFlows rate IsLink parts

-- Transactions as written, each a name, a fee and a size.
abbrev pub Txs : Type 0
Txs = List (ℕ × ℤ × ℕ)

-- The graph that transactions and edges (parent, child) make.
abbrev pub graph_of : Txs → List (ℕ × ℕ) → Graph
graph_of txs edges = record { names = map (λ tx. tx.0) txs; pairs = edges }

-- The fee and the size of a name, by the first transaction of that name.
abbrev pub rate_in : Txs → ℕ → Sum
rate_in [] id = record { fee = pos 0; size = 0 }
rate_in (tx ∷ txs) id = if tx.0 == id then record { fee = tx.1; size = tx.2 } else rate_in txs id

-- The written transactions and edges are a graph within the limits.
pub record HasGraph (txs : Txs) (edges : List (ℕ × ℕ)) : Type 0 where
  pub few : length txs ≤ MAX_TOTAL
  pub limits : (id : ℕ) (fee : ℤ) (size : ℕ) → Contains txs (id, fee, size) → IsFee fee × IsSize size
  pub graph : IsGraph (graph_of txs edges)

-- The answer to written parts with flows: they certify the graph, or the first test that fails.
pub data Finding : Type 0 where
  Certified : Finding
  NoGraph : Finding
  NoOrder : Finding
  NoFalling : Finding
  NoFlow : Finding

abbrev pub Finds : Txs → List (ℕ × ℕ) → List Part → Finding → Type 0
Finds txs edges parts Certified =
    HasGraph txs edges × HasOrder (graph_of txs edges) parts × HasFalling (rate_in txs) parts
    × HasFlows (rate_in txs) (λ parent child. Contains edges (parent, child)) parts
Finds txs edges parts NoGraph = HasGraph txs edges → ⊥
Finds txs edges parts NoOrder = HasGraph txs edges × (HasOrder (graph_of txs edges) parts → ⊥)
Finds txs edges parts NoFalling =
    HasGraph txs edges × HasOrder (graph_of txs edges) parts × (HasFalling (rate_in txs) parts → ⊥)
Finds txs edges parts NoFlow =
    HasGraph txs edges × HasOrder (graph_of txs edges) parts × HasFalling (rate_in txs) parts
    × (HasFlows (rate_in txs) (λ parent child. Contains edges (parent, child)) parts → ⊥)
