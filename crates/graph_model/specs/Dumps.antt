-- Dumps: one text for each graph, which can be loaded again. A text is lines of transactions, then of edges, then `end`.
use Rattle.std.specs.Prelude.{◌≡◌, ◌↔◌, ◌⊎◌, ℕ, ℤ, ◌^◌, ◌<◌, ◌≤◌, false, FitsSigned, List, [], ◌∷◌, ◌++◌, map, flat_map, length, codes, All, Contains}
use Rattle.std.specs.Int.{w64}
use Rattle.std.specs.List.Sorted.{IsStrictlyIncreasing}
use Rattle.fee_rate.specs.Limits.{IsFee, IsSize}
use Rattle.graphs.specs.Graphs.{Graph, IsCover, HasNoCycle, Lists}
use Rattle.graphs.specs.Certificates.{Txs, graph_of, rate_in}
use Rattle.graphs.specs.Merges.{Precedes}
use Rattle.graph_model.specs.Limits.{Bounds}
use Rattle.graph_model.specs.States.{Table, rate_of}
use Rattle.graph_model.specs.Changes.{ids_of}
use Rattle.graph_model.specs.Oversize.{HasOver}
use Rattle.graph_model.specs.Words.{line_text}
use Rattle.graph_model.specs.Texts.{tx_line, edge_line}

-- transactions, and edges (parent, child)
pub record DumpText : Type 0 where
  pub txs : Txs
  pub edges : List (ℕ × ℕ)

abbrev pub dump_lines : DumpText → List (List ℕ)
dump_lines text = map (λ tx. tx_line tx.0 tx.1 tx.2) text.txs ++ map (λ edge. edge_line edge.0 edge.1) text.edges ++ codes "end" ∷ []

-- the one spelling of a text
abbrev pub dump_bytes : DumpText → List ℕ
dump_bytes text = flat_map line_text (dump_lines text)

-- of two edges, the one with the lesser child, or with the same child and the lesser parent, stands first, and none stands twice
abbrev pub EdgesRise : List (ℕ × ℕ) → Type 0
EdgesRise edges = (a b : ℕ × ℕ) → Precedes edges a b → (a.1 < b.1) ⊎ ((a.1 ≡ b.1) × (a.0 < b.0))

-- The text of a graph: its names in rising order with their fees and sizes, and its covering pairs, rising by child and then by parent.
pub record IsDump (table : Table) (graph : Graph) (text : DumpText) : Type 0 where
  pub names : Lists (Contains graph.names) (ids_of text.txs)
  pub sums : text.txs ≡ map (λ id. (id, (rate_of table id).fee, (rate_of table id).size)) (ids_of text.txs)
  pub covers : (parent child : ℕ) → Contains text.edges (parent, child) ↔ IsCover graph.pairs parent child
  pub rising : EdgesRise text.edges

-- a text's numbers are of their types
pub record HasDumpTypes (text : DumpText) : Type 0 where
  pub txs : All (λ tx. (tx.0 < 2 ^ 64) × FitsSigned w64 tx.1 × (tx.2 < 2 ^ 64)) text.txs
  pub edges : All (λ edge. (edge.0 < 2 ^ 64) × (edge.1 < 2 ^ 64)) text.edges

-- the bytes are the spelling of the text
abbrev pub Dumps : List ℕ → DumpText → Type 0
Dumps bytes text = (bytes ≡ dump_bytes text) × HasDumpTypes text

-- What is written is the text of a graph: names rise, with fees and sizes in range; edges rise, are of these names, make no cycle, and are
-- covering pairs of the graph that they make.
pub record IsGraphText (text : DumpText) : Type 0 where
  pub names : IsStrictlyIncreasing (ids_of text.txs)
  pub rates : (id : ℕ) (fee : ℤ) (size : ℕ) → Contains text.txs (id, fee, size) → IsFee fee × IsSize size
  pub ends : (parent child : ℕ) → Contains text.edges (parent, child) → Contains (ids_of text.txs) parent × Contains (ids_of text.txs) child
  pub rising : EdgesRise text.edges
  pub acyclic : HasNoCycle text.edges
  pub covers : (parent child : ℕ) → Contains text.edges (parent, child) → IsCover text.edges parent child

-- the graph that a text makes
abbrev pub loaded_graph : DumpText → Graph
loaded_graph text = graph_of text.txs text.edges

-- the graph fits the limits: few enough names, no size over that of a cluster, and, where no dependency may pass them, no component over them
pub record FitsBounds (bounds : Bounds) (text : DumpText) : Type 0 where
  pub few : length text.txs ≤ bounds.total
  pub sizes : (id : ℕ) (fee : ℤ) (size : ℕ) → Contains text.txs (id, fee, size) → size ≤ bounds.size
  pub within : bounds.defer ≡ false → HasOver bounds (λ id. (rate_in text.txs id).size) (loaded_graph text) → ⊥

-- what is found of bytes that are to be loaded: a text that passes all tests, or the first test that fails
pub data LoadFinding : Type 0 where
  Loads : (text : DumpText) → LoadFinding
  NoSyntax : LoadFinding
  NoGraph : LoadFinding
  NoLimits : LoadFinding

abbrev pub FindsLoad : Bounds → List ℕ → LoadFinding → Type 0
FindsLoad bounds bytes (Loads text) = Dumps bytes text × IsGraphText text × FitsBounds bounds text
FindsLoad bounds bytes NoSyntax = (text : DumpText) → Dumps bytes text → ⊥
FindsLoad bounds bytes NoGraph = (text : DumpText) × Dumps bytes text × (IsGraphText text → ⊥)
FindsLoad bounds bytes NoLimits = (text : DumpText) × Dumps bytes text × IsGraphText text × (FitsBounds bounds text → ⊥)
