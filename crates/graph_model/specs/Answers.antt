-- The answers of accepted commands, read off the state before the command. Fees are in satoshis, sizes in virtual bytes.
use Rattle.std.specs.Prelude.{◌≡◌, ◌↔◌, ℕ, ℤ, List, map, flat_map, length, Contains, Some}
use Rattle.graphs.specs.declared.names.Verdict.{Verdict}
use Rattle.graph_model.specs.declared.names.Place.{Place}
use Rattle.graph_model.specs.declared.names.Place.TheVariants.{Before, Same, After}
use Rattle.graphs.specs.declared.names.Level.TheVariants.{Main, Top}
use Rattle.graphs.specs.Graphs.{Graph, IsAncestor, AreConnected, IsCover, Lists}
use Rattle.graphs.specs.Rates.{sum_of, sums}
use Rattle.graphs.specs.Linearizations.{StandsBefore}
use Rattle.graphs.specs.Certificates.{Part}
use Rattle.graphs.specs.Diagrams.{AreCorners}
use Rattle.graphs.specs.Picks.{FollowOrder}
use Rattle.graph_model.specs.States.{PlainState, Table, Picks, level_of, pick_of, rate_of}
use Rattle.graph_model.specs.Commands.{Command, Evict, Settle, Compare, Trim, Unmine, Order, Diagram, Proof, Cluster, Ancestors, Descendants, Chunk, Block, Count, Dump}
use Rattle.graph_model.specs.Commands as commands
use Rattle.graph_model.specs.Changes.{IsLast}
use Rattle.graph_model.specs.Refusals.{latest_ids}
use Rattle.graph_model.specs.Trims.{IsTrimmed}
use Rattle.graph_model.specs.Dumps.{DumpText, IsDump}
use Rattle.graph_model.specs.Verdicts.{VerdictIs}
use Rattle.graph_model.specs.Blocks.{IsBlock}
use Rattle.graph_model.specs.Texts.{Text}
use Rattle.graph_model.specs.Replies.{Reply, Done, Ids, Number, Parts, Points, Proves, OnePart, Stands, Compared, Settled, Evicted, Built, Trimmed, Unmined, Dumped}

-- The names of parts, in their order.
abbrev pub order_of : List Part → List ℕ
order_of parts = flat_map (λ part. part.ids) parts

-- The covering pairs (parent, child) of a graph: for each child, in the order, its covering parents in the order.
pub record ListsCovers (graph : Graph) (order : List ℕ) (edges : List (ℕ × ℕ)) : Type 0 where
  pub exact : (parent child : ℕ) → Contains edges (parent, child) ↔ IsCover graph.pairs parent child
  pub in_order : FollowOrder order (map (λ edge. (edge.1, edge.0)) edges)

-- The certificate text of an order: the names with their fees and sizes, the covering pairs, and the parts with their flows.
pub record ProvesOrder (table : Table) (graph : Graph) (pick : List Part) (text : Text) : Type 0 where
  pub txs : text.txs ≡ map (λ id. (id, (rate_of table id).fee, (rate_of table id).size)) (order_of pick)
  pub edges : ListsCovers graph (order_of pick) text.edges
  pub parts : text.parts ≡ pick

-- Where one name stands to another in an order.
abbrev pub StandsTo : List ℕ → ℕ → ℕ → Place → Type 0
StandsTo order a b Before = StandsBefore order a b
StandsTo order a b Same = a ≡ b
StandsTo order a b After = StandsBefore order b a

-- The answer of an accepted command, where the levels have these picks. A command that reads a pick is answered only where there is one.
-- Changes without an answer of their own are answered `Done`.
abbrev pub Answers : Picks → PlainState → Command → Reply → Type 0
Answers picks state Evict reply =
    (pick : List Part) × (part : Part) × (pick_of picks Main ≡ Some pick) × IsLast pick part × (reply ≡ Evicted part.rate part.ids)
Answers picks state Settle reply = (verdict : Verdict) × VerdictIs state verdict × (reply ≡ Settled verdict)
Answers picks state Compare reply = (verdict : Verdict) × VerdictIs state verdict × (reply ≡ Compared verdict)
Answers picks state Trim reply =
    (ids : List ℕ) × IsTrimmed state.limits (rate_of state.table) (level_of state Top) ids × (reply ≡ Trimmed (sums (rate_of state.table) ids) ids)
Answers picks state Unmine reply = reply ≡ Unmined (latest_ids state.blocks)
Answers picks state (Order level) reply = (pick : List Part) × (pick_of picks level ≡ Some pick) × (reply ≡ Parts pick)
Answers picks state (Diagram level) reply =
    (points : List (ℕ × ℤ)) × AreCorners (rate_of state.table) (level_of state level) points × (reply ≡ Points points)
Answers picks state (Proof level) reply =
    (pick : List Part) × (text : Text) × (pick_of picks level ≡ Some pick) × ProvesOrder state.table (level_of state level) pick text
    × (reply ≡ Proves text)
Answers picks state (Cluster id level) reply =
    (ids : List ℕ) × Lists (AreConnected (level_of state level).pairs id) ids × (reply ≡ Ids ids)
Answers picks state (Ancestors id level) reply =
    (ids : List ℕ) × Lists (λ a. IsAncestor (level_of state level).pairs a id) ids × (reply ≡ Ids ids)
Answers picks state (Descendants id level) reply =
    (ids : List ℕ) × Lists (λ d. IsAncestor (level_of state level).pairs id d) ids × (reply ≡ Ids ids)
Answers picks state (Chunk id) reply =
    (pick : List Part) × (part : Part) × (pick_of picks Main ≡ Some pick) × Contains pick part × Contains part.ids id × (reply ≡ OnePart part)
Answers picks state (commands.Before a b) reply =
    (pick : List Part) × (place : Place) × (pick_of picks Main ≡ Some pick) × StandsTo (order_of pick) a b place × (reply ≡ Stands place)
Answers picks state (Block size) reply =
    (pick : List Part) × (taken : List Part) × (pick_of picks Main ≡ Some pick) × IsBlock state.main pick size taken
    × (reply ≡ Built (sum_of (map (λ part. part.rate) taken)) (order_of taken))
Answers picks state (Count level) reply = reply ≡ Number (length (level_of state level).names)
Answers picks state Dump reply = (text : DumpText) × IsDump state.table state.main text × (reply ≡ Dumped text)
Answers picks state change reply = reply ≡ Done
