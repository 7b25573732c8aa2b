-- A dumped graph can be loaded, and an accepted text is the dump of the graph that it makes.
use Rattle.std.specs.Prelude.{◌≡◌, ◌↔◌, ℕ, ℤ, ◌≤◌, List, Contains}
use Rattle.graphs.specs.Graphs.{Graph, AreConnected}
use Rattle.graphs.specs.Alikes.{AreAlike}
use Rattle.graphs.specs.Certificates.{rate_in}
use Rattle.graphs.specs.Diagrams.{AreCorners}
use Rattle.graph_model.specs.Limits.{Bounds}
use Rattle.graph_model.specs.States.{PlainState, Table, size_of, rate_of}
use Rattle.graph_model.specs.Changes.{HasTxs}
use Rattle.graph_model.specs.Validity.{IsValid}
use Rattle.graph_model.specs.Dumps.{DumpText, IsDump, IsGraphText, dump_bytes, Dumps, LoadFinding, Loads, FindsLoad, loaded_graph}

-- The text of main, where no size is over that of a cluster, passes all tests under the same limits, and makes a graph with the same names,
-- sums and ancestors, and so with the same components and corners. The other way round, a text that is written of some graph is the text of
-- the graph that it makes, by each table that has its transactions. A graph has one text, bytes are the spelling of one text at most, and one
-- thing is found of them.
pub record DumpsLoad : Type 0 where
  pub passes : (state : PlainState) (text : DumpText) → IsValid state → IsDump state.table state.main text
      → ((id : ℕ) → Contains state.main.names id → size_of state.table id ≤ state.limits.size) → FindsLoad state.limits (dump_bytes text) (Loads text)
  pub alike : (state : PlainState) (text : DumpText) → IsValid state → IsDump state.table state.main text
      → AreAlike (rate_of state.table) state.main (rate_in text.txs) (loaded_graph text)
  pub components : (state : PlainState) (text : DumpText) → IsValid state → IsDump state.table state.main text
      → (x y : ℕ) → AreConnected state.main.pairs x y ↔ AreConnected (loaded_graph text).pairs x y
  pub corners : (state : PlainState) (text : DumpText) → IsValid state → IsDump state.table state.main text
      → (points : List (ℕ × ℤ)) → AreCorners (rate_of state.table) state.main points ↔ AreCorners (rate_in text.txs) (loaded_graph text) points
  pub back : (table : Table) (text : DumpText) → IsGraphText text → HasTxs table text.txs → IsDump table (loaded_graph text) text
  pub one_text : (table : Table) (graph : Graph) (a b : DumpText) → IsDump table graph a → IsDump table graph b → a ≡ b
  pub one_reading : (bytes : List ℕ) (a b : DumpText) → Dumps bytes a → Dumps bytes b → a ≡ b
  pub one_finding : (bounds : Bounds) (bytes : List ℕ) (a b : LoadFinding) → FindsLoad bounds bytes a → FindsLoad bounds bytes b → a ≡ b
