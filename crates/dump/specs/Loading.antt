-- What loading a text answers.
use Rattle.std.specs.Prelude.{◌≡◌, ℕ, ℤ, ◌≤◌, List, length, Contains, Result, Ok, Err}
use Rattle.graphs.specs.Certificates.{Txs}
use Rattle.graph_model.specs.Dumps.{DumpText, FindsLoad, FitsBounds, Loads, NoGraph, NoLimits, NoSyntax}
use Rattle.graph_model.specs.Limits.{Bounds}
use Rattle.graph_model.specs.Loads.{LoadsTo}
use Rattle.graph_model.specs.States.{State}
use Rattle.tx_graph.specs.Kept.{Kept, StandsFor}
use Rattle.dump_text.specs.declared.fault.LoadFault.{LoadFault}
use Rattle.dump_text.specs.declared.fault.LoadFault.TheVariants as faults

-- there are few enough transactions, and none is larger than a cluster may be
pub record AreSmall (bounds : Bounds) (txs : Txs) : Type 0 where
  pub few : length txs ≤ bounds.total
  pub sizes : (id : ℕ) (fee : ℤ) (size : ℕ) → Contains txs (id, fee, size) → size ≤ bounds.size

-- The graph stands for a state that the text makes under these limits, and has counted the text's transactions as additions.
abbrev pub IsMadeOf : ℕ → Bounds → DumpText → Kept → Type 0
IsMadeOf most bounds text kept = (state : State) × LoadsTo most bounds text state × StandsFor kept state × (kept.levels.issued ≡ length text.txs)

-- The text fits the limits, and the graph is made of it.
abbrev pub FitsAndIsMade : ℕ → Bounds → DumpText → Kept → Type 0
FitsAndIsMade most bounds text kept = FitsBounds bounds text × IsMadeOf most bounds text kept

-- why a graph's text makes no graph: it doesn't fit the limits, or there was no memory
abbrev pub MakesNone : Bounds → DumpText → LoadFault → Type 0
MakesNone bounds text faults.Syntax = ⊥
MakesNone bounds text faults.Graph = ⊥
MakesNone bounds text faults.Limits = FitsBounds bounds text → ⊥
MakesNone bounds text faults.Memory = Unit {0}

-- What is found of the bytes is answered: a graph that their text makes, or the first test that they fail. Want of memory may come before any.
abbrev pub LoadGives : ℕ → Bounds → List ℕ → Result Kept LoadFault → Type 0
LoadGives most bounds bytes (Ok kept) =
    (text : DumpText) × (state : State) × FindsLoad bounds bytes (Loads text) × LoadsTo most bounds text state × StandsFor kept state
    × (kept.levels.issued ≡ length text.txs)
LoadGives most bounds bytes (Err faults.Syntax) = FindsLoad bounds bytes NoSyntax
LoadGives most bounds bytes (Err faults.Graph) = FindsLoad bounds bytes NoGraph
LoadGives most bounds bytes (Err faults.Limits) = FindsLoad bounds bytes NoLimits
LoadGives most bounds bytes (Err faults.Memory) = Unit {0}
