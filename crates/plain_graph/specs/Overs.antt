-- Plain graphs over their limits.
use Rattle.std.specs.Prelude.{◌≡◌, ◌↔◌, ℕ, Bool, true, List, Contains, IsTrue, Option}
use Rattle.graphs.specs.Graphs.{Graph}
use Rattle.graph_model.specs.declared.names.Limits.{Limits}
use Rattle.graph_model.specs.declared.names.Refusal.{Refusal}
use Rattle.graph_model.specs.Limits.{bounds_of}
use Rattle.graph_model.specs.Oversize.{HasOver}
use Rattle.graph_model.specs.Refusals.{NameRow}
use Rattle.plain_graph.specs.declared.tx.Tx.{Tx}
use Rattle.plain_graph.specs.Plain.{Kept, sizes_in}
use Rattle.plain_graph.specs.Sound.{names_of, IsSound}

-- transactions and pairs as a graph
abbrev pub graph_of : List Tx → List (ℕ × ℕ) → Graph
graph_of txs pairs = record { names = names_of txs; pairs = pairs }

-- pairs may bring a component over the limits, and one is over them
abbrev pub IsOver : Limits → List Tx → List (ℕ × ℕ) → Type 0
IsOver set txs pairs = (set.defer ≡ true) × HasOver (bounds_of set) (sizes_in txs) (graph_of txs pairs)

-- The fields are sound, and it is noted whether a component is over the limits.
pub record IsRight (set : Limits) (txs : List Tx) (pairs : List (ℕ × ℕ)) (places : ℕ) (over : Bool) : Type 0 where
  pub sound : IsSound set txs pairs places
  pub noted : IsTrue over ↔ IsOver set txs pairs

-- the refusal that a reading of a name meets
abbrev pub WalkRefusalIs : Kept → ℕ → Option Refusal → Type 0
WalkRefusalIs kept id = NameRow (Contains (names_of kept.txs) id → ⊥) (IsOver kept.limits kept.txs kept.pairs) id
