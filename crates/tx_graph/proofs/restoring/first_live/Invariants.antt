-- none so far is live, and their names are of 64 bits
use Rattle.std.proofs.Common.{ℕ, ◌^◌, ◌<◌, Contains, take}
use Rattle.graph_model.specs.Changes.{ids_of}
use Rattle.levels.specs.Levels.{IsLive}
use Rattle.tx_graph.proofs.restoring.first_live.Given as goal

abbrev pub invariant-loop-tx : goal.invariant-loop-tx
invariant-loop-tx g l = record {
  none : (id : ℕ) → Contains (ids_of (take l.tx-index l.txs)) id → IsLive l.levels id → ⊥;
  small : (id : ℕ) → Contains (ids_of (take l.tx-index l.txs)) id → id < 2 ^ 64;
}
