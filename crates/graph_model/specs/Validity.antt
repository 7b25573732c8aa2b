-- What holds of every state that the machine reaches.
use Rattle.std.specs.Prelude.{◌≡◌, ◌≢◌, ◌↔◌, ℕ, ℤ, ◌^◌, ◌<◌, ◌≤◌, false, List, [], length, Contains, Option, None, Some}
use Rattle.std.specs.FinMap as finmap
use Rattle.fee_rate.specs.Limits.{IsFee, IsSize}
use Rattle.lists.specs.Distinct.{AreDistinct}
use Rattle.graphs.specs.Graphs.{Graph, HasNoCycle, IsGraph}
use Rattle.graphs.specs.Certificates.{Part}
use Rattle.graphs.specs.Picks.{IsPick}
use Rattle.graphs.specs.Minimal.{AreMinimal}
use Rattle.graph_model.specs.declared.limits.TheConstants.{MAX_BLOCKS}
use Rattle.graph_model.specs.Limits.{Bounds, AreInRange}
use Rattle.graph_model.specs.States.{PlainState, Picks, MinedBlock, State, Table, Entry, IsLive, size_of, rate_of}
use Rattle.graph_model.specs.Oversize.{HasOver}
use Rattle.graph_model.specs.Changes.{IsKept, ids_of}

-- a graph of 64-bit names, of which no component is over the limits where no dependency may pass them
pub record IsLevel (state : PlainState) (graph : Graph) : Type 0 where
  pub whole : IsGraph graph
  pub names : (id : ℕ) → Contains graph.names id → id < 2 ^ 64
  pub within : state.limits.defer ≡ false → HasOver state.limits (size_of state.table) graph → ⊥

-- staging, where there is one, is such a level
abbrev pub IsStaging : PlainState → Option Graph → Type 0
IsStaging state None = Unit {0}
IsStaging state (Some graph) = IsLevel state graph

-- A block keeps 64-bit names, each once and at least one, with fees and sizes in range; each parent of its pairs is one of them, and no walk
-- of one pair or more leads from a name to itself.
pub record IsKeptBlock (block : MinedBlock) : Type 0 where
  pub some : block.txs ≢ []
  pub once : AreDistinct (ids_of block.txs)
  pub names : (id : ℕ) → Contains (ids_of block.txs) id → id < 2 ^ 64
  pub rates : (id : ℕ) (fee : ℤ) (size : ℕ) → Contains block.txs (id, fee, size) → IsFee fee × IsSize size
  pub parents : (a b : ℕ) → Contains block.pairs (a, b) → Contains (ids_of block.txs) a
  pub acyclic : HasNoCycle block.pairs

-- The limits are in range; each level is a graph, within them where no dependency may pass them; the table has exactly the names of the
-- levels, at most as many as may be live, with fees and sizes in range; and where no change was accepted there is no name, no staging and
-- no block.
pub record IsValid (state : PlainState) : Type 0 where
  pub limits : AreInRange state.most state.limits
  pub main : IsLevel state state.main
  pub staging : IsStaging state state.staging
  pub live : (id : ℕ) → IsLive state id ↔ IsKept state id
  pub few : finmap.len state.table ≤ state.limits.total
  pub rates : (id : ℕ) (entry : Entry) → finmap.get state.table id ≡ Some entry → IsFee entry.fee × IsSize entry.size
  pub blocks : (block : MinedBlock) → Contains state.blocks block → IsKeptBlock block
  pub block_count : length state.blocks ≤ MAX_BLOCKS
  pub fresh : state.begun ≡ false → (state.main.names ≡ []) × (state.staging ≡ None) × (state.blocks ≡ [])

-- A graph has a pick exactly where none of its components is over the limits. No part of the pick can be cut further.
abbrev pub IsPickOf : Bounds → Table → Graph → Option (List Part) → Type 0
IsPickOf bounds table graph None = HasOver bounds (size_of table) graph
IsPickOf bounds table graph (Some pick) =
    (HasOver bounds (size_of table) graph → ⊥) × IsPick (rate_of table) graph pick × AreMinimal (rate_of table) graph.pairs pick

-- the same of a staging, where there is one
abbrev pub IsStagingPick : Bounds → Table → Option Graph → Option (Option (List Part)) → Type 0
IsStagingPick bounds table None None = Unit {0}
IsStagingPick bounds table (Some graph) (Some pick) = IsPickOf bounds table graph pick
IsStagingPick bounds table None (Some pick) = ⊥
IsStagingPick bounds table (Some graph) None = ⊥

-- each level that isn't oversized has a pick, and no other level
pub record ArePicks (state : PlainState) (picks : Picks) : Type 0 where
  pub main : IsPickOf state.limits state.table state.main picks.main
  pub staging : IsStagingPick state.limits state.table state.staging picks.staging

pub record IsValidState (state : State) : Type 0 where
  pub plain : IsValid state.plain
  pub picks : ArePicks state.plain state.picks
