-- The blocks that are kept, and what a block takes out of main.
use Rattle.std.specs.Prelude.{◌≡◌, ◌≢◌, ◌↔◌, ℕ, ℤ, ◌≤◌, true, List, map, length, Contains, ◌⊎◌, None, Some, Ok, Err}
use Rattle.std.specs.declared.result.Result.{Result}
use Rattle.graphs.specs.Certificates.{Txs}
use Rattle.graphs.specs.Closures.{Closure, is_member, is_ancestor, rate_of}
use Rattle.graphs.specs.Graphs.{IsAncestor}
use Rattle.graph_model.specs.declared.limits.TheConstants.{MAX_BLOCKS}
use Rattle.graph_model.specs.declared.names.Refusal.{Refusal}
use Rattle.graph_model.specs.declared.names.Refusal.TheVariants.{Memory}
use Rattle.graph_model.specs.Commands.{Mine}
use Rattle.graph_model.specs.Replies.{Reply, Refused, Unmined}
use Rattle.graph_model.specs.States.{MinedBlock}
use Rattle.graph_model.specs.Validity.{IsKeptBlock}
use Rattle.links.specs.Links.{Links, Has}
use Rattle.tx_graph.specs.Kept.{Kept}
use Rattle.tx_graph.specs.Restored.{Meets}

-- At most as many blocks as are kept, and each of them can be put back.
pub record AreKept (blocks : List MinedBlock) : Type 0 where
  pub few : length blocks ≤ MAX_BLOCKS
  pub whole : (block : MinedBlock) → Contains blocks block → IsKeptBlock block

-- No block has more names than this.
abbrev pub HaveAtMost : List MinedBlock → ℕ → Type 0
HaveAtMost blocks most = (block : MinedBlock) → Contains blocks block → length block.txs ≤ most

-- These are names of a graph.
abbrev pub AreNamesOf : Closure → List ℕ → Type 0
AreNamesOf graph ids = (id : ℕ) → Contains ids id → is_member graph id ≡ true

-- a name with the fee and the size that a graph has of it
abbrev pub tx_of : Closure → ℕ → ℕ × ℤ × ℕ
tx_of graph id = (id, (rate_of graph id).fee, (rate_of graph id).size)

-- the second is another descendant of the first
abbrev pub IsBelow : Closure → ℕ → ℕ → Type 0
IsBelow graph m d = (is_ancestor graph m d ≡ true) × (m ≢ d)

-- walks lead from the first to the second, which is another
abbrev pub LeadsTo : List (ℕ × ℕ) → ℕ → ℕ → Type 0
LeadsTo pairs m d = IsAncestor pairs m d × (m ≢ d)

-- These are the pairs of the names of a list, each with each name that it relates to.
abbrev pub ArePairsBy : (ℕ → ℕ → Type 0) → List ℕ → List (ℕ × ℕ) → Type 0
ArePairsBy R ids pairs = (m d : ℕ) → Contains {X = ℕ × ℕ} pairs (m, d) ↔ (Contains ids m × R m d)

-- Pairs of these names, each with each of its other descendants.
abbrev pub ArePairsOf : Closure → List ℕ → List (ℕ × ℕ) → Type 0
ArePairsOf graph = ArePairsBy (IsBelow graph)

-- The block of these names: the names as they are listed, with their fees and sizes, and a pair of each with each of its other descendants.
pub record IsBlockOf (graph : Closure) (ids : List ℕ) (block : MinedBlock) : Type 0 where
  pub txs : block.txs ≡ map (tx_of graph) ids
  pub pairs : ArePairsOf graph ids block.pairs

-- It is the block of these names, which are names of main.
abbrev pub CanMine : Kept → List ℕ → MinedBlock → Type 0
CanMine kept ids block = AreNamesOf kept.levels.main.graph ids × IsBlockOf kept.levels.main.graph ids block

-- To mine these names meets this refusal, or none and there is no memory.
abbrev pub RefusesMine : Kept → List ℕ → Refusal → Type 0
RefusesMine kept ids why = Meets kept (Mine ids) (Some why) ⊎ ((why ≡ Memory) × Meets kept (Mine ids) None)

-- the reply where a block was taken back
abbrev pub unmined_reply : Result (List ℕ) Refusal → Reply
unmined_reply (Ok ids) = Unmined ids
unmined_reply (Err why) = Refused why

-- Links tell of a graph: they have its names, and walks along their pairs lead from ancestors to descendants.
pub record LinksTell (graph : Closure) (links : Links) : Type 0 where
  pub names : (id : ℕ) → is_member graph id ≡ true → Has links id
  pub ancestors : (a d : ℕ) → is_member graph a ≡ true → IsAncestor links.pairs a d ↔ (is_ancestor graph a d ≡ true)
