-- The plain graph: a list of transactions and a list of pairs. It is the slow program that the
-- definitions name, and stands for their states.
use Rattle.std.specs.Prelude.{◌≡◌, ℕ, Bool, List, [], ◌∷◌, map, length, Option, None, Some, ◌==◌, if◌then◌else◌}
use Rattle.std.specs.FinMap as finmap
use Rattle.graph_model.specs.declared.names.Limits.{Limits}
use Rattle.graph_model.specs.Limits.{bounds_of}
use Rattle.graph_model.specs.States.{PlainState, Entry, size_in}
use Rattle.graph_model.specs.Commands.{Command}
use Rattle.graph_model.specs.Replies.{Reply}
use Rattle.graph_model.specs.Runs.{BuiltStep}
use Rattle.graph_model.specs.Validity.{IsValid}
use Rattle.plain_graph.specs.declared.limits.TheConstants.{MAX_NAMES}
use Rattle.plain_graph.specs.declared.tx.Tx.{Tx}

-- what the plain graph keeps
pub record Kept : Type 0 where
  pub limits : Limits
  pub begun : Bool
  pub txs : List Tx
  pub pairs : List (ℕ × ℕ)
  -- the names that the last reading found
  pub found : List ℕ
  -- how many additions were accepted
  pub additions : ℕ

-- the entry of a name in a list of transactions
abbrev pub entry_in : List Tx → ℕ → Option Entry
entry_in [] id = None
entry_in (tx ∷ txs) id = if tx.id == id then Some (record { fee = tx.fee; size = tx.size }) else entry_in txs id

-- the size of a name in a list of transactions; 0 where it has none
abbrev pub sizes_in : List Tx → ℕ → ℕ
sizes_in txs id = size_in (entry_in txs id)

-- A plain graph stands for the valid state with its names in their order, its pairs and its table. No block of it was mined.
pub record StandsFor (kept : Kept) (state : PlainState) : Type 0 where
  pub limits : state.limits ≡ bounds_of kept.limits
  pub most : state.most ≡ MAX_NAMES
  pub begun : state.begun ≡ kept.begun
  pub table : (id : ℕ) → finmap.get state.table id ≡ entry_in kept.txs id
  pub live : finmap.len state.table ≡ length kept.txs
  pub names : state.main.names ≡ map (λ tx. tx.id) kept.txs
  pub pairs : state.main.pairs ≡ kept.pairs
  pub staging : state.staging ≡ None
  pub blocks : state.blocks ≡ []
  pub valid : IsValid state

-- From every state that the graph stood for, the call is a step of the machine to one that it stands for now.
abbrev pub Steps : Kept → Kept → Command → Reply → Type 0
Steps old new command reply = (state : PlainState) → StandsFor old state → (next : PlainState) × StandsFor new next × BuiltStep state command reply next
