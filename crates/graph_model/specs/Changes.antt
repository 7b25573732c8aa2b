-- The changes that accepted commands make of the plain state.
use Rattle.std.specs.Prelude.{◌≡◌, ◌≢◌, ◌↔◌, ℕ, ℤ, true, List, [], ◌∷◌, ◌++◌, map, take, Contains, ◌⊎◌, None, Some}
use Rattle.std.specs.FinMap as finmap
use Rattle.lists.specs.Distinct.{AreDistinct}
use Rattle.graphs.specs.declared.names.Level.TheVariants.{Main, Top}
use Rattle.graphs.specs.declared.names.Verdict.TheVariants.{Better}
use Rattle.graphs.specs.Graphs.{Graph, IsAncestor}
use Rattle.graphs.specs.Removals.{IsWithout}
use Rattle.graphs.specs.Drops.{DropsNames}
use Rattle.graphs.specs.Certificates.{Part, Txs}
use Rattle.graph_model.specs.declared.limits.TheConstants.{MAX_BLOCKS}
use Rattle.graph_model.specs.Limits.{Bounds}
use Rattle.graph_model.specs.Commands.{Command, SetLimits, Add, Dep, SetFee, Remove, Mine, Evict, Stage, Commit, Abort, Settle, Trim, Unmine}
use Rattle.graph_model.specs.States.{PlainState, Picks, MinedBlock, Table, level_of, pick_of, with_top, size_of, rate_of}
use Rattle.graph_model.specs.Trims.{IsTrimmed}
use Rattle.graph_model.specs.Verdicts.{VerdictIs}

-- The state in which a command that changes something was accepted: limits can't be set any more.
abbrev pub begun : PlainState → PlainState
begun state = record state { begun = true }

-- `limits` sets the limits.
abbrev pub limited : PlainState → Bounds → PlainState
limited state limits = record (begun state) { limits = limits }

-- `add` puts the name into the table, with its fee and size, and into the top level, without pairs.
abbrev pub added : PlainState → ℕ → ℤ → ℕ → PlainState
added state id fee size =
    let graph = level_of state Top in
    with_top (record (begun state) { table = finmap.insert state.table id (record { fee = fee; size = size }) })
    (record graph { names = graph.names ++ id ∷ [] })

-- `dep` puts the pair into the top level, where the level doesn't have the pair already.
abbrev pub AddsPair : PlainState → ℕ → ℕ → PlainState → Type 0
AddsPair old parent child new =
    let graph = level_of old Top in
    (Contains graph.pairs (parent, child) × (new ≡ begun old))
    ⊎ ((Contains graph.pairs (parent, child) → ⊥) × (new ≡ with_top (begun old) (record graph { pairs = graph.pairs ++ (parent, child) ∷ [] })))

-- `fee` sets the fee in the table, for both levels. The size stays.
abbrev pub with_fee : PlainState → ℕ → ℤ → PlainState
with_fee state id fee = record (begun state) { table = finmap.insert state.table id (record { fee = fee; size = size_of state.table id }) }

-- The name is in main or in staging.
abbrev pub IsKept : PlainState → ℕ → Type 0
IsKept state id = Contains state.main.names id ⊎ Contains (level_of state Top).names id

-- The table forgets the names that are in no level, and keeps the entries of all others.
pub record Forgets (old new : PlainState) : Type 0 where
  pub same : new ≡ record old { table = new.table }
  pub kept : (id : ℕ) → IsKept old id → finmap.get new.table id ≡ finmap.get old.table id
  pub dropped : (id : ℕ) → (IsKept old id → ⊥) → finmap.get new.table id ≡ None

-- `remove` takes the name out of the top level: its parents become parents of its children. The table forgets the name where it is then in
-- neither level.
abbrev pub Removes : PlainState → ℕ → PlainState → Type 0
Removes old id new = (graph : Graph) × IsWithout (level_of old Top) id graph × Forgets (with_top (begun old) graph) new

-- `mine` and `evict` drop names with their pairs from main.
abbrev pub DropsFromMain : PlainState → List ℕ → PlainState → Type 0
DropsFromMain old ids new = (graph : Graph) × DropsNames old.main ids graph × Forgets (record (begun old) { main = graph }) new

-- Names are dropped with their pairs from the top level. Where there are no names to drop, the level stays as it is.
abbrev pub DropsFromTop : PlainState → List ℕ → PlainState → Type 0
DropsFromTop old [] new = new ≡ begun old
DropsFromTop old (id ∷ ids) new = (graph : Graph) × DropsNames (level_of old Top) (id ∷ ids) graph × Forgets (with_top (begun old) graph) new

-- A block keeps of the names that it takes out of main: the names as they are listed, with their fees and sizes, and a pair of each with each
-- of its descendants.
pub record IsMinedBlock (state : PlainState) (ids : List ℕ) (block : MinedBlock) : Type 0 where
  pub txs : block.txs ≡ map (λ id. (id, (rate_of state.table id).fee, (rate_of state.table id).size)) ids
  pub pairs : (m d : ℕ) → Contains block.pairs (m, d) ↔ (Contains ids m × IsAncestor state.main.pairs m d × (m ≢ d))

-- `mine` also puts a block in front of the mined blocks. Where there are more than are kept, the oldest goes.
abbrev pub Mines : PlainState → List ℕ → PlainState → Type 0
Mines old ids new =
    (block : MinedBlock) × IsMinedBlock old ids block × DropsFromMain (record old { blocks = take MAX_BLOCKS (block ∷ old.blocks) }) ids new

-- The names of transactions.
abbrev pub ids_of : Txs → List ℕ
ids_of txs = map (λ tx. tx.0) txs

-- A graph gets more names, and those of more pairs (parent, child) whose child is then in the graph. The definition leaves open in which order
-- names and pairs are listed.
pub record PutsNames (old : Graph) (ids : List ℕ) (more : List (ℕ × ℕ)) (new : Graph) : Type 0 where
  pub names : (id : ℕ) → Contains new.names id ↔ (Contains old.names id ⊎ Contains ids id)
  pub names_once : AreDistinct new.names
  pub pairs : (a b : ℕ) → Contains new.pairs (a, b) ↔ (Contains old.pairs (a, b) ⊎ (Contains more (a, b) × Contains new.names b))
  pub pairs_once : AreDistinct new.pairs

-- The table has these transactions, with their fees and sizes.
abbrev pub HasTxs : Table → Txs → Type 0
HasTxs table txs = (id : ℕ) (fee : ℤ) (size : ℕ) → Contains txs (id, fee, size) → finmap.get table id ≡ Some (record { fee = fee; size = size })

-- Transactions come into main with their fees and sizes, and with those of more pairs whose child is then in main.
pub record Restores (old : PlainState) (txs : Txs) (pairs : List (ℕ × ℕ)) (new : PlainState) : Type 0 where
  pub same : new ≡ record (begun old) { table = new.table; main = new.main }
  pub graph : PutsNames old.main (ids_of txs) pairs new.main
  pub listed : HasTxs new.table txs
  pub others : (id : ℕ) → (Contains (ids_of txs) id → ⊥) → finmap.get new.table id ≡ finmap.get old.table id

-- `unmine` takes the latest block off, and puts its transactions back into main.
abbrev pub Unmines : PlainState → PlainState → Type 0
Unmines old new =
    (block : MinedBlock) × (earlier : List MinedBlock) × (old.blocks ≡ block ∷ earlier)
    × Restores (record old { blocks = earlier }) block.txs block.pairs new

-- `trim` drops from the top level the names that trimming drops.
abbrev pub Trims : PlainState → PlainState → Type 0
Trims old new = (ids : List ℕ) × IsTrimmed old.limits (rate_of old.table) (level_of old Top) ids × DropsFromTop old ids new

-- The part is the last one.
abbrev pub IsLast : List Part → Part → Type 0
IsLast parts part = (before : List Part) × (parts ≡ before ++ part ∷ [])

-- `stage` makes staging a copy of main.
abbrev pub staged : PlainState → PlainState
staged state = record (begun state) { staging = Some state.main }

-- `commit` makes main what staging is, and closes the staging.
abbrev pub Commits : PlainState → PlainState → Type 0
Commits old new = Forgets (record (begun old) { main = level_of old Top; staging = None }) new

-- `abort` closes the staging, and main stays.
abbrev pub Aborts : PlainState → PlainState → Type 0
Aborts old new = Forgets (record (begun old) { staging = None }) new

-- The change that an accepted command makes, where the levels have these picks. Readings change nothing.
abbrev pub Changes : Picks → PlainState → Command → PlainState → Type 0
Changes picks old (SetLimits limits) new = new ≡ limited old limits
Changes picks old (Add id fee size) new = new ≡ added old id fee size
Changes picks old (Dep parent child) new = AddsPair old parent child new
Changes picks old (SetFee id fee) new = new ≡ with_fee old id fee
Changes picks old (Remove id) new = Removes old id new
Changes picks old (Mine ids) new = Mines old ids new
Changes picks old Evict new = (pick : List Part) × (part : Part) × (pick_of picks Main ≡ Some pick) × IsLast pick part × DropsFromMain old part.ids new
Changes picks old Stage new = new ≡ staged old
Changes picks old Commit new = Commits old new
Changes picks old Abort new = Aborts old new
Changes picks old Settle new = (VerdictIs old Better × Commits old new) ⊎ ((VerdictIs old Better → ⊥) × Aborts old new)
Changes picks old Trim new = Trims old new
Changes picks old Unmine new = Unmines old new
Changes picks old reading new = new ≡ old
