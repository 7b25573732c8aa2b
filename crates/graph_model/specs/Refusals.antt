-- Which refusal a command meets: the first of its row whose cause holds, and none where no cause does.
use Rattle.std.specs.Prelude.{◌≡◌, ℕ, true, false, ◌+◌, ◌<◌, ◌≤◌, List, [], ◌∷◌, ◌++◌, length, sum_by, Contains, ◌⊎◌, Option, None, Some, codes}
use Rattle.std.specs.FinMap as finmap
use Rattle.graph_model.specs.declared.names.Refusal.{Refusal}
use Rattle.graph_model.specs.declared.names.Refusal.TheVariants.{Late, Range, Fee, Size, Taken, ClusterSize, Full, Unknown, Cycle, Count, Staging, Twice, Parent, Empty, NoStaging, Memory, Oversized, NoBlock, Back}
use Rattle.graphs.specs.declared.names.Level.{Level}
use Rattle.graphs.specs.declared.names.Level.TheVariants.{Main, Top}
use Rattle.fee_rate.specs.Limits.{IsFee, IsSize}
use Rattle.graph_model.specs.Limits.{Bounds, AreInRange}
use Rattle.graphs.specs.Graphs.{IsAncestor, AreConnected, Lists}
use Rattle.graph_model.specs.States.{PlainState, MinedBlock, level_of, IsStaged, IsLive, size_of}
use Rattle.graph_model.specs.Oversize.{IsOversized}
use Rattle.graphs.specs.Certificates.{Txs}
use Rattle.graph_model.specs.Changes.{ids_of, Restores}
use Rattle.graph_model.specs.Commands.{Command}
use Rattle.graph_model.specs.Commands as commands

-- How a refusal is told: its number, its word, and the number that follows the word, if one does.
pub record Told : Type 0 where
  pub number : ℕ
  pub word : List ℕ
  pub kept : Option ℕ

abbrev pub told : ℕ → List ℕ → Option ℕ → Told
told number word kept = record { number = number; word = word; kept = kept }

abbrev pub told_as : Refusal → Told
told_as Late = told 3 (codes "late") None
told_as Range = told 4 (codes "range") None
told_as Fee = told 5 (codes "fee") None
told_as Size = told 6 (codes "size") None
told_as Taken = told 7 (codes "taken") None
told_as (ClusterSize n) = told 8 (codes "clustersize") (Some n)
told_as Full = told 9 (codes "full") None
told_as (Unknown id) = told 10 (codes "unknown") (Some id)
told_as Cycle = told 11 (codes "cycle") None
told_as (Count n) = told 12 (codes "count") (Some n)
told_as Staging = told 13 (codes "staging") None
told_as (Twice id) = told 14 (codes "twice") (Some id)
told_as (Parent id) = told 15 (codes "parent") (Some id)
told_as Empty = told 16 (codes "empty") None
told_as NoStaging = told 17 (codes "nostaging") None
told_as Memory = told 18 (codes "memory") None
told_as Oversized = told 19 (codes "oversized") None
told_as NoBlock = told 20 (codes "noblock") None
told_as (Back id) = told 21 (codes "back") (Some id)

abbrev pub number_of : Refusal → ℕ
number_of why = (told_as why).number

-- A row of refusals: this one where its cause holds, else what comes later in the row.
abbrev pub First : Type 0 → Refusal → (Option Refusal → Type 0) → Option Refusal → Type 0
First cause why later found = (cause × (found ≡ Some why)) ⊎ ((cause → ⊥) × later found)

-- The same for a cause that fixes a number, which the refusal tells.
abbrev pub FirstAt : (ℕ → Type 0) → (ℕ → Refusal) → (Option Refusal → Type 0) → Option Refusal → Type 0
FirstAt cause why later found = ((n : ℕ) × cause n × (found ≡ Some (why n))) ⊎ (((n : ℕ) → cause n → ⊥) × later found)

-- The same for a cause that fixes the whole refusal.
abbrev pub FirstOf : (Refusal → Type 0) → (Option Refusal → Type 0) → Option Refusal → Type 0
FirstOf cause later found = ((why : Refusal) × cause why × (found ≡ Some why)) ⊎ (((why : Refusal) → cause why → ⊥) × later found)

-- The end of a row: the command isn't refused.
abbrev pub NoRefusal : Option Refusal → Type 0
NoRefusal found = found ≡ None

-- The row of `add`, by its causes: fee out of range, size out of range, name live, size over the limit of a cluster, as many live names as may
-- be.
abbrev pub AddRow : (bad_fee bad_size taken large full : Type 0) → ℕ → Option Refusal → Type 0
AddRow bad_fee bad_size taken large full size =
    First bad_fee Fee (First bad_size Size (First taken Taken (First large (ClusterSize size) (First full Full NoRefusal))))

-- The row of `dep`, by its causes: no such parent, no such child, a cycle, a joined cluster of too many names, a joined cluster too large.
abbrev pub DepRow : (no_parent no_child cycle : Type 0) → (too_many too_large : ℕ → Type 0) → ℕ → ℕ → Option Refusal → Type 0
DepRow no_parent no_child cycle too_many too_large parent child =
    First no_parent (Unknown parent) (First no_child (Unknown child) (First cycle Cycle (FirstAt too_many Count (FirstAt too_large ClusterSize NoRefusal))))

-- The name isn't in the level.
abbrev pub IsAbsent : PlainState → Level → ℕ → Type 0
IsAbsent state level id = Contains (level_of state level).names id → ⊥

-- The pair would join two components, and these are the members of the joined one.
abbrev pub JoinsTo : List (ℕ × ℕ) → ℕ → ℕ → List ℕ → Type 0
JoinsTo pairs parent child members =
    (AreConnected pairs parent child → ⊥) × Lists (λ id. AreConnected pairs id parent ⊎ AreConnected pairs id child) members

-- The pair would make a component of n names, more than the limit, and no dependency may pass the limits.
abbrev pub OverCount : PlainState → ℕ → ℕ → ℕ → Type 0
OverCount state parent child n =
    (members : List ℕ) × (state.limits.defer ≡ false) × JoinsTo (level_of state Top).pairs parent child members × (n ≡ length members)
    × (state.limits.count < n)

-- The pair would make a component of total size n, over the limit, and no dependency may pass the limits.
abbrev pub OverSize : PlainState → ℕ → ℕ → ℕ → Type 0
OverSize state parent child n =
    (members : List ℕ) × (state.limits.defer ≡ false) × JoinsTo (level_of state Top).pairs parent child members
    × (n ≡ sum_by (size_of state.table) members) × (state.limits.size < n)

-- The first entry of a list with a property. The property may speak of the entries before.
pub record IsFirst (P : List ℕ → ℕ → Type 0) (ids : List ℕ) (id : ℕ) : Type 0 where
  pub before : List ℕ
  pub after : List ℕ
  pub cut : ids ≡ before ++ id ∷ after
  pub has : P before id
  pub earlier : (front rest : List ℕ) (other : ℕ) → before ≡ front ++ other ∷ rest → P front other → ⊥

-- The name stands earlier in the list too.
abbrev pub StandsTwice : List ℕ → ℕ → Type 0
StandsTwice before id = Contains before id

-- The name has an ancestor in main that isn't listed.
abbrev pub LacksAncestor : PlainState → List ℕ → ℕ → Type 0
LacksAncestor state ids id = (a : ℕ) × IsAncestor state.main.pairs a id × (Contains ids a → ⊥)

-- The latest block. Without blocks it is one of no transaction.
abbrev pub latest_of : List MinedBlock → MinedBlock
latest_of [] = record { txs = []; pairs = [] }
latest_of (block ∷ earlier) = block

-- The names of the latest block.
abbrev pub latest_ids : List MinedBlock → List ℕ
latest_ids blocks = ids_of (latest_of blocks).txs

-- A refusal tells names that are over the limits: by their number where that is over, else by their total size.
abbrev pub ToldOver : Bounds → (ℕ → ℕ) → List ℕ → Refusal → Type 0
ToldOver bounds size ids why =
    ((bounds.count < length ids) × (why ≡ Count (length ids)))
    ⊎ ((length ids ≤ bounds.count) × (bounds.size < sum_by size ids) × (why ≡ ClusterSize (sum_by size ids)))

-- The name's component in main is over the limits, and the refusal tells the component.
abbrev pub IsInOver : PlainState → ℕ → Refusal → Type 0
IsInOver state id why =
    (ids : List ℕ) × Lists (AreConnected state.main.pairs id) ids × ToldOver state.limits (size_of state.table) ids why

-- No dependency may pass the limits, and transactions that would come into main with these pairs would bring a component over them. The refusal
-- tells the component of the first such transaction.
pub record BringsOver (state : PlainState) (txs : Txs) (pairs : List (ℕ × ℕ)) (why : Refusal) : Type 0 where
  pub strict : state.limits.defer ≡ false
  pub next : PlainState
  pub restores : Restores state txs pairs next
  pub id : ℕ
  pub first : IsFirst (λ before id. (any : Refusal) × IsInOver next id any) (ids_of txs) id
  pub over : IsInOver next id why

-- The row of transactions that are to come into main with these pairs: a name is live, there would be more live names than may be, a component
-- would be over the limits.
abbrev pub RestoreRow : PlainState → Txs → List (ℕ × ℕ) → Option Refusal → Type 0
RestoreRow state txs pairs =
    FirstAt (IsFirst (λ before id. IsLive state id) (ids_of txs)) Back
    (First (state.limits.total < finmap.len state.table + length (ids_of txs)) Full (FirstOf (BringsOver state txs pairs) NoRefusal))

-- The row of a reading of names.
abbrev pub NameRow : (unknown oversized : Type 0) → ℕ → Option Refusal → Type 0
NameRow unknown oversized id = First unknown (Unknown id) (First oversized Oversized NoRefusal)

-- The row of `mine` behind the test for a staging, by its causes: names that main hasn't, and names with an ancestor that isn't listed. The
-- first listed name with a cause is told.
abbrev pub MineRow : (absent lacks : ℕ → Type 0) → List ℕ → Option Refusal → Type 0
MineRow absent lacks ids =
    FirstAt (IsFirst StandsTwice ids) Twice
    (FirstAt (IsFirst (λ before id. absent id) ids) Unknown (FirstAt (IsFirst (λ before id. lacks id) ids) Parent NoRefusal))

-- The row of a command that needs a staging and the orders of both levels.
abbrev pub CompareRow : (alone oversized : Type 0) → Option Refusal → Type 0
CompareRow alone oversized = First alone NoStaging (First oversized Oversized NoRefusal)

-- The refusal that a command meets in a state, if any. Each row lists its causes in their order, and the first that holds is told. Want of
-- memory stands in no row: `Step` says when a command may lack memory.
abbrev pub RefusalIs : PlainState → Command → Option Refusal → Type 0
RefusalIs state (commands.SetLimits limits) = First (state.begun ≡ true) Late (First (AreInRange state.most limits → ⊥) Range NoRefusal)
RefusalIs state (commands.Add id fee size) =
    AddRow (IsFee fee → ⊥) (IsSize size → ⊥) (IsLive state id) (state.limits.size < size) (state.limits.total ≤ finmap.len state.table) size
RefusalIs state (commands.Dep parent child) =
    DepRow (IsAbsent state Top parent) (IsAbsent state Top child) (IsAncestor (level_of state Top).pairs child parent)
    (OverCount state parent child) (OverSize state parent child) parent child
RefusalIs state (commands.SetFee id fee) = First (IsFee fee → ⊥) Fee (First (IsLive state id → ⊥) (Unknown id) NoRefusal)
RefusalIs state (commands.Remove id) = First (IsAbsent state Top id) (Unknown id) NoRefusal
RefusalIs state (commands.Mine ids) =
    First (IsStaged state) Staging (MineRow (IsAbsent state Main) (LacksAncestor state ids) ids)
RefusalIs state commands.Evict =
    First (IsStaged state) Staging (First (state.main.names ≡ []) Empty (First (IsOversized state Main) Oversized NoRefusal))
RefusalIs state commands.Stage = First (IsStaged state) Staging NoRefusal
RefusalIs state commands.Commit = First (IsStaged state → ⊥) NoStaging NoRefusal
RefusalIs state commands.Abort = First (IsStaged state → ⊥) NoStaging NoRefusal
RefusalIs state commands.Settle = CompareRow (IsStaged state → ⊥) (IsOversized state Main ⊎ IsOversized state Top)
RefusalIs state commands.Compare = CompareRow (IsStaged state → ⊥) (IsOversized state Main ⊎ IsOversized state Top)
RefusalIs state commands.Trim = NoRefusal
RefusalIs state commands.Unmine =
    First (IsStaged state) Staging (First (state.blocks ≡ []) NoBlock (RestoreRow state (latest_of state.blocks).txs (latest_of state.blocks).pairs))
RefusalIs state (commands.Cluster id level) = NameRow (IsAbsent state level id) (IsOversized state level) id
RefusalIs state (commands.Ancestors id level) = NameRow (IsAbsent state level id) (IsOversized state level) id
RefusalIs state (commands.Descendants id level) = NameRow (IsAbsent state level id) (IsOversized state level) id
RefusalIs state (commands.Chunk id) = NameRow (IsAbsent state Main id) (IsOversized state Main) id
RefusalIs state (commands.Before a b) = First (IsAbsent state Main a) (Unknown a) (NameRow (IsAbsent state Main b) (IsOversized state Main) b)
RefusalIs state (commands.Order level) = First (IsOversized state level) Oversized NoRefusal
RefusalIs state (commands.Diagram level) = First (IsOversized state level) Oversized NoRefusal
RefusalIs state (commands.Proof level) = First (IsOversized state level) Oversized NoRefusal
RefusalIs state (commands.Block size) = First (IsOversized state Main) Oversized NoRefusal
RefusalIs state (commands.Count level) = NoRefusal
RefusalIs state commands.Dump = First (IsOversized state Main) Oversized NoRefusal
