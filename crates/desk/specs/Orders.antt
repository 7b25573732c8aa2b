-- What is told of main's order that no command asks for, and of a level's transactions.
use Rattle.std.specs.Prelude.{◌≡◌, ◌↔◌, ◌⊎◌, ℕ, List, [], length, map, flat_map, Contains, Some, Result, Ok, Err}
use Rattle.std.specs.List.Sorted.{IsPermutation}
use Rattle.graphs.specs.Certificates.{Part}
use Rattle.graphs.specs.Graphs.{IsCover, Lists}
use Rattle.graphs.specs.Linearizations.{StandsBefore}
use Rattle.graphs.specs.Merges.{Precedes}
use Rattle.graphs.specs.declared.names.Level.{Level}
use Rattle.graphs.specs.declared.names.Level.TheVariants.{Main, Top}
use Rattle.graph_model.specs.declared.names.Refusal.{Refusal}
use Rattle.graph_model.specs.declared.names.Refusal.TheVariants.{Empty, Memory, Oversized}
use Rattle.graph_model.specs.Answers.{order_of}
use Rattle.graph_model.specs.Changes.{IsLast}
use Rattle.graph_model.specs.Commands.{Ancestors, Command, Compare, Order}
use Rattle.graph_model.specs.Oversize.{IsOversized}
use Rattle.graph_model.specs.Refusals.{RefusalIs, latest_ids}
use Rattle.graph_model.specs.Replies.{Reply, Refused, OnePart}
use Rattle.graph_model.specs.States.{State, level_of, pick_of}
use Rattle.cluster_store.specs.Stores.{Shown}
use Rattle.levels.specs.Orders.{AreApart, sums_of}
use Rattle.tx_graph.specs.Dropped.{AreOfClusters}
use Rattle.tx_graph.specs.MainOrder.{StandInOrder}
use Rattle.tx_graph.specs.Unions.{AreTheirComponents}
use Rattle.reorg.specs.Kept.{StandsFor}
use Rattle.desk.specs.declared.desk.Desk.{Desk}
use Rattle.desk.specs.declared.desk.Held.{Held}
use Rattle.desk.specs.declared.ordering.Sides.{Sides}
use Rattle.desk.specs.declared.telling.Rate.{Rate}
use Rattle.desk.specs.Copies.{copied, rate_words}
use Rattle.desk.specs.Facts.{Meets}
use Rattle.desk.specs.Numbers.{code_of, kept_of}

-- ---- main's last chunk

-- The last part of main's order; refused where main is over the limits, and where it has no transaction.
abbrev pub IsLastOfMain : State → Reply → Type 0
IsLastOfMain state (OnePart part) = (pick : List Part) × (pick_of state.picks Main ≡ Some pick) × IsLast pick part
IsLastOfMain state (Refused why) = ((why ≡ Oversized) × IsOversized state.plain Main) ⊎ ((why ≡ Empty) × (pick_of state.picks Main ≡ Some []))
IsLastOfMain state reply = ⊥

-- The graph stays. This reply is told, and it is right in every state that the graph stands for.
pub record TellsLast (old new : Desk) (code kept : ℕ) (Shows : Reply → Type 0) : Type 0 where
  pub same : new ≡ old
  pub reply : Reply
  pub last : (state : State) → StandsFor old.pool state → IsLastOfMain state reply
  pub code_is : code ≡ code_of reply
  pub kept_is : kept ≡ kept_of reply
  pub shows : Shows reply

-- ---- transactions in main's order

-- the transactions stand as they do in main's order, and those that main hasn't come last
abbrev pub StandInMain : State → List ℕ → Type 0
StandInMain state ids = (pick : List Part) × (pick_of state.picks Main ≡ Some pick) × StandInOrder (order_of pick) ids

-- In each of these states the list is put into main's order; or main is over the limits, and the list stays.
abbrev pub SortsByMain : (State → Type 0) → List ℕ → List ℕ → ℕ → Type 0
SortsByMain Stands old new code =
    ((code ≡ 19) × (new ≡ old) × ((state : State) → Stands state → IsOversized state.plain Main))
    ⊎ ((code ≡ 0) × IsPermutation old new × ((state : State) → Stands state → StandInMain state new))

-- ---- a transaction's parents

-- the parents with nothing between, as they stand in the level's order
pub record AreCovers (state : State) (level : Level) (id : ℕ) (covers : List ℕ) : Type 0 where
  pub pick : List Part
  pub order : pick_of state.picks level ≡ Some pick
  pub exact : (a : ℕ) → Contains covers a ↔ IsCover (level_of state.plain level).pairs a id
  pub in_order : (a b : ℕ) → Precedes covers a b → StandsBefore (order_of pick) a b

-- In each of these states the names are those parents; or a search for ancestors would be refused so, or there is no memory.
abbrev pub GathersCovers : (State → Type 0) → Level → ℕ → Result (List ℕ) Refusal → Type 0
GathersCovers Stands level id (Ok covers) = (state : State) → Stands state → AreCovers state level id covers
GathersCovers Stands level id (Err why) = (why ≡ Memory) ⊎ ((state : State) → Stands state → RefusalIs state.plain (Ancestors id level) (Some why))

-- The parents are copied to the front of the caller's array, as many as it has room for, and their number is told; or nothing is written, and this
-- is refused.
abbrev pub ShowsCovers : (State → Type 0) → Level → ℕ → ℕ → ℕ → List ℕ → List ℕ → ℕ → ℕ → Type 0
ShowsCovers Stands level id code kept old new count_old count =
    ((why : Refusal) × GathersCovers Stands level id (Err why) × (code ≡ code_of (Refused why)) × (kept ≡ kept_of (Refused why))
    × (new ≡ old) × (count ≡ count_old))
    ⊎ ((covers : List ℕ) × GathersCovers Stands level id (Ok covers) × (code ≡ 0) × (kept ≡ 0) × (new ≡ copied covers old) × (count ≡ length covers))

abbrev pub TellsCovers : Desk → Level → ℕ → ℕ → ℕ → List ℕ → List ℕ → ℕ → ℕ → Type 0
TellsCovers desk = ShowsCovers (StandsFor desk.pool)

-- ---- readings that stay on the desk as lists

-- The reading is refused, as this command is. Nothing changes.
pub record IsRefused (old new : Desk) (command : Command) (code kept : ℕ) : Type 0 where
  pub why : Refusal
  pub row : Meets old.pool command (Some why)
  pub code_is : code ≡ code_of (Refused why)
  pub kept_is : kept ≡ kept_of (Refused why)
  pub same : new ≡ old

-- What is held shows what was read. The graph and what was picked stay.
pub record Holds (old new : Desk) (code kept : ℕ) (Shows : State → Held → Held → Type 0) : Type 0 where
  pub code_is : code ≡ 0
  pub kept_is : kept ≡ 0
  pub pool : new.pool ≡ old.pool
  pub picked : new.picked ≡ old.picked
  pub shows : (state : State) → StandsFor old.pool state → Shows state old.held new.held

-- ---- what is read

-- the fees and sizes of the parts of main's order, and of the top level's, that one of them alone has; the others are the same in both
abbrev pub AreSides : State → List Rate → List Rate → Type 0
AreSides state main_side top_side =
    (main top main_alone top_alone : List Part) × (pick_of state.picks Main ≡ Some main) × (pick_of state.picks Top ≡ Some top)
    × AreApart main top main_alone top_alone × (main_side ≡ map rate_words (sums_of main_alone)) × (top_side ≡ map rate_words (sums_of top_alone))

-- In each of these states the sides are those; or a comparison would be refused so, or there is no memory.
abbrev pub GathersSides : (State → Type 0) → Result Sides Refusal → Type 0
GathersSides Stands (Ok sides) = (state : State) → Stands state → AreSides state sides.main sides.staging
GathersSides Stands (Err why) = (why ≡ Memory) ⊎ ((state : State) → Stands state → RefusalIs state.plain Compare (Some why))

abbrev pub ShowsSides : State → Held → Held → Type 0
ShowsSides state old new =
    AreSides state new.main_side new.staging_side × (new ≡ record old { main_side = new.main_side; staging_side = new.staging_side })

-- a number for each part of main's order: two have one number exactly where they are of one cluster
abbrev pub AreNumbers : State → List ℕ → Type 0
AreNumbers state numbers =
    (parts : List Shown) × (pick_of state.picks Main ≡ Some (map (λ s. s.part) parts)) × AreOfClusters state.plain.main parts
    × (numbers ≡ map (λ s. s.number) parts)

-- In each of these states the numbers are such; or a reading of main's order would be refused so, or there is no memory.
abbrev pub GathersNumbers : (State → Type 0) → Result (List ℕ) Refusal → Type 0
GathersNumbers Stands (Ok numbers) = (state : State) → Stands state → AreNumbers state numbers
GathersNumbers Stands (Err why) = (why ≡ Memory) ⊎ ((state : State) → Stands state → RefusalIs state.plain (Order Main) (Some why))

abbrev pub ShowsNumbers : State → Held → Held → Type 0
ShowsNumbers state old new = AreNumbers state new.numbers × (new ≡ record old { numbers = new.numbers })

-- the names of the level, each once, in rising order
abbrev pub ShowsNames : Level → State → Held → Held → Type 0
ShowsNames level state old new = Lists (Contains (level_of state.plain level).names) new.names × (new ≡ record old { names = new.names })

-- The clusters of the level, each once, in no order, as two lists: how many names each has, and the names of one after the other.
abbrev pub TellsClusters : State → Level → List ℕ → List ℕ → Type 0
TellsClusters state level counts ids =
    (clusters : List (List ℕ)) × AreTheirComponents (level_of state.plain level) (level_of state.plain level).names clusters
    × (counts ≡ map length clusters) × (ids ≡ flat_map (λ names. names) clusters)

abbrev pub ShowsClusters : Level → State → Held → Held → Type 0
ShowsClusters level state old new =
    TellsClusters state level new.cluster_counts new.cluster_ids
    × (new ≡ record old { cluster_counts = new.cluster_counts; cluster_ids = new.cluster_ids })

-- ---- mined blocks

-- how many blocks can be taken back, and how many transactions the latest has
abbrev pub CountsBlocks : Desk → ℕ → ℕ → Type 0
CountsBlocks desk count latest = (count ≡ length desk.pool.blocks) × (latest ≡ length (latest_ids desk.pool.blocks))
