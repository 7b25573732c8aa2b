-- Transactions that are in no level come into main with dependencies, and what that is refused for.
use Rattle.std.specs.Prelude.{◌≡◌, ◌≢◌, ◌⊎◌, ℕ, ℤ, ◌+◌, ◌-◌, ◌^◌, ◌≤◌, List, [], length, Contains, Option, None, Some}
use Rattle.lists.specs.Distinct.{AreDistinct}
use Rattle.fee_rate.specs.Limits.{IsRate}
use Rattle.graphs.specs.Certificates.{Txs}
use Rattle.graphs.specs.Graphs.{HasNoCycle}
use Rattle.graph_model.specs.declared.names.Refusal.{Refusal}
use Rattle.graph_model.specs.declared.names.Refusal.TheVariants.{Memory, Staging}
use Rattle.graph_model.specs.Changes.{Restores, ids_of}
use Rattle.graph_model.specs.Commands.{Command, Unmine}
use Rattle.graph_model.specs.Refusals.{First, RefusalIs, RestoreRow}
use Rattle.graph_model.specs.States.{PlainState, State, IsStaged}
use Rattle.graph_model.specs.Steps.{KeepsPicks, MayGiveWay}
use Rattle.tx_graph.specs.Kept.{Kept, StandsFor}

-- the refusal that a command meets, or none, in every state that the graph stands for
abbrev pub Meets : Kept → Command → Option Refusal → Type 0
Meets kept command found = (state : State) → StandsFor kept state → RefusalIs state.plain command found

-- Transactions with their dependencies that may be put back: one at least, each name once, fees and sizes in range, each parent one of
-- them, and no cycle; and as many additions can be counted.
pub record MayRestore (kept : Kept) (txs : Txs) (pairs : List (ℕ × ℕ)) : Type 0 where
  pub some : txs ≢ []
  pub once : AreDistinct (ids_of txs)
  pub in_range : (id : ℕ) (fee : ℤ) (size : ℕ) → Contains txs (id, fee, size) → IsRate (record { fee = fee; size = size })
  pub parents : (a b : ℕ) → Contains pairs (a, b) → Contains (ids_of txs) a
  pub acyclic : HasNoCycle pairs
  pub issued : kept.levels.issued + length txs ≤ 2 ^ 64 - 1

-- These transactions come into main with those of the pairs whose child is then there, and a main that this leaves as it was keeps its pick.
abbrev pub RestoresSet : Txs → List (ℕ × ℕ) → State → State → Type 0
RestoresSet txs pairs old new = Restores old.plain txs pairs new.plain × KeepsPicks old new

-- The refusal that this meets: a staging is open, else the row of transactions that are to come into main.
abbrev pub RestoreRefusalIs : PlainState → Txs → List (ℕ × ℕ) → Option Refusal → Type 0
RestoreRefusalIs state txs pairs = First (IsStaged state) Staging (RestoreRow state txs pairs)

-- Want of memory may be answered where nothing is refused, and in place of what may give way to it.
abbrev pub MayLackMemory : Option Refusal → Type 0
MayLackMemory None = Unit {0}
MayLackMemory (Some why) = MayGiveWay Unmine why

-- Where a row has this refusal or none, this one is answered: the same, or want of memory where that may be answered.
abbrev pub IsAnsweredBy : Option Refusal → Refusal → Type 0
IsAnsweredBy found why = (found ≡ Some why) ⊎ ((why ≡ Memory) × MayLackMemory found)
