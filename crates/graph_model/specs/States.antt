-- The state of the machine: the plain state, with limits, a table of fees and sizes, and graphs; and beside it the picks, the orders of the
-- levels. As in Bitcoin Core's `txgraph.h`, the levels are main and, where one is open, a staging copy of main.
use Rattle.std.specs.Prelude.{ℕ, ℤ, pos, Bool, false, List, [], Option, None, Some, IsSome}
use Rattle.std.specs.Ordering.{nat_cmp}
use Rattle.std.specs.FinMap as finmap
use Rattle.fee_rate.specs.declared.rates.Sum.{Sum}
use Rattle.graphs.specs.declared.names.Level.{Level}
use Rattle.graphs.specs.declared.names.Level.TheVariants.{Main, Top}
use Rattle.graph_model.specs.Limits.{Bounds, default_limits}
use Rattle.graphs.specs.Graphs.{Graph}
use Rattle.graphs.specs.Certificates.{Part, Txs}

-- An entry of the table: a fee in satoshis, and a size in virtual bytes.
pub record Entry : Type 0 where
  pub fee : ℤ
  pub size : ℕ

-- The fee and the size of each live name. A name has the same in both levels.
abbrev pub Table : Type 0
Table = finmap.FinMap nat_cmp Entry

-- What a mined block took out of main: the names with their fees and sizes, in the listed order, and pairs (parent, child) that give the
-- names back to their descendants. The order of the pairs says nothing.
pub record MinedBlock : Type 0 where
  pub txs : Txs
  pub pairs : List (ℕ × ℕ)

pub record PlainState : Type 0 where
  pub limits : Bounds
  -- The most names that the limit of a cluster may allow.
  pub most : ℕ
  -- Whether a command that changes something was accepted.
  pub begun : Bool
  pub table : Table
  pub main : Graph
  pub staging : Option Graph
  -- The mined blocks that can be taken back, the latest first.
  pub blocks : List MinedBlock

-- The pick of each level: the parts of its order, with their flows. A level that is over a limit has none.
pub record Picks : Type 0 where
  pub main : Option (List Part)
  pub staging : Option (Option (List Part))

pub record State : Type 0 where
  pub plain : PlainState
  pub picks : Picks

-- No name and no pair.
abbrev pub empty_graph : Graph
empty_graph = record { names = []; pairs = [] }

-- The state at the start, where the limit of a cluster may allow so many names.
abbrev pub plain_start : ℕ → PlainState
plain_start most = record {
  limits = default_limits;
  most = most;
  begun = false;
  table = finmap.empty;
  main = empty_graph;
  staging = None;
  blocks = [];
}

abbrev pub start : ℕ → State
start most = record { plain = plain_start most; picks = record { main = Some []; staging = None } }

-- The value of the top level: staging's where one is open, else main's.
abbrev pub top_of : {A : Type 0} → A → Option A → A
top_of main None = main
top_of main (Some staging) = staging

-- The graph of a level, and its pick where it has one.
abbrev pub level_of : PlainState → Level → Graph
level_of state Main = state.main
level_of state Top = top_of state.main state.staging

abbrev pub pick_of : Picks → Level → Option (List Part)
pick_of picks Main = picks.main
pick_of picks Top = top_of picks.main picks.staging

-- The state with this graph as its top level.
abbrev pub with_top : PlainState → Graph → PlainState
with_top state top = elim state.staging as (λ _. PlainState) [ None ↦ record state { main = top } | Some _ ↦ record state { staging = Some top } ]

abbrev pub IsStaged : PlainState → Type 0
IsStaged state = IsSome state.staging

-- The name is live: in main or in staging.
abbrev pub IsLive : PlainState → ℕ → Type 0
IsLive state id = IsSome (finmap.get state.table id)

-- The size that the table has of a name; 0 where the name isn't live.
abbrev pub size_in : Option Entry → ℕ
size_in None = 0
size_in (Some entry) = entry.size

abbrev pub size_of : Table → ℕ → ℕ
size_of table id = size_in (finmap.get table id)

-- The fee and the size that the table has of a name; both 0 where the name isn't live.
abbrev pub sum_in : Option Entry → Sum
sum_in None = record { fee = pos 0; size = 0 }
sum_in (Some entry) = record { fee = entry.fee; size = entry.size }

abbrev pub rate_of : Table → ℕ → Sum
rate_of table id = sum_in (finmap.get table id)
