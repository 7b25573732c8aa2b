-- Transactions that come into the top level with dependencies. What is said of the graph that is made is said of plain graphs: of each one
-- that comes so of a plain graph whose closure the level keeps.
use Rattle.std.specs.Prelude.{◌≡◌, ◌⊎◌, ◌↔◌, ℕ, ℤ, ◌+◌, ◌-◌, ◌^◌, ◌≤◌, true, false, None, List, length, flat_map, sum_by, Contains}
use Rattle.lists.specs.Distinct.{AreDistinct}
use Rattle.fee_rate.specs.declared.limits.TheConstants.{MAX_TOTAL}
use Rattle.graphs.specs.Certificates.{Txs}
use Rattle.graphs.specs.Closing.{IsClosureOf}
use Rattle.graphs.specs.Closures.{Closure, is_ancestor, is_member, rate_of}
use Rattle.graphs.specs.Graphs.{Graph, AreConnected, HasNoCycle, IsGraph, Lists}
use Rattle.graph_model.specs.declared.names.Limits.{Limits}
use Rattle.graph_model.specs.declared.names.Refusal.{Refusal}
use Rattle.graph_model.specs.Limits.{Bounds, bounds_of}
use Rattle.graph_model.specs.Changes.{PutsNames, ids_of}
use Rattle.graph_model.specs.Refusals.{IsFirst, ToldOver}
use Rattle.links.specs.Links.{AreInRange}
use Rattle.record.specs.Steps.{most_steps_within}
use Rattle.levels.specs.Levels.{Levels, IsLive}

-- Transactions may come into main with the pairs of a list: no staging is open, each name stands once and is in no level, fees and sizes are
-- in range, each parent is one of the names, the pairs have no cycle, the live names and these are no more than may be, and so many can be
-- counted.
pub record MayRestore (levels : Levels) (txs : Txs) (pairs : List (ℕ × ℕ)) : Type 0 where
  pub alone : levels.staging ≡ None
  pub once : AreDistinct (ids_of txs)
  pub absent : (id : ℕ) → Contains (ids_of txs) id → IsLive levels id → ⊥
  pub in_range : AreInRange txs
  pub parents : (a b : ℕ) → Contains pairs (a, b) → Contains (ids_of txs) a
  pub acyclic : HasNoCycle pairs
  pub few : (ids : List ℕ) × Lists (IsLive levels) ids × (length ids + length txs ≤ MAX_TOTAL)
  pub issued : levels.issued + length txs ≤ 2 ^ 64 - 1

-- A plain graph that comes of one with this closure, where transactions come in with the pairs whose child is then there; and the size of each
-- of its names.
pub record ComesOf (old : Closure) (txs : Txs) (pairs : List (ℕ × ℕ)) (next : Graph) (size : ℕ → ℕ) : Type 0 where
  pub graph : Graph
  pub closure : IsClosureOf old graph
  pub whole : IsGraph graph
  pub puts : PutsNames graph (ids_of txs) pairs next
  pub listed : (id : ℕ) (fee : ℤ) (n : ℕ) → Contains txs (id, fee, n) → size id ≡ n
  pub others : (id : ℕ) → Contains graph.names id → size id ≡ (rate_of old id).size

-- The closure of every graph that comes so, which relates names alone. The transactions have their fees and sizes, and all other names what
-- they had.
pub record PutsTxs (old new : Closure) (txs : Txs) (pairs : List (ℕ × ℕ)) : Type 0 where
  pub members : (id : ℕ) → (is_member new id ≡ true) ↔ ((is_member old id ≡ true) ⊎ Contains (ids_of txs) id)
  pub graphs : (next : Graph) (size : ℕ → ℕ) → ComesOf old txs pairs next size → IsClosureOf new next
  pub among : (a d : ℕ) → is_ancestor new a d ≡ true → (is_member new a ≡ true) × (is_member new d ≡ true)
  pub listed : (id : ℕ) (fee : ℤ) (size : ℕ) → Contains txs (id, fee, size) → rate_of new id ≡ record { fee = fee; size = size }
  pub others : (id : ℕ) → (Contains (ids_of txs) id → ⊥) → rate_of new id ≡ rate_of old id

-- ---- refusals

-- The name's component is over the limits, and the refusal tells the component.
abbrev pub IsInOver : Bounds → (ℕ → ℕ) → Graph → ℕ → Refusal → Type 0
IsInOver bounds size graph id why = (ids : List ℕ) × Lists (AreConnected graph.pairs id) ids × ToldOver bounds size ids why

-- The first name of a list of which that is so, and the refusal that tells its component.
pub record IsFirstOver (bounds : Bounds) (size : ℕ → ℕ) (graph : Graph) (ids : List ℕ) (why : Refusal) : Type 0 where
  pub id : ℕ
  pub first : IsFirst (λ before id. (any : Refusal) × IsInOver bounds size graph id any) ids id
  pub over : IsInOver bounds size graph id why

-- No dependency may pass the limits, and in every graph that comes so a component is over them. The refusal tells that of the first of the
-- transactions of which it is.
pub record BringsOver (limits : Limits) (old : Closure) (txs : Txs) (pairs : List (ℕ × ℕ)) (why : Refusal) : Type 0 where
  pub strict : limits.defer ≡ false
  pub told : (next : Graph) (size : ℕ → ℕ) → ComesOf old txs pairs next size → IsFirstOver (bounds_of limits) size next (ids_of txs) why

-- In no graph that comes so is a transaction's component over the limits.
abbrev pub BringsNoneOver : Limits → Closure → Txs → List (ℕ × ℕ) → Type 0
BringsNoneOver limits old txs pairs =
    (next : Graph) (size : ℕ → ℕ) → ComesOf old txs pairs next size → (id : ℕ) (why : Refusal) → Contains (ids_of txs) id
    → IsInOver (bounds_of limits) size next id why → ⊥

-- ---- steps

-- Lists of names, one for each component that has one of these names.
pub record AreComponentsWith (graph : Graph) (ids : List ℕ) (lists : List (List ℕ)) : Type 0 where
  pub once : AreDistinct (flat_map (λ list. list) lists)
  pub exact : (id : ℕ) → Contains (flat_map (λ list. list) lists) id ↔ ((m : ℕ) × Contains ids m × AreConnected graph.pairs m id)
  pub whole : (list : List ℕ) → Contains lists list → (a b : ℕ) → Contains list a → Contains list b ↔ AreConnected graph.pairs a b

-- A count grew, and by no more than the orders take of the components with one of the transactions that are within the limits.
pub record RestoresWithin (limits : Limits) (old : Closure) (txs : Txs) (pairs : List (ℕ × ℕ)) (before after : ℕ) : Type 0 where
  pub grew : before ≤ after
  pub few : (next : Graph) (size : ℕ → ℕ) (lists : List (List ℕ)) → ComesOf old txs pairs next size → AreComponentsWith next (ids_of txs) lists
      → after ≤ before + sum_by (λ list. most_steps_within limits (length list) (sum_by size list)) lists
