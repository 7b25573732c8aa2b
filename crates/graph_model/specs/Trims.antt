-- Trimming: which names go from a level so that none of its components is over the limits. After `Trim` of Core's `txgraph.h`. Names
-- are looked at by rate, each once all its parents are kept.
use Rattle.std.specs.Prelude.{◌≡◌, ◌≢◌, ◌↔◌, ◌⊎◌, ℕ, ◌<◌, Bool, true, List, ◌∷◌, ◌++◌, map, filter, Contains}
use Rattle.fee_rate.specs.declared.rates.Sum.{Sum}
use Rattle.fee_rate.specs.Rates.{Below, Same}
use Rattle.graphs.specs.Graphs.{Graph, AreConnected, Lists}
use Rattle.graph_model.specs.Limits.{Bounds, AreOver}

-- the names that are kept, of names each with the mark whether it is
abbrev pub kept_of : List (ℕ × Bool) → List ℕ
kept_of marked = map (λ entry. entry.0) (filter (λ entry. entry.1) marked)

-- A name that wasn't looked at, and whose parents are all kept.
pub record IsCandidate (graph : Graph) (marked : List (ℕ × Bool)) (id : ℕ) : Type 0 where
  pub named : Contains graph.names id
  pub fresh : Contains (map (λ entry. entry.0) marked) id → ⊥
  pub parents : (parent : ℕ) → Contains graph.pairs (parent, id) → Contains (kept_of marked) parent

-- the first has the greater rate, or the same rate and the lesser name
abbrev pub GoesFirst : (ℕ → Sum) → ℕ → ℕ → Type 0
GoesFirst rate a b = Below (rate b) (rate a) ⊎ (Same (rate a) (rate b) × (a < b))

-- the pairs of which both ends are among these names
abbrev pub PairsAmong : List (ℕ × ℕ) → List ℕ → List (ℕ × ℕ) → Type 0
PairsAmong pairs ids some = (a b : ℕ) → Contains some (a, b) ↔ (Contains pairs (a, b) × Contains ids a × Contains ids b)

-- beside the names that are kept, the component of this one is within the limits
abbrev pub StaysWithin : Bounds → (ℕ → Sum) → Graph → List ℕ → ℕ → Type 0
StaysWithin bounds rate graph kept id =
    (pairs : List (ℕ × ℕ)) (ids : List ℕ) → PairsAmong graph.pairs (id ∷ kept) pairs → Lists (AreConnected pairs id) ids
    → AreOver bounds (λ q. (rate q).size) ids → ⊥

-- All names that come to be candidates, each with the mark whether it is kept: at each turn the first of the candidates, kept exactly
-- where its component beside those kept before is within the limits. So a name that isn't kept takes its descendants with it, which
-- never come to be candidates.
pub record AreMarked (bounds : Bounds) (rate : ℕ → Sum) (graph : Graph) (marked : List (ℕ × Bool)) : Type 0 where
  pub turns : (before after : List (ℕ × Bool)) (id : ℕ) (mark : Bool) → marked ≡ before ++ (id, mark) ∷ after → IsCandidate graph before id
      × ((other : ℕ) → IsCandidate graph before other → other ≢ id → GoesFirst rate id other)
      × ((mark ≡ true) ↔ StaysWithin bounds rate graph (kept_of before) id)
  pub ended : (id : ℕ) → IsCandidate graph marked id → ⊥

-- the names that trimming drops, in rising order: those that aren't kept
pub record IsTrimmed (bounds : Bounds) (rate : ℕ → Sum) (graph : Graph) (dropped : List ℕ) : Type 0 where
  pub marked : List (ℕ × Bool)
  pub marks : AreMarked bounds rate graph marked
  pub rest : Lists (λ id. Contains graph.names id × (Contains (kept_of marked) id → ⊥)) dropped
