-- The links of each component.
use Rattle.std.specs.Prelude.{◌≢◌, ◌↔◌, ℕ, ℤ, ◌<◌, List, [], length, slice_index, Contains, AllPairs}
use Rattle.graphs.specs.Graphs.{AreConnected}
use Rattle.links.specs.Links.{Links, Has}
use Rattle.links.specs.Kept.{names_of}
use Rattle.links.specs.Pairs.{AreSplit}

-- Of all names, one of the first list stands before each of the second list.
abbrev pub StandsBefore : List ℕ → List ℕ → List ℕ → Type 0
StandsBefore all first second =
    (i : ℕ) × (i < length all) × Contains first (slice_index all i)
    × ((j : ℕ) → j < length all → Contains second (slice_index all j) → i < j)

-- Links of one component each: together they have these transactions and pairs. No two of them have a name in common, and they come in
-- the order of the first name of each. Each has a name, and its pairs connect its names.
pub record AreComponentsOf (old : Links) (parts : List Links) : Type 0 where
  pub txs : (id : ℕ) (fee : ℤ) (size : ℕ) → Contains {X = ℕ × ℤ × ℕ} old.txs (id, fee, size)
      ↔ ((part : Links) × Contains parts part × Contains {X = ℕ × ℤ × ℕ} part.txs (id, fee, size))
  pub pairs : (parent child : ℕ) → Contains {X = ℕ × ℕ} old.pairs (parent, child)
      ↔ ((part : Links) × Contains parts part × Contains {X = ℕ × ℕ} part.pairs (parent, child))
  pub apart : AllPairs (λ p q. AreSplit (names_of p.txs) (names_of q.txs)) parts
  pub order : AllPairs (λ p q. StandsBefore (names_of old.txs) (names_of p.txs) (names_of q.txs)) parts
  pub filled : (part : Links) → Contains parts part → part.txs ≢ []
  pub whole : (part : Links) → Contains parts part → (a b : ℕ) → Has part a → Has part b → AreConnected part.pairs a b
