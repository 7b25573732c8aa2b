-- Places that a walk has found, each with a mark.
use Rattle.std.specs.Prelude.{◌≡◌, ◌↔◌, ℕ, ◌<◌, ◌≤◌, Bool, true, false, List, ◌++◌, length, Contains, slice_index_or, vec_capacity}
use Rattle.lists.specs.Distinct.{AreDistinct}
use Rattle.graphs.specs.Graphs.{IsAncestor}
use Rattle.links.specs.declared.walker.Walker.{Walker}

abbrev pub mark_at : List Bool → ℕ → Bool
mark_at marks place = slice_index_or marks place false

-- Of so many places exactly those that were found have a mark. Each was found once.
pub record AreMarked (count : ℕ) (marks : List Bool) (found : List ℕ) : Type 0 where
  pub sized : length marks ≡ count
  pub once : AreDistinct found
  pub within : (place : ℕ) → Contains found place → place < count
  pub exact : (place : ℕ) → place < count → (mark_at marks place ≡ true) ↔ Contains found place

-- No place has a mark, and there is room for all places.
pub record IsReady (count : ℕ) (walker : Walker) : Type 0 where
  pub sized : length walker.marks.items ≡ count
  pub clear : (place : ℕ) → place < count → mark_at walker.marks.items place ≡ false
  pub room : count ≤ vec_capacity walker.found

-- Places were found with their marks, and there is room for all places.
pub record IsWalking (count : ℕ) (walker : Walker) : Type 0 where
  pub marked : AreMarked count walker.marks.items walker.found.items
  pub room : count ≤ vec_capacity walker.found

-- Places with a property were put behind those that were found.
pub record Finds (P : ℕ → Type 0) (old new : List ℕ) : Type 0 where
  pub more : List ℕ
  pub is : new ≡ old ++ more
  pub each : (place : ℕ) → Contains more place → P place

-- What a whole walk along steps (to, from) finds: each place from which steps lead on the way to `from`, that is each ancestor of it,
-- once.
pub record FindsAll (steps : List (ℕ × ℕ)) (from : ℕ) (found : List ℕ) : Type 0 where
  pub once : AreDistinct found
  pub exact : (place : ℕ) → Contains found place ↔ IsAncestor steps place from

-- What a whole walk from several starts finds: each ancestor of one of them, once.
pub record FindsFrom (steps : List (ℕ × ℕ)) (IsStart : ℕ → Type 0) (found : List ℕ) : Type 0 where
  pub once : AreDistinct found
  pub exact : (place : ℕ) → Contains found place ↔ ((from : ℕ) × IsStart from × IsAncestor steps place from)
