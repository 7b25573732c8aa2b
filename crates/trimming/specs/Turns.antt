-- How candidates are looked at one after the other, by places.
use Rattle.std.specs.Prelude.{◌≡◌, ◌≢◌, ◌↔◌, ℕ, ◌<◌, Bool, true, false, List, ◌∷◌, ◌++◌, map, length, Contains}
use Rattle.lists.specs.Distinct.{AreDistinct}
use Rattle.graph_model.specs.Limits.{Bounds, AreOver}
use Rattle.graph_model.specs.Trims.{kept_of}
use Rattle.trimming.specs.Nets.{size_at, IsParent}
use Rattle.trimming.specs.Ties.{AreTied, Or}
use Rattle.trimming.specs.Counts.{ArePassed}
use Rattle.trimming.specs.Rooms.{IsReady}
use Rattle.trimming.specs.Teams.{IsKept, AreTeams}
use Rattle.trimming.specs.declared.net.Net.{Net}
use Rattle.trimming.specs.declared.turns.Trim.{Trim}

-- A place that wasn't looked at, and whose parents are all kept.
pub record IsNext (net : Net) (marked : List (ℕ × Bool)) (place : ℕ) : Type 0 where
  pub within : place < length net.txs.items
  pub fresh : Contains (map (λ entry. entry.0) marked) place → ⊥
  pub parents : (a : ℕ) → IsParent net a place → Contains (kept_of marked) a

-- Some places of the component of a place beside those that are kept. Where it is kept, they are the whole component and within the limits;
-- where it isn't, they are over the limits.
pub record IsJudged (bounds : Bounds) (net : Net) (kept : List ℕ) (place : ℕ) (mark : Bool) : Type 0 where
  pub found : List ℕ
  pub once : AreDistinct found
  pub sound : (x : ℕ) → Contains found x → AreTied (IsParent net) (Or (Contains kept) place) place x
  pub stays : mark ≡ true → ((x : ℕ) → AreTied (IsParent net) (Or (Contains kept) place) place x → Contains found x)
      × (AreOver bounds (size_at net.txs.items) found → ⊥)
  pub goes : mark ≡ false → AreOver bounds (size_at net.txs.items) found

-- At each turn the first of the candidates was looked at, and judged.
abbrev pub AreTurns : Bounds → Net → List (ℕ × Bool) → Type 0
AreTurns bounds net marked =
    (before after : List (ℕ × Bool)) (place : ℕ) (mark : Bool) → marked ≡ before ++ (place, mark) ∷ after
    → IsNext net before place × ((other : ℕ) → IsNext net before other → other ≢ place → place < other)
    × IsJudged bounds net (kept_of before) place mark

-- A trimming that is under way, with these candidates.
pub record IsTrim (bounds : Bounds) (net : Net) (coming : List ℕ) (trim : Trim) : Type 0 where
  pub teams_are : AreTeams net trim.teams
  pub room_is : IsReady (length net.txs.items) trim.room
  pub kept : (place : ℕ) → IsKept trim.teams place ↔ Contains (kept_of trim.marked.items) place
  pub turns : AreTurns bounds net trim.marked.items
  pub passed : ArePassed net trim.teams.kept.items trim.counts.passed.items
  pub exact : (place : ℕ) → Contains coming place ↔ IsNext net trim.marked.items place
