-- The places that are kept, in teams.
use Rattle.std.specs.Prelude.{◌≡◌, ◌↔◌, ℕ, ◌<◌, ◌≤◌, true, List, length, slice_index_or, Contains}
use Rattle.lists.specs.Distinct.{AreDistinct}
use Rattle.links.specs.Walkers.{mark_at}
use Rattle.trimming.specs.Nets.{list_at, IsParent}
use Rattle.trimming.specs.Ties.{AreTied, Or}
use Rattle.trimming.specs.declared.net.Net.{Net}
use Rattle.trimming.specs.declared.teams.Teams.{Teams}

abbrev pub IsKept : Teams → ℕ → Type 0
IsKept teams place = mark_at teams.kept.items place ≡ true

abbrev pub leader_of : Teams → ℕ → ℕ
leader_of teams place = slice_index_or teams.leader.items place 0

abbrev pub team_of : Teams → ℕ → List ℕ
team_of teams place = list_at teams.lists.items (leader_of teams place)

-- there is an entry for each of so many places
pub record AreSized (count : ℕ) (teams : Teams) : Type 0 where
  pub kept : length teams.kept.items ≡ count
  pub leader : length teams.leader.items ≡ count
  pub lists : length teams.lists.items ≡ count

-- Places are kept with all their parents. The team of a place that is kept is its component among those that are kept.
pub record AreTeams (net : Net) (teams : Teams) : Type 0 where
  pub sized : AreSized (length net.txs.items) teams
  pub closed : (a b : ℕ) → IsParent net a b → IsKept teams b → IsKept teams a
  pub leaders : (place : ℕ) → IsKept teams place
      → (leader_of teams place < length net.txs.items) × AreTied (IsParent net) (IsKept teams) place (leader_of teams place)
  pub exact : (place x : ℕ) → IsKept teams place → Contains (team_of teams place) x ↔ AreTied (IsParent net) (IsKept teams) place x

-- Places that were found for a place beside those that are kept: each once, the place itself among them, all of its component, and where they are no more than `most`,
-- its whole component.
pub record AreGathered (net : Net) (teams : Teams) (place most : ℕ) (found : List ℕ) : Type 0 where
  pub once : AreDistinct found
  pub here : Contains found place
  pub within : (x : ℕ) → Contains found x → x < length net.txs.items
  pub sound : (x : ℕ) → Contains found x → AreTied (IsParent net) (Or (IsKept teams) place) place x
  pub all : length found ≤ most → (x : ℕ) → AreTied (IsParent net) (Or (IsKept teams) place) place x → Contains found x

-- Places that were found have all of those that are kept and tied to one of them.
abbrev pub AreWhole : Net → Teams → List ℕ → Type 0
AreWhole net teams found =
    (x y : ℕ) → Contains found x → IsKept teams x → AreTied (IsParent net) (IsKept teams) x y → Contains found y

-- One more place is kept, and places form a team with it as the leader. The lists of other places stay.
pub record HasJoined (place : ℕ) (places : List ℕ) (old new : Teams) : Type 0 where
  pub sized : AreSized (length old.kept.items) new
  pub kept : (x : ℕ) → IsKept new x ↔ Or (IsKept old) place x
  pub inside : (x : ℕ) → Contains places x → leader_of new x ≡ place
  pub outside : (x : ℕ) → (Contains places x → ⊥) → leader_of new x ≡ leader_of old x
  pub team : list_at new.lists.items place ≡ places
  pub others : (x : ℕ) → (Contains places x → ⊥) → list_at new.lists.items x ≡ list_at old.lists.items x
