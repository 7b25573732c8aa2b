-- A search by depth from children to parents, as it stands at any moment.
use Rattle.std.specs.Prelude.{◌≡◌, ◌≢◌, ℕ, ◌+◌, ◌-◌, ◌<◌, ◌≤◌, List, length, slice_index, slice_index_or, sum, sum_by}
use Rattle.graphs.specs.Graphs.{Walk, IsAncestor}
use Rattle.certificate.specs.declared.cycles.Visit.{Visit}
use Rattle.certificate.specs.declared.cycles.Visit.TheVariants.{New, Open, Done}
use Rattle.places.specs.Chains.{pair_at, IsLast}

abbrev pub visit_at : List Visit → ℕ → Visit
visit_at visits place = slice_index_or visits place New

-- The pairs before `left` are still to be looked at for a place, the last of them leads to it, and what
-- was looked at comes from places that are done.
pub record IsLooked (pairs : List (ℕ × ℕ)) (visits : List Visit) (place left : ℕ) : Type 0 where
  pub below : left ≤ length pairs
  pub into : 0 < left → (pair_at pairs (left - 1)).1 ≡ place
  pub looked : (k : ℕ) → left ≤ k → k < length pairs → (pair_at pairs k).1 ≡ place → visit_at visits (pair_at pairs k).0 ≡ Done

-- The way is of open places, each once, and each later one is an ancestor of each earlier one.
pub record IsWay (pairs : List (ℕ × ℕ)) (visits : List Visit) (way : List ℕ) : Type 0 where
  pub within : (i : ℕ) → i < length way → slice_index way i < length visits
  pub is_open : (i : ℕ) → i < length way → visit_at visits (slice_index way i) ≡ Open
  pub once : (i j : ℕ) → i < j → j < length way → slice_index way i ≢ slice_index way j
  pub upward : (i j : ℕ) → i ≤ j → j < length way → IsAncestor pairs (slice_index way j) (slice_index way i)

-- The state of a search: open places are on the way, parents of done places are done, and no cycle goes through one that is done.
pub record IsSearch (pairs : List (ℕ × ℕ)) (left : List ℕ) (visits : List Visit) (way : List ℕ) : Type 0 where
  pub sized : length left ≡ length visits
  pub looking : (place : ℕ) → place < length visits → IsLooked pairs visits place (slice_index left place)
  pub open_way : IsWay pairs visits way
  pub on_way : (place : ℕ) → place < length visits → visit_at visits place ≡ Open → (i : ℕ) × (i < length way) × (slice_index way i ≡ place)
  pub parents : (k : ℕ) → k < length pairs → visit_at visits (pair_at pairs k).1 ≡ Done → visit_at visits (pair_at pairs k).0 ≡ Done
  pub acyclic : (place n : ℕ) → visit_at visits place ≡ Done → Walk pairs place place n → n ≡ 0

-- The work that is left with a place.
abbrev pub weight_of : Visit → ℕ
weight_of New = 2
weight_of Open = 1
weight_of Done = 0

-- The work that is left.
abbrev pub work_of : List ℕ → List Visit → ℕ
work_of left visits = sum left + sum_by weight_of visits

-- A search went on from one moment to another.
pub record GoesOn (pairs : List (ℕ × ℕ)) (visits : List Visit) (left' : List ℕ) (visits' : List Visit) (way' : List ℕ) : Type 0 where
  pub search : IsSearch pairs left' visits' way'
  pub sized : length visits' ≡ length visits
  pub done : (place : ℕ) → visit_at visits place ≡ Done → visit_at visits' place ≡ Done
  pub reached : (place : ℕ) → visit_at visits place ≢ New → visit_at visits' place ≢ New

-- Each pair leads on to the one before it with the same child.
abbrev pub LeadBack : List (ℕ × ℕ) → List ℕ → Type 0
LeadBack pairs before = (k : ℕ) → k < length pairs → IsLast pairs (pair_at pairs k).1 k (slice_index before k)
