-- Orders as ranks: for each place where its name stands in the order.
use Rattle.std.specs.Prelude.{◌≡◌, ◌↔◌, ℕ, ◌<◌, ◌≤◌, List, length, Contains, Option, Some, None, slice_index, slice_index_or, is_some, count_by, replicate}
use Rattle.lists.specs.Distinct.{AreDistinct}
use Rattle.certificate.specs.declared.order.Desk.{Desk}
use Rattle.places.specs.Chains.{pair_at}
use Rattle.certificate.specs.Groups.{AreGroups}

-- The order is of the names, each once.
pub record IsOrderOf (names order : List ℕ) : Type 0 where
  pub once : AreDistinct order
  pub members : (id : ℕ) → Contains order id ↔ Contains names id

-- The seat of a place: where its name stands in the order so far, if it does.
abbrev pub seat_at : List (Option ℕ) → ℕ → Option ℕ
seat_at seats place = slice_index_or seats place None

pub record AreSeats (names order : List ℕ) (seats : List (Option ℕ)) : Type 0 where
  pub sized : length seats ≡ length names
  pub sound : (place rank : ℕ) → place < length names → seat_at seats place ≡ Some rank
      → (rank < length order) × (slice_index order rank ≡ slice_index names place)
  pub complete : (rank : ℕ) → rank < length order
      → (place : ℕ) × (place < length names) × (slice_index names place ≡ slice_index order rank) × (seat_at seats place ≡ Some rank)
  pub count : length order ≡ count_by is_some seats

-- All seats are taken, by these ranks.
pub record AreTaken (seats : List (Option ℕ)) (ranks : List ℕ) : Type 0 where
  pub sized : length ranks ≡ length seats
  pub taken : (place : ℕ) → place < length seats → seat_at seats place ≡ Some (slice_index ranks place)

-- Each place has its rank.
pub record AreRanks (names order ranks : List ℕ) : Type 0 where
  pub sized : length ranks ≡ length names
  pub few : length order ≤ length names
  pub stands : (place : ℕ) → place < length names
      → (slice_index ranks place < length order) × (slice_index order (slice_index ranks place) ≡ slice_index names place)

-- Each pair leads from a lower rank to a higher one.
abbrev pub Rise : List ℕ → List (ℕ × ℕ) → Type 0
Rise ranks pairs = (k : ℕ) → k < length pairs → slice_index ranks (pair_at pairs k).0 < slice_index ranks (pair_at pairs k).1

-- All names are of one group.
abbrev pub AreOfOneGroup : (ℕ → Option ℕ) → List ℕ → List ℕ → Type 0
AreOfOneGroup find groups ids =
    (a b p q : ℕ) → Contains ids a → Contains ids b → find a ≡ Some p → find b ≡ Some q → slice_index groups p ≡ slice_index groups q

-- The room of the test of an order, before the test: the order, and for each place its group, no seat and room for its rank.
pub record IsLaid (count : ℕ) (pairs : List (ℕ × ℕ)) (ids : List ℕ) (desk : Desk) : Type 0 where
  pub order : desk.order.items ≡ ids
  pub sized : length desk.groups.items ≡ count
  pub groups : AreGroups pairs desk.groups.items
  pub seats : desk.seats.items ≡ replicate count None
  pub ranks : length desk.ranks.items ≡ count
