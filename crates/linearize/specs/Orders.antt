-- The places of a part in an order, and its flows as a list.
use Rattle.std.specs.Prelude.{◌≡◌, ◌↔◌, ℕ, ◌<◌, true, nat_lt, pos, ◌-ℤ◌}
use Rattle.std.specs.Prelude.{List, length, map, filter, flat_map, sum_by, Contains}
use Rattle.std.specs.Ordering.{nat_cmp}
use Rattle.std.specs.FinSet as set
use Rattle.graphs.specs.Closures.{Closure, IsCover}
use Rattle.lists.specs.Distinct.{AreDistinct}
use Rattle.bitset.specs.Places.{places}
use Rattle.closure_flow.specs.Closures.{parents_at}
use Rattle.fee_rate.specs.declared.rates.Sum.{Sum}
use Rattle.graphs.specs.declared.names.Flow.{Flow}
use Rattle.graphs.specs.Rates.{sums}
use Rattle.graphs.specs.Linearizations.{StandsBefore}
use Rattle.graphs.specs.Certificates.{weight_in}
use Rattle.linearize.specs.Graphs.{sum_at}

-- for each place of a set a list has the set of its covering parents
pub record AreCovers (dep : Closure) (s : set.FinSet nat_cmp) (parents : List (set.FinSet nat_cmp)) : Type 0 where
  pub there : (c : ℕ) → set.contains s c ≡ true → c < length parents
  pub exact : (p c : ℕ) → set.contains s c ≡ true → (set.contains (parents_at parents c) p ≡ true) ↔ IsCover dep p c

-- the places of a set, each once, and each covering parent of the set before its children
pub record IsOrderOf (dep : Closure) (s : set.FinSet nat_cmp) (ids : List ℕ) : Type 0 where
  pub once : AreDistinct ids
  pub exact : (p : ℕ) → Contains ids p ↔ (set.contains s p ≡ true)
  pub parents_first : (p c : ℕ) → IsCover dep p c → set.contains s p ≡ true → set.contains s c ≡ true
      → StandsBefore ids p c

-- the fee and the size of a set of places below n
abbrev pub sums_in : ℕ → Closure → set.FinSet nat_cmp → Sum
sums_in n dep s = sums (sum_at dep) (places n s)

-- flow runs from children to covering parents, and what each place of a set sends within it, less what it gets there,
-- is its weight in the set
pub record Balances (n : ℕ) (dep : Closure) (parents : List (set.FinSet nat_cmp)) (s : set.FinSet nat_cmp)
    (flow : ℕ → ℕ → ℕ) : Type 0 where
  pub even : (t : ℕ) → set.contains s t ≡ true
      → weight_in (sums_in n dep s) (sum_at dep t)
      ≡ pos (sum_by (λ p. flow t p) (places n s)) -ℤ pos (sum_by (λ c. flow c t) (places n s))
  pub pair : (c p : ℕ) → 0 < flow c p → set.contains (parents_at parents c) p ≡ true

-- what a child sends to some places, as a list
unfoldable pub flows_from : (ℕ → ℕ → ℕ) → ℕ → List ℕ → List Flow
flows_from flow child parents =
    map (λ parent. record { child = child; parent = parent; amount = flow child parent })
    (filter (λ parent. nat_lt 0 (flow child parent)) parents)

-- the covering parents of a place in a set
abbrev pub parents_within : ℕ → List (set.FinSet nat_cmp) → set.FinSet nat_cmp → ℕ → List ℕ
parents_within n parents s child = places n (set.intersection (parents_at parents child) s)

-- what the places of a list send to their covering parents in a set
unfoldable pub flows_of : ℕ → List (set.FinSet nat_cmp) → set.FinSet nat_cmp → (ℕ → ℕ → ℕ) → List ℕ → List Flow
flows_of n parents s flow children =
    flat_map (λ child. flows_from flow child (parents_within n parents s child)) children

-- what the places of a set send within it
abbrev pub flows_in_set : ℕ → List (set.FinSet nat_cmp) → set.FinSet nat_cmp → (ℕ → ℕ → ℕ) → List Flow
flows_in_set n parents s flow = flows_of n parents s flow (places n s)
