-- What a set of places is linearized to.
use Rattle.std.specs.Prelude.{◌≡◌, ◌≢◌, ℕ, ◌+◌, ◌*◌, ◌<◌, ◌≤◌, ℤ, pos, ◌≤ℤ◌, true, List, [], ◌∷◌, ◌++◌, length, Contains}
use Rattle.std.specs.Ordering.{nat_cmp}
use Rattle.std.specs.FinSet as set
use Rattle.graphs.specs.Closures.{Closure, IsCover, IsClosed, HoldsMembers}
use Rattle.closure_flow.specs.Closures.{IsBalanced, IsNoneHeavier, weight_at}
use Rattle.fee_rate.specs.declared.rates.Sum.{Sum}
use Rattle.fee_rate.specs.Rates.{AtMost, Same}
use Rattle.graphs.specs.Certificates.{Part, HasFalling, HasFlows, weight_in}
use Rattle.linearize.specs.Graphs.{HasRates, most_members, sum_at}
use Rattle.linearize.specs.Drafts.{Written, placed, flows_in}
use Rattle.linearize.specs.Orders.{AreCovers, IsOrderOf, sums_in}

-- some places of a set, with every covering parent of the set
pub record IsUpper (dep : Closure) (s x : set.FinSet nat_cmp) : Type 0 where
  pub inside : (p : ℕ) → set.contains x p ≡ true → set.contains s p ≡ true
  pub parents : (p c : ℕ) → IsCover dep p c → set.contains x c ≡ true → set.contains s p ≡ true
      → set.contains x p ≡ true

-- some places of a set, with everything of the set that they cover
pub record IsLower (dep : Closure) (s x : set.FinSet nat_cmp) : Type 0 where
  pub inside : (p : ℕ) → set.contains x p ≡ true → set.contains s p ≡ true
  pub children : (p c : ℕ) → IsCover dep p c → set.contains x p ≡ true → set.contains s c ≡ true
      → set.contains x c ≡ true

-- some places of a part, with every covering parent of the part
pub record IsUpperIn (dep : Closure) (ids : List ℕ) (x : set.FinSet nat_cmp) : Type 0 where
  pub inside : (p : ℕ) → set.contains x p ≡ true → Contains ids p
  pub parents : (p c : ℕ) → IsCover dep p c → set.contains x c ≡ true → Contains ids p → set.contains x p ≡ true

-- such places that have the part's rate, and are at least one, are all of it
abbrev pub IsUncutPart : ℕ → Closure → Part → Type 0
IsUncutPart n dep part =
    (x : set.FinSet nat_cmp) → IsUpperIn dep part.ids x → 0 < set.len x → Same (sums_in n dep x) part.rate
    → (p : ℕ) → Contains part.ids p → set.contains x p ≡ true

-- Certified parts of a set, of falling rate, parents first, none of which can be cut further. Their rates lie between any rate that no upper set of it is
-- above and any that no lower set is below.
pub record Linearizes (n : ℕ) (dep : Closure) (s : set.FinSet nat_cmp) (parts : List Part) : Type 0 where
  pub order : IsOrderOf dep s (placed parts)
  pub filled : (part : Part) → Contains parts part → part.ids ≢ []
  pub falling : HasFalling (sum_at dep) parts
  pub flows : HasFlows (sum_at dep) (IsCover dep) parts
  pub uncut : (part : Part) → Contains parts part → IsUncutPart n dep part
  pub at_most : (rate : Sum) → ((x : set.FinSet nat_cmp) → IsUpper dep s x → AtMost (sums_in n dep x) rate)
      → (part : Part) → Contains parts part → AtMost part.rate rate
  pub at_least : (rate : Sum) → ((x : set.FinSet nat_cmp) → IsLower dep s x → AtMost rate (sums_in n dep x))
      → (part : Part) → Contains parts part → AtMost rate part.rate

-- a set that a set may be cut on: an upper set of greatest weight in it, neither none of it nor all
pub record IsCut (n : ℕ) (dep : Closure) (s c : set.FinSet nat_cmp) : Type 0 where
  pub upper : IsUpper dep s c
  pub some : 0 < set.len c
  pub others : 0 < set.len (set.difference s c)
  pub greatest : (x : set.FinSet nat_cmp) → IsUpper dep s x
      → weight_in (sums_in n dep s) (sums_in n dep x) ≤ℤ weight_in (sums_in n dep s) (sums_in n dep c)

-- each upper set of a set that has its rate and at least one place is all of it
abbrev pub IsUncut : ℕ → Closure → set.FinSet nat_cmp → Type 0
IsUncut n dep s =
    (x : set.FinSet nat_cmp) → IsUpper dep s x → 0 < set.len x → Same (sums_in n dep x) (sums_in n dep s)
    → (p : ℕ) → set.contains s p ≡ true → set.contains x p ≡ true

-- the weights that places have in a set, none of whose upper sets weighs more than 0, as a flow shows that balances them
pub record IsSolved (n : ℕ) (dep : Closure) (parents : List (set.FinSet nat_cmp)) (s : set.FinSet nat_cmp)
    (flow : ℕ → ℕ → ℕ) : Type 0 where
  pub weights : List ℤ
  pub are : (t : ℕ) → set.contains s t ≡ true → weight_at weights t ≡ weight_in (sums_in n dep s) (sum_at dep t)
  pub none : IsNoneHeavier n weights parents s (pos 0)
  pub balanced : IsBalanced n weights parents s flow

-- parts behind others that linearize a set: no more of them than it has places, and four times their flows are at most
-- its number of places squared
pub record Adds (n : ℕ) (dep : Closure) (s : set.FinSet nat_cmp) (old new : Written) : Type 0 where
  pub parts : List Part
  pub is : new ≡ record { parts = old.parts ++ parts; ids = []; flows = [] }
  pub linear : Linearizes n dep s parts
  pub places : length (placed parts) ≡ set.len s
  pub few : length parts ≤ set.len s
  pub few_flows : 4 * length (flows_in parts) ≤ set.len s * set.len s

-- one part behind others, with so many places
pub record AddsOne (n : ℕ) (old new : Written) : Type 0 where
  pub part : Part
  pub is : new.parts ≡ old.parts ++ part ∷ []
  pub places : length part.ids ≡ n

-- no part is open, and there is room for the places of a set, for as many parts, and for their flows
pub record HasRoom (n : ℕ) (s : set.FinSet nat_cmp) (written : Written) : Type 0 where
  pub ids : written.ids ≡ []
  pub flows : written.flows ≡ []
  pub for_places : length (placed written.parts) + set.len s ≤ n
  pub for_parts : length written.parts + set.len s ≤ n
  pub for_flows : 4 * length (flows_in written.parts) + set.len s * set.len s ≤ n * n

-- a set of members that may be linearized, with the covering parents of each of them at hand
pub record IsReady (n : ℕ) (dep : Closure) (parents : List (set.FinSet nat_cmp)) (s : set.FinSet nat_cmp)
    (written : Written) : Type 0 where
  pub closed : IsClosed n dep
  pub members : HoldsMembers dep s
  pub some : 0 < set.len s
  pub few : set.len s ≤ most_members
  pub rates : HasRates dep
  pub covers : AreCovers dep s parents
  pub room : HasRoom n s written
