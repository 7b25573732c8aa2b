-- Closures: members with their fees and sizes, and who is an ancestor of whom, without the pairs that this comes from. `DepGraph` in
-- Bitcoin Core's `cluster_linearize.h` is a closure.
use Rattle.std.specs.Prelude.{◌≡◌, ◌≢◌, ℕ, ◌+◌, ◌<◌, ◌≤◌, ◌⊎◌, Bool, true, false, ◌&&◌, ◌||◌, not, nat_eq, nat_lt, List, length, slice_index, ℤ, pos, Option, Some, None, refl}
use Rattle.std.specs.Ordering.{nat_cmp}
use Rattle.std.specs.Coded.{Coded, code_by, coded×, coded_ℕ, coded_ℤ}
use Rattle.std.specs.FinSet as set
use Rattle.std.specs.FinMap as map
use Rattle.lists.specs.Walks.{Walk}
use Rattle.fee_rate.specs.declared.rates.FeeRate.{FeeRate}

-- A member: its fee and size, and its ancestors.
pub record Node : Type 0 where
  pub rate : FeeRate
  pub ancestors : set.FinSet nat_cmp

abbrev pub node_code : Coded Node
node_code =
    code_by (ℤ × (ℕ × set.FinSet nat_cmp)) (coded× coded_ℤ (coded× coded_ℕ (set.code coded_ℕ)))
    (λ n. (n.rate.fee, (n.rate.size, n.ancestors))) (λ p. record { rate = record { fee = p.0; size = p.1.0 }; ancestors = p.1.1 }) (λ _. refl)

abbrev pub Closure : Type 0
Closure = map.FinMap nat_cmp Node

abbrev pub closure_code : Coded Closure
closure_code = map.code coded_ℕ node_code

-- ---- what is asked of a closure

unfoldable pub is_member : Closure → ℕ → Bool
is_member g p = map.contains_key g p

-- The fee and size of a place that is no member.
abbrev pub no_rate : FeeRate
no_rate = record { fee = pos 0; size = 0 }

abbrev pub rate_in : Option Node → FeeRate
rate_in None = no_rate
rate_in (Some n) = n.rate

abbrev pub ancestors_in : Option Node → set.FinSet nat_cmp
ancestors_in None = set.empty
ancestors_in (Some n) = n.ancestors

-- The fee and the size of a member.
unfoldable pub rate_of : Closure → ℕ → FeeRate
rate_of g p = rate_in (map.get g p)

-- The ancestors of a place; none where the place is no member.
unfoldable pub ancestors_of : Closure → ℕ → set.FinSet nat_cmp
ancestors_of g p = ancestors_in (map.get g p)

-- Whether a is an ancestor of d.
abbrev pub is_ancestor : Closure → ℕ → ℕ → Bool
is_ancestor g a d = set.contains (ancestors_of g d) a

unfoldable pub members_of : Closure → set.FinSet nat_cmp
members_of g = set.from_list (map.keys g)

-- The members that a place is an ancestor of.
abbrev pub descendants_of : Closure → ℕ → set.FinSet nat_cmp
descendants_of g p = set.retain (members_of g) (λ d. is_ancestor g p d)

-- A partial order on the members: only members are related, each member is related to itself, relations chain, and no two different
-- members are related both ways.
pub record IsOrder (member : ℕ → Bool) (above : ℕ → ℕ → Bool) : Type 0 where
  pub among : (a d : ℕ) → above a d ≡ true → (member a ≡ true) × (member d ≡ true)
  pub reflexive : (p : ℕ) → member p ≡ true → above p p ≡ true
  pub transitive : (a b c : ℕ) → above a b ≡ true → above b c ≡ true → above a c ≡ true
  pub antisymmetric : (a b : ℕ) → above a b ≡ true → above b a ≡ true → a ≡ b

-- A closure with places below n, whose ancestor relation is a partial order on the members.
pub record IsClosed (n : ℕ) (g : Closure) : Type 0 where
  pub within : (p : ℕ) → is_member g p ≡ true → p < n
  pub order : IsOrder (is_member g) (is_ancestor g)

-- a is a covering parent of d: an ancestor of d, where no third place is both a descendant of a and an ancestor of d.
pub record IsCover (g : Closure) (a d : ℕ) : Type 0 where
  pub ancestor : is_ancestor g a d ≡ true
  pub other : a ≢ d
  pub direct : (m : ℕ) → is_ancestor g a m ≡ true → is_ancestor g m d ≡ true → (m ≡ a) ⊎ (m ≡ d)

-- The set has members alone.
abbrev pub HoldsMembers : Closure → set.FinSet nat_cmp → Type 0
HoldsMembers g s = (p : ℕ) → set.contains s p ≡ true → is_member g p ≡ true

-- One of the two is an ancestor of the other.
abbrev pub IsRelated : Closure → ℕ → ℕ → Type 0
IsRelated g a b = (is_ancestor g a b ≡ true) ⊎ (is_ancestor g b a ≡ true)

-- Steps to ancestors and to descendants lead from a to b: the two are in one component.
abbrev pub AreLinked : Closure → ℕ → ℕ → Type 0
AreLinked g a b = Walk (IsRelated g) a b

-- Two places of a set, one of them an ancestor of the other.
pub record IsNear (g : Closure) (within : set.FinSet nat_cmp) (a b : ℕ) : Type 0 where
  pub from_within : set.contains within a ≡ true
  pub to_within : set.contains within b ≡ true
  pub related : IsRelated g a b

-- ---- changes, each told by what the closure answers after it

-- One more member comes in, at the least free place, related to no other.
pub record AddsPlace (old new : Closure) (rate : FeeRate) (place : ℕ) : Type 0 where
  pub free : is_member old place ≡ false
  pub least : (p : ℕ) → p < place → is_member old p ≡ true
  pub members : (p : ℕ) → is_member new p ≡ (nat_eq p place || is_member old p)
  pub rate_is : rate_of new place ≡ rate
  pub rates : (p : ℕ) → p ≢ place → rate_of new p ≡ rate_of old p
  pub ancestors : (a d : ℕ) → is_ancestor new a d ≡ ((nat_eq a place && nat_eq d place) || is_ancestor old a d)

-- One more pair comes in: the descendants of the child get the ancestors of the parent.
pub record AddsPair (old new : Closure) (parent child : ℕ) : Type 0 where
  pub members : (p : ℕ) → is_member new p ≡ is_member old p
  pub rates : (p : ℕ) → rate_of new p ≡ rate_of old p
  pub ancestors : (a d : ℕ) → is_ancestor new a d ≡ (is_ancestor old a d || (is_ancestor old a parent && is_ancestor old child d))

-- One member gets another fee.
pub record SetsFee (old new : Closure) (place : ℕ) (fee : ℤ) : Type 0 where
  pub members : (p : ℕ) → is_member new p ≡ is_member old p
  pub rate_is : rate_of new place ≡ record { fee = fee; size = (rate_of old place).size }
  pub rates : (p : ℕ) → p ≢ place → rate_of new p ≡ rate_of old p
  pub ancestors : (a d : ℕ) → is_ancestor new a d ≡ is_ancestor old a d

-- One member goes: the others keep their rates and the relation among themselves.
pub record DropsPlace (old new : Closure) (place : ℕ) : Type 0 where
  pub members : (p : ℕ) → is_member new p ≡ (not (nat_eq p place) && is_member old p)
  pub rates : (p : ℕ) → p ≢ place → rate_of new p ≡ rate_of old p
  pub ancestors : (a d : ℕ) → is_ancestor new a d ≡ (not (nat_eq a place) && (not (nat_eq d place) && is_ancestor old a d))

-- ---- graphs with places of their own

-- The places of h from `first` on are copies of these places of g, in this order: with their rates, and the relation among them.
pub record IsCopy (g : Closure) (ps : List ℕ) (first : ℕ) (h : Closure) : Type 0 where
  pub rates : (i : ℕ) → i < length ps → rate_of h (first + i) ≡ rate_of g (slice_index ps i)
  pub ancestors : (i j : ℕ) → i < length ps → j < length ps → is_ancestor h (first + i) (first + j) ≡ is_ancestor g (slice_index ps i) (slice_index ps j)

-- h has these places of g, and no other.
pub record IsPart (g : Closure) (ps : List ℕ) (h : Closure) : Type 0 where
  pub members : (k : ℕ) → is_member h k ≡ nat_lt k (length ps)
  pub copy : IsCopy g ps 0 h

-- h has these places of f, then these places of g, and no other. No place of f is related to one of g.
pub record IsMerged (f g : Closure) (ps qs : List ℕ) (h : Closure) : Type 0 where
  pub members : (k : ℕ) → is_member h k ≡ nat_lt k (length ps + length qs)
  pub first : IsCopy f ps 0 h
  pub second : IsCopy g qs (length ps) h
  pub apart : (i j : ℕ) → i < length ps → length ps ≤ j → (is_ancestor h i j ≡ false) × (is_ancestor h j i ≡ false)
