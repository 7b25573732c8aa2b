-- A network as it is kept: by parent the set of the children that send it flow, beside one flat matrix of amounts
-- that is read only where the child is in that set; by place what is left, with the places marked where it is not 0.
use Rattle.std.specs.Prelude.{◌≡◌, ℕ, zero, suc, ◌+◌, ◌*◌, ◌^◌, ◌<◌, ◌≤◌, ◌⊎◌, MatchOption, true, cond}
use Rattle.std.specs.Prelude.{List, length, get_or, ℤ, pos, ◌+ℤ◌, ◌-ℤ◌, ◌≤ℤ◌, ◌<ℤ◌}
use Rattle.std.specs.Ordering.{nat_cmp}
use Rattle.std.specs.FinSet as set
use Rattle.bitset.specs.Places.{places}
use Rattle.closure_flow.specs.Closures.{parents_at, weight_at}
use Rattle.closure_flow.specs.Flows.{net, only_at, surplus}
use Rattle.closure_flow.specs.Queues.{from_at, place_at}
use Rattle.closure_flow.specs.declared.queue.Entry.{Entry}
use borrow.Author.Differences.{up, down}

-- what a child sends to a parent
unfoldable pub sent : ℕ → List (set.FinSet nat_cmp) → List ℕ → ℕ → ℕ → ℕ
sent n into amounts c p = cond (set.contains (parents_at into p) c) (get_or amounts (p * n + c) 0) 0

-- there is room for n places
pub record IsSized (n : ℕ) (into : List (set.FinSet nat_cmp)) (amounts : List ℕ) (rest : List ℤ) : Type 0 where
  pub sets : length into ≡ n
  pub pairs : length amounts ≡ n * n
  pub rests : length rest ≡ n
  pub small : n * n < 2 ^ 64

-- a child stands in a parent's set only where it sends something
pub record IsLean (n : ℕ) (into : List (set.FinSet nat_cmp)) (amounts : List ℕ) : Type 0 where
  pub child : (c p : ℕ) → p < n → set.contains (parents_at into p) c ≡ true → c < n
  pub amount : (c p : ℕ) → p < n → set.contains (parents_at into p) c ≡ true → 0 < get_or amounts (p * n + c) 0

-- these are the places of a set at which what is left has a property
pub record AreMarked (within marked : set.FinSet nat_cmp) (rest : List ℤ) (P : ℤ → Type 0) : Type 0 where
  pub sound : (t : ℕ) → set.contains marked t ≡ true → (set.contains within t ≡ true) × P (weight_at rest t)
  pub complete : (t : ℕ) → set.contains within t ≡ true → P (weight_at rest t) → set.contains marked t ≡ true

-- something is left to be sent; something is lacking
abbrev pub IsOver : ℤ → Type 0
IsOver z = pos 0 <ℤ z

abbrev pub IsShort : ℤ → Type 0
IsShort z = z <ℤ pos 0

-- flow runs from children to parents within a set
abbrev pub IsAllowed : ℕ → List (set.FinSet nat_cmp) → set.FinSet nat_cmp → (ℕ → ℕ → ℕ) → Type 0
IsAllowed n parents within flow =
    (c p : ℕ) → c < n → set.contains within p ≡ true → 0 < flow c p
    → (set.contains within c ≡ true) × (set.contains (parents_at parents c) p ≡ true)

-- flows go along pairs, and no amount is large: it grows only as what is left to be sent falls
pub record IsSteady (n : ℕ) (parents : List (set.FinSet nat_cmp)) (within : set.FinSet nat_cmp) (flow : ℕ → ℕ → ℕ)
    (rest : ℕ → ℤ) : Type 0 where
  pub allowed : IsAllowed n parents within flow
  pub bounded : (c p : ℕ) → set.contains within c ≡ true → set.contains within p ≡ true
      → flow c p + surplus rest (places n within) < 2 ^ 127
  pub short : surplus rest (places n within) < 2 ^ 126

-- what a place sends on balance and what is left there add up to the same as before
abbrev pub Keeps : ℕ → set.FinSet nat_cmp → (ℕ → ℕ → ℕ) → (ℕ → ℤ) → (ℕ → ℕ → ℕ) → (ℕ → ℤ) → Type 0
Keeps n within flow rest flow' rest' =
    (t : ℕ) → set.contains within t ≡ true
    → rest' t +ℤ net (places n within) flow' t ≡ rest t +ℤ net (places n within) flow t

-- the flows and the rests of a network after some amounts went along pairs, from places that had them left to places
-- that lacked them
pub record Improves (n : ℕ) (parents : List (set.FinSet nat_cmp)) (within : set.FinSet nat_cmp) (flow : ℕ → ℕ → ℕ)
    (rest : ℕ → ℤ) (flow' : ℕ → ℕ → ℕ) (rest' : ℕ → ℤ) : Type 0 where
  pub steady : IsSteady n parents within flow' rest'
  pub keeps : Keeps n within flow rest flow' rest'

-- ---- the first flow
-- in the course of the first flow: no amount is large, since a place sends no more than it held when its turn came, and
-- the places to come have sent nothing
pub record IsFirst (n : ℕ) (parents : List (set.FinSet nat_cmp)) (within to_come : set.FinSet nat_cmp)
    (flow : ℕ → ℕ → ℕ) (rest : ℕ → ℤ) : Type 0 where
  pub allowed : IsAllowed n parents within flow
  pub inside : (t : ℕ) → set.contains to_come t ≡ true → set.contains within t ≡ true
  pub held : (c p : ℕ) → set.contains within c ≡ true → set.contains within p ≡ true → flow c p + up (rest c) < 2 ^ 126
  pub fresh : (c p : ℕ) → set.contains to_come c ≡ true → set.contains within p ≡ true → flow c p ≡ 0
  pub short : surplus rest (places n within) < 2 ^ 126

-- the flows and the rests after some more of the first flow
pub record Arranges (n : ℕ) (parents : List (set.FinSet nat_cmp)) (within to_come : set.FinSet nat_cmp)
    (flow : ℕ → ℕ → ℕ) (rest : ℕ → ℤ) (flow' : ℕ → ℕ → ℕ) (rest' : ℕ → ℤ) : Type 0 where
  pub first : IsFirst n parents within to_come flow' rest'
  pub keeps : Keeps n within flow rest flow' rest'

-- an amount went from a child to a parent, and from what is left at the one to the other
pub record Hands (n : ℕ) (flow : ℕ → ℕ → ℕ) (rest : ℕ → ℤ) (flow' : ℕ → ℕ → ℕ) (rest' : ℕ → ℤ)
    (from to amount : ℕ) : Type 0 where
  pub here : flow' from to ≡ flow from to + amount
  pub others : (c p : ℕ) → c < n → p < n → ((c ≡ from) × (p ≡ to) → ⊥) → flow' c p ≡ flow c p
  pub rests : (t : ℕ) → t < n → rest' t ≡ (rest t -ℤ only_at from (pos amount) t) +ℤ only_at to (pos amount) t

-- so did some amount, at most what the child had left and what the parent lacked
pub record Gives (n : ℕ) (flow : ℕ → ℕ → ℕ) (rest : ℕ → ℤ) (flow' : ℕ → ℕ → ℕ) (rest' : ℕ → ℤ)
    (from to : ℕ) : Type 0 where
  pub amount : ℕ
  pub left : amount ≤ up (rest from)
  pub lacked : amount ≤ down (rest to)
  pub hands : Hands n flow rest flow' rest' from to amount

-- ---- along paths
-- a step of a path, from one place to another, lets an amount through: it goes along a pair, or takes back flow that
-- runs against it
abbrev pub LetsThrough : List (set.FinSet nat_cmp) → (ℕ → ℕ → ℕ) → ℕ → ℕ → ℕ → Type 0
LetsThrough parents flow amount from to = (set.contains (parents_at parents from) to ≡ true) ⊎ (amount ≤ flow to from)

-- so does each step of the path to an entry, read backward to its start, which has as much left; the first argument
-- bounds the steps
abbrev pub PathLets : List (set.FinSet nat_cmp) → (ℕ → ℕ → ℕ) → (ℕ → ℤ) → List Entry → ℕ → ℕ → ℕ → Type 0
PathLets parents flow rest es amount zero i = ⊥
PathLets parents flow rest es amount (suc k) i =
    MatchOption (from_at es i) (pos amount ≤ℤ rest (place_at es i))
    (λ j. LetsThrough parents flow amount (place_at es j) (place_at es i) × PathLets parents flow rest es amount k j)

pub record Fits (parents : List (set.FinSet nat_cmp)) (flow : ℕ → ℕ → ℕ) (rest : ℕ → ℤ) (es : List Entry)
    (at amount : ℕ) : Type 0 where
  pub steps : ℕ
  pub lets : PathLets parents flow rest es amount steps at

-- an amount went from the place of an entry to the end of the path, of which that entry is one
pub record Sends (n : ℕ) (parents : List (set.FinSet nat_cmp)) (within : set.FinSet nat_cmp) (old new : ℕ → ℕ → ℕ)
    (es : List Entry) (at here amount : ℕ) : Type 0 where
  pub moved : (t : ℕ) → set.contains within t ≡ true → net (places n within) new t
      ≡ (net (places n within) old t +ℤ only_at (place_at es here) (pos amount) t)
      -ℤ only_at (place_at es at) (pos amount) t
  pub more : (c p : ℕ) → set.contains within c ≡ true → set.contains within p ≡ true → new c p ≤ old c p + amount
  pub still : (i j : ℕ) → i ≤ here → j ≤ here
      → new (place_at es i) (place_at es j) ≡ old (place_at es i) (place_at es j)
  pub allowed : IsAllowed n parents within new

-- an amount went from one place to another, and only the flow of their pair changed
pub record Pushes (n : ℕ) (parents : List (set.FinSet nat_cmp)) (within : set.FinSet nat_cmp)
    (old new : ℕ → ℕ → ℕ) (from to amount : ℕ) : Type 0 where
  pub moved : (t : ℕ) → set.contains within t ≡ true → net (places n within) new t
      ≡ (net (places n within) old t +ℤ only_at from (pos amount) t) -ℤ only_at to (pos amount) t
  pub more : (c p : ℕ) → c < n → p < n → new c p ≤ old c p + amount
  pub others : (c p : ℕ) → c < n → p < n → ((c ≡ from) × (p ≡ to) → ⊥) → ((c ≡ to) × (p ≡ from) → ⊥) → new c p ≡ old c p
  pub allowed : IsAllowed n parents within new
