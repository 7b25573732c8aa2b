-- Labellings of places, which show how far it is from where something is left to be sent to where something is
-- lacking. No code keeps one: they bound how many searches there can be.
use Rattle.std.specs.Prelude.{◌≡◌, ℕ, zero, suc, ◌+◌, ◌<◌, ◌≤◌, ◌⊎◌, Bool, true, false, ◌&&◌, ◌||◌, nat_eq, nat_lt}
use Rattle.std.specs.Prelude.{List, Option, Some, None, ℤ, pos, negsuc, ◌<ℤ◌}
use Rattle.std.specs.List.{count_by, sum_by}
use Rattle.std.specs.Ordering.{nat_cmp}
use Rattle.std.specs.FinSet as set
use Rattle.closure_flow.specs.declared.queue.Entry.{Entry}
use Rattle.closure_flow.specs.Closures.{parents_at}
use Rattle.closure_flow.specs.Queues.{from_at, place_at}

-- ---- the path to an entry, read backward

-- the position from which an entry was found, or its own where it is a start
abbrev pub before_of : Option ℕ → ℕ → ℕ
before_of None i = i
before_of (Some j) i = j

-- the position some steps back from an entry
abbrev pub back : List Entry → ℕ → ℕ → ℕ
back es at zero = at
back es at (suc k) = before_of (from_at es (back es at k)) (back es at k)

-- the path to an entry goes from one place to another, as the k-th step from its end
pub record IsStep (es : List Entry) (at u v : ℕ) : Type 0 where
  pub k : ℕ
  pub found : from_at es (back es at k) ≡ Some (back es at (suc k))
  pub first : u ≡ place_at es (back es at (suc k))
  pub next : v ≡ place_at es (back es at k)

-- a position is where the path to an entry starts
pub record IsStart (es : List Entry) (at i : ℕ) : Type 0 where
  pub k : ℕ
  pub none : from_at es i ≡ None
  pub is : i ≡ back es at k

-- An amount is the most that goes along the path to an entry: a limit, what the start has left, or the flow against a
-- step that is along no pair.
abbrev pub IsNarrowest : List (set.FinSet nat_cmp) → (ℕ → ℕ → ℕ) → (ℕ → ℤ) → List Entry → ℕ → ℕ → ℕ → Type 0
IsNarrowest parents flow rest es at limit amount =
    (amount ≡ limit)
    ⊎ (((i : ℕ) × IsStart es at i × (pos amount ≡ rest (place_at es i)))
    ⊎ ((u : ℕ) × (v : ℕ) × IsStep es at u v × (set.contains (parents_at parents u) v ≡ false) × (flow v u ≡ amount)))

-- ---- labellings

-- something can be sent from u to v: along a pair, or by taking back flow that runs against it
abbrev pub Leads : List (set.FinSet nat_cmp) → (ℕ → ℕ → ℕ) → ℕ → ℕ → Type 0
Leads parents flow u v = (set.contains (parents_at parents u) v ≡ true) ⊎ (0 < flow v u)

-- It is 0 where something is left to be sent, and rises by at most one from a place to where something can be sent
-- from it. So no way to a place is shorter than its label. Where something is lacking it is at least `end`.
pub record IsLabelling (parents : List (set.FinSet nat_cmp)) (within : set.FinSet nat_cmp) (flow : ℕ → ℕ → ℕ)
    (rest : ℕ → ℤ) (label : ℕ → ℕ) (end : ℕ) : Type 0 where
  pub starts : (t : ℕ) → set.contains within t ≡ true → pos 0 <ℤ rest t → label t ≡ 0
  pub steps : (u v : ℕ) → set.contains within u ≡ true → set.contains within v ≡ true → Leads parents flow u v
      → label v ≤ label u + 1
  pub ends : (t : ℕ) → set.contains within t ≡ true → rest t <ℤ pos 0 → end ≤ label t

-- it rises by one at each step of the path to an entry
abbrev pub Climbs : List Entry → ℕ → (ℕ → ℕ) → Type 0
Climbs es at label = (u v : ℕ) → IsStep es at u v → label v ≡ label u + 1

-- The path to an entry is a shortest one to a place that lacks something: under some labelling it climbs, and nothing
-- is lacking lower than where it ends.
pub record IsShortest (parents : List (set.FinSet nat_cmp)) (within : set.FinSet nat_cmp) (flow : ℕ → ℕ → ℕ)
    (rest : ℕ → ℤ) (es : List Entry) (at : ℕ) : Type 0 where
  pub label : ℕ → ℕ
  pub valid : IsLabelling parents within flow rest label (label (place_at es at))
  pub climbs : Climbs es at label

-- ---- what augmentations use up

-- a rest isn't 0: something is left or lacking
abbrev pub is_some_left : ℤ → Bool
is_some_left (pos zero) = false
is_some_left (pos (suc k)) = true
is_some_left (negsuc k) = true

-- at how many places of a list it is so
unfoldable pub unsettled : (ℕ → ℤ) → List ℕ → ℕ
unsettled rest ts = count_by (λ t. is_some_left (rest t)) ts

-- something can be sent from u to v, and a labelling rises there
abbrev pub is_uphill : List (set.FinSet nat_cmp) → (ℕ → ℕ → ℕ) → (ℕ → ℕ) → ℕ → ℕ → Bool
is_uphill parents flow label u v =
    (set.contains (parents_at parents u) v || nat_lt 0 (flow v u)) && nat_eq (label v) (label u + 1)

-- how many pairs of a list's places are so
unfoldable pub uphill : List (set.FinSet nat_cmp) → (ℕ → ℕ → ℕ) → (ℕ → ℕ) → List ℕ → ℕ
uphill parents flow label ts = sum_by (λ u. count_by (is_uphill parents flow label u) ts) ts

-- A labelling stays one, and there are fewer places that are unsettled or pairs where it rises.
pub record Spends (parents : List (set.FinSet nat_cmp)) (within : set.FinSet nat_cmp) (ts : List ℕ)
    (flow : ℕ → ℕ → ℕ) (rest : ℕ → ℤ) (flow' : ℕ → ℕ → ℕ) (rest' : ℕ → ℤ) (label : ℕ → ℕ) (end : ℕ) : Type 0 where
  pub valid : IsLabelling parents within flow' rest' label end
  pub fewer : unsettled rest' ts + uphill parents flow' label ts < unsettled rest ts + uphill parents flow label ts
