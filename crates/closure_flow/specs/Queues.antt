-- The places that a search has found, in the order in which it found them, and how many of them it has taken.
use Rattle.std.specs.Prelude.{◌≡◌, ℕ, ◌<◌, ◌≤◌, ◌⊎◌, true, false, List, length, get_or, ℤ, pos, ◌<ℤ◌, ◌≤ℤ◌}
use Rattle.std.specs.Prelude.{Option, Some, None}
use Rattle.std.specs.Ordering.{nat_cmp}
use Rattle.std.specs.FinSet as set
use Rattle.closure_flow.specs.declared.queue.Entry.{Entry}
use Rattle.closure_flow.specs.Closures.{parents_at}

-- the entries of a queue, how many of them were taken, and how many places it ever gave
pub record Line : Type 0 where
  pub entries : List Entry
  pub taken : ℕ
  pub given : ℕ

-- the place of an entry, and the position of the entry from which it was found
abbrev pub place_at : List Entry → ℕ → ℕ
place_at es i = (get_or es i (record { place = 0; from = None })).place

abbrev pub from_at : List Entry → ℕ → Option ℕ
from_at es i = (get_or es i (record { place = 0; from = None })).from

-- the entries hold each place of a set once
pub record Lists (es : List Entry) (seen : set.FinSet nat_cmp) : Type 0 where
  pub each : (i : ℕ) → i < length es → set.contains seen (place_at es i) ≡ true
  pub only : (t : ℕ) → set.contains seen t ≡ true → (i : ℕ) × (i < length es) × (place_at es i ≡ t)
  pub once : (i j : ℕ) → i < length es → j < length es → place_at es i ≡ place_at es j → i ≡ j
  pub count : length es ≡ set.len seen

-- more entries behind the old ones, all of a set and found from one entry
pub record Grows (old new : List Entry) (next : set.FinSet nat_cmp) (from : Option ℕ) : Type 0 where
  pub longer : length old ≤ length new
  pub kept : (i : ℕ) → i < length old → (place_at new i ≡ place_at old i) × (from_at new i ≡ from_at old i)
  pub added : (i : ℕ) → length old ≤ i → i < length new
      → (set.contains next (place_at new i) ≡ true) × (from_at new i ≡ from)

-- the places that a place reaches in one step, of those that weren't seen: its parents of a set, and the children that
-- send it flow
pub record IsBeyond (n : ℕ) (parents : List (set.FinSet nat_cmp)) (within : set.FinSet nat_cmp) (flow : ℕ → ℕ → ℕ)
    (seen : set.FinSet nat_cmp) (t : ℕ) (next : set.FinSet nat_cmp) : Type 0 where
  pub inside : (u : ℕ) → set.contains next u ≡ true → set.contains within u ≡ true
  pub apart : (u : ℕ) → set.contains next u ≡ true → set.contains seen u ≡ false
  pub reached : (u : ℕ) → set.contains next u ≡ true → (set.contains (parents_at parents t) u ≡ true) ⊎ (0 < flow u t)
  pub along : (p : ℕ) → set.contains (parents_at parents t) p ≡ true → set.contains within p ≡ true
      → (set.contains seen p ≡ true) ⊎ (set.contains next p ≡ true)
  pub against : (c : ℕ) → c < n → 0 < flow c t → (set.contains seen c ≡ true) ⊎ (set.contains next c ≡ true)

-- each entry is a start, where something is left to be sent, or was found from an earlier entry along a pair or against
-- a flow
pub record IsSearch (n : ℕ) (parents : List (set.FinSet nat_cmp)) (within : set.FinSet nat_cmp) (flow : ℕ → ℕ → ℕ)
    (rest : ℕ → ℤ) (es : List Entry) : Type 0 where
  pub inside : (i : ℕ) → i < length es → set.contains within (place_at es i) ≡ true
  pub below : (i : ℕ) → i < length es → place_at es i < n
  pub once : (i j : ℕ) → i < length es → j < length es → place_at es i ≡ place_at es j → i ≡ j
  pub start : (i : ℕ) → i < length es → from_at es i ≡ None → pos 0 <ℤ rest (place_at es i)
  pub step : (i j : ℕ) → i < length es → from_at es i ≡ Some j
      → (j < i) × ((set.contains (parents_at parents (place_at es j)) (place_at es i) ≡ true)
      ⊎ (0 < flow (place_at es i) (place_at es j)))

-- of the entries taken none is short, and all that can be reached from them in one step was found; each place with
-- something left to be sent was found
pub record IsSwept (n : ℕ) (parents : List (set.FinSet nat_cmp)) (within : set.FinSet nat_cmp) (flow : ℕ → ℕ → ℕ)
    (rest : ℕ → ℤ) (es : List Entry) (taken : ℕ) (seen : set.FinSet nat_cmp) : Type 0 where
  pub starts : (t : ℕ) → set.contains within t ≡ true → pos 0 <ℤ rest t → set.contains seen t ≡ true
  pub content : (i : ℕ) → i < taken → pos 0 ≤ℤ rest (place_at es i)
  pub along : (i p : ℕ) → i < taken → set.contains (parents_at parents (place_at es i)) p ≡ true
      → set.contains within p ≡ true → set.contains seen p ≡ true
  pub against : (i c : ℕ) → i < taken → c < n → 0 < flow c (place_at es i) → set.contains seen c ≡ true

-- a set out of which no search finds a way, with all that is left to be sent in it; it is empty where nothing is left
pub record IsSealed (n : ℕ) (parents : List (set.FinSet nat_cmp)) (within : set.FinSet nat_cmp) (flow : ℕ → ℕ → ℕ)
    (rest : ℕ → ℤ) (seen : set.FinSet nat_cmp) : Type 0 where
  pub inside : (t : ℕ) → set.contains seen t ≡ true → set.contains within t ≡ true
  pub some : (t : ℕ) → set.contains seen t ≡ true → (u : ℕ) × (set.contains within u ≡ true) × (pos 0 <ℤ rest u)
  pub starts : (t : ℕ) → set.contains within t ≡ true → pos 0 <ℤ rest t → set.contains seen t ≡ true
  pub content : (t : ℕ) → set.contains seen t ≡ true → pos 0 ≤ℤ rest t
  pub along : (t p : ℕ) → set.contains seen t ≡ true → set.contains (parents_at parents t) p ≡ true
      → set.contains within p ≡ true → set.contains seen p ≡ true
  pub against : (t c : ℕ) → set.contains seen t ≡ true → c < n → 0 < flow c t → set.contains seen c ≡ true
