-- How places go down to their numbers: by the powers of two in their gaps, the least first. The gap of place i of a
-- rising list, counted from 0, is its distance to i. (Warren, Hacker's Delight, 7-4, closes gaps so, but in one word.)
use Rattle.std.specs.Prelude.{◌≡◌, ℕ, ◌+◌, ◌-◌, ◌*◌, ◌/◌, ◌%◌, ◌^◌, ◌≤◌, ◌<◌, ◌&&◌, ◌||◌, Bool, not, nat_eq, nat_lt, List, length, slice_index}
use Rattle.std.specs.Ordering.{nat_cmp}
use Rattle.std.specs.FinSet as set
use Rattle.dep_graph.specs.declared.rows.Row.{Row}
use Rattle.dep_graph.specs.Rows.{row_at}
use Rattle.dep_graph.specs.Changes.{BothBecome}

-- how far place i of the list has to go down to i
abbrev pub gap : List ℕ → ℕ → ℕ
gap ps i = slice_index ps i - i

-- where place i stands when it went down by the powers of two below 2^power
abbrev pub standing : List ℕ → ℕ → ℕ → ℕ
standing ps power i = i + gap ps i / 2 ^ power * 2 ^ power

-- whether 2^power is one of the powers in the gap of place i
abbrev pub has_power : List ℕ → ℕ → ℕ → Bool
has_power ps power i = nat_eq (gap ps i / 2 ^ power % 2) 1

-- of the places as they stand then, those that have to go down by 2^power
abbrev pub AreMoving : List ℕ → ℕ → set.FinSet nat_cmp → Type 0
AreMoving ps power s = (i : ℕ) → i < length ps → set.contains s (standing ps power i) ≡ has_power ps power i

-- those of s that are moving go down
abbrev pub IsMovedDown : set.FinSet nat_cmp → ℕ → set.FinSet nat_cmp → set.FinSet nat_cmp → Type 0
IsMovedDown moving by s t = (p : ℕ)
    → set.contains t p ≡ ((set.contains s p && not (set.contains moving p)) || (set.contains s (p + by) && set.contains moving (p + by)))

-- all of s go up, as far as there are places
abbrev pub IsMovedUp : ℕ → ℕ → set.FinSet nat_cmp → set.FinSet nat_cmp → Type 0
IsMovedUp n by s t = (p : ℕ) → set.contains t p ≡ (nat_lt p n && (not (nat_lt p by) && set.contains s (p - by)))

-- both sets of each row from `first` on become sets that stand so to them, and all else stays
pub record ChangesFrom {W : ℕ} (Becomes : set.FinSet nat_cmp → set.FinSet nat_cmp → Type 0) (first : ℕ) (old new : List (Row W)) : Type 0 where
  pub long : length new ≡ length old
  pub kept : (i : ℕ) → i < first → row_at new i ≡ row_at old i
  pub changed : (i : ℕ) → first ≤ i → i < length old → BothBecome Becomes (row_at old i) (row_at new i)
