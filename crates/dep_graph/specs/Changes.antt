-- What is done to the rows of several places.
use Rattle.std.specs.Prelude.{◌≡◌, ◌≢◌, ◌⊎◌, ◌≤◌, ◌<◌, ◌+◌, ◌*◌, ◌&&◌, ℕ, nat_lt, true, cond, List, length, slice_index}
use Rattle.std.specs.Ordering.{nat_cmp}
use Rattle.std.specs.FinSet as set
use Rattle.dep_graph.specs.declared.rows.Row.{Row}
use Rattle.dep_graph.specs.Rows.{row_at}

-- the numbers from `first` on stand for the places ps: those are in t that stand for a place in s
pub record IsRenumbered (ps : List ℕ) (first : ℕ) (s t : set.FinSet nat_cmp) : Type 0 where
  pub here : (i : ℕ) → i < length ps → set.contains t (first + i) ≡ set.contains s (slice_index ps i)
  pub only : (k : ℕ) → set.contains t k ≡ true → (first ≤ k) × (k < first + length ps)

module _ {W : ℕ} where
  abbrev pub gives_ancestors : set.FinSet nat_cmp → Row W → Row W
  gives_ancestors more row = record row { ancestors = set.union row.ancestors more }

  abbrev pub gives_descendants : set.FinSet nat_cmp → Row W → Row W
  gives_descendants more row = record row { descendants = set.union row.descendants more }

  abbrev pub takes_ancestor : ℕ → Row W → Row W
  takes_ancestor gone row = record row { ancestors = set.remove row.ancestors gone }

  abbrev pub takes_descendant : ℕ → Row W → Row W
  takes_descendant gone row = record row { descendants = set.remove row.descendants gone }

  -- f is done to the row of each of these places, and the other rows stay
  pub record ChangesAt (f : Row W → Row W) (places : set.FinSet nat_cmp) (old new : List (Row W)) : Type 0 where
    pub long : length new ≡ length old
    pub rows : (p : ℕ) → row_at new p ≡ cond (set.contains places p) (f (row_at old p)) (row_at old p)

  -- a row stands at a place that the list had, or behind its end, and the other rows stay
  pub record PutsAt (place : ℕ) (row : Row W) (old new : List (Row W)) : Type 0 where
    pub long : length old ≤ length new
    pub here : row_at new place ≡ row
    pub there : place < length new
    pub most : (length new ≤ length old) ⊎ (length new ≡ place + 1)
    pub others : (p : ℕ) → p ≢ place → row_at new p ≡ row_at old p

  -- behind the rows of a list stand one for each number of ps, in this order
  pub record Copies (Made : ℕ → Row W → Type 0) (ps : List ℕ) (old new : List (Row W)) : Type 0 where
    pub long : length new ≡ length old + length ps
    pub kept : (p : ℕ) → p < length old → row_at new p ≡ row_at old p
    pub made : (i : ℕ) → i < length ps → Made (slice_index ps i) (row_at new (length old + i))

  -- the rate stays, and both sets become sets that stand so to them
  pub record BothBecome {V : ℕ} (Becomes : set.FinSet nat_cmp → set.FinSet nat_cmp → Type 0) (old : Row W) (new : Row V) : Type 0 where
    pub rate : new.rate ≡ old.rate
    pub ancestors : Becomes old.ancestors new.ancestors
    pub descendants : Becomes old.descendants new.descendants

  -- copies of the rows of the places ps, with the places in them numbered as they stand
  abbrev pub CopiesRows : List (Row W) → List ℕ → List (Row W) → List (Row W) → Type 0
  CopiesRows from ps old new = Copies (λ p row. BothBecome (IsRenumbered ps (length old)) (row_at from p) row) ps old new

-- t has the places of s that are below n
abbrev pub IsCutAt : ℕ → set.FinSet nat_cmp → set.FinSet nat_cmp → Type 0
IsCutAt n s t = (p : ℕ) → set.contains t p ≡ (nat_lt p n && set.contains s p)

-- the first rows of a list, with sets of v words, which keep the places that they have room for
pub record AreResized {W : ℕ} (v count : ℕ) (old : List (Row W)) (new : List (Row v)) : Type 0 where
  pub long : length new ≡ count
  pub rows : (p : ℕ) → p < count → BothBecome (IsCutAt (64 * v)) (row_at old p) (row_at new p)
