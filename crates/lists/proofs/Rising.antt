-- Lists of numbers that rise.
use Rattle.std.proofs.Common.{◌≡◌, ℕ, zero, suc, ◌+◌, ◌<◌, ◌≤◌, List, [], ◌∷◌, ◌++◌, length, slice_index, Contains, inl, inr, sym, ap, ◌∙◌, subst, arith}
use Rattle.std.proofs.lemmas.Bool.{cases_order}
use Rattle.std.proofs.Math.Seq.{get_or-append_seam}
use Rattle.lists.specs.Distinct.{AreDistinct}
use Rattle.lists.specs.Rising.{AllAbove, IsRising}
use Rattle.lists.proofs.Entries.{Contains-cases, none_in_empty}

-- a number below all of a list is below the one at a cut
pub above_at : (x : ℕ) (ys zs : List ℕ) (p : ℕ) → AllAbove x (ys ++ p ∷ zs) → x < p
above_at x [] zs p h = h.0
above_at x (y ∷ ys) zs p h = above_at x ys zs p h.1

-- ---- places in a rising list

above_all : (x : ℕ) (xs : List ℕ) → AllAbove x xs → (j : ℕ) → j < length xs → x < slice_index xs j
above_all x [] above j low = absurd (omega arith)
above_all x (y ∷ ys) above zero low = above.0
above_all x (y ∷ ys) above (suc j) low = above_all x ys above.1 j (omega arith)

pub rising_at : (xs : List ℕ) → IsRising xs → (i j : ℕ) → i < j → j < length xs → slice_index xs i < slice_index xs j
rising_at [] rising i j before low = absurd (omega arith)
rising_at (x ∷ xs) rising i zero before low = absurd (omega arith)
rising_at (x ∷ xs) rising zero (suc j) before low = above_all x xs rising.0 j (omega arith)
rising_at (x ∷ xs) rising (suc i) (suc j) before low = rising_at xs rising.1 i j (omega arith) (omega arith)

-- each number stands once
pub rising_once : (xs : List ℕ) → IsRising xs → (i j : ℕ) → i < length xs → j < length xs → slice_index xs i ≡ slice_index xs j → i ≡ j
rising_once xs rising i j low high same = elim (cases_order i j) as (λ _. i ≡ j) [
  | inl is ↦ is
  | inr (inl before) ↦ absurd (let less : slice_index xs i < slice_index xs j = rising_at xs rising i j before high in omega arith)
  | inr (inr after) ↦ absurd (let less : slice_index xs j < slice_index xs i = rising_at xs rising j i after low in omega arith)
]

-- numbers lie at least as far apart as they stand apart
pub rising_apart : (xs : List ℕ) → IsRising xs → (i d : ℕ) → i + d < length xs → slice_index xs i + d ≤ slice_index xs (i + d)
rising_apart xs rising i zero low = let same : i + 0 ≡ i = omega arith in omega (arith, ap (slice_index xs) same)
rising_apart xs rising i (suc d) low =
    let before : slice_index xs i + d ≤ slice_index xs (i + d) = rising_apart xs rising i d (omega arith) in
    let less : slice_index xs (i + d) < slice_index xs (i + suc d) = rising_at xs rising (i + d) (i + suc d) (omega arith) low in omega arith

pub rising_at_least : (xs : List ℕ) → IsRising xs → (i : ℕ) → i < length xs → i ≤ slice_index xs i
rising_at_least xs rising i low =
    let first : slice_index xs 0 + i ≤ slice_index xs (0 + i) = rising_apart xs rising 0 i (omega arith) in
    let same : 0 + i ≡ i = omega arith in
    omega (arith, ap (slice_index xs) same)

-- the number of a split list at the split
pub at_split : (ps ys zs : List ℕ) (p : ℕ) → ys ++ p ∷ zs ≡ ps → slice_index ps (length ys) ≡ p
at_split ps ys zs p e =
    ap (λ xs. slice_index xs (length ys)) (sym e)
    ∙ get_or-append_seam ys p zs 0

-- ---- what is below all of a list isn't in it

pub above_in : (x y : ℕ) (xs : List ℕ) → AllAbove x xs → Contains xs y → x < y
above_in x y [] a h = absurd (none_in_empty y h)
above_in x y (z ∷ zs) a h = elim (Contains-cases z y zs h) [
  | inl same ↦ subst (λ (k : ℕ). x < k) same a.0
  | inr later ↦ above_in x y zs a.1 later
]

pub distinct_rising : (xs : List ℕ) → IsRising xs → AreDistinct xs
distinct_rising [] r = tt
distinct_rising (x ∷ xs) r = (λ h. (let low = above_in x x xs r.0 h in omega (arith, low)), distinct_rising xs r.1)
