-- One of the most names among some clusters, and how many names there are, as a loop goes over them one by one.
use Rattle.std.proofs.Common.{◌≡◌, ℕ, ◌+◌, ◌<◌, ◌≤◌, List, length, take, get_or, inl, inr, sym, ap, subst, arith}
use Rattle.std.specs.Prelude.{sum_by}
use Rattle.std.proofs.lemmas.Bool.{cases_eq}
use Rattle.std.proofs.lemmas.List.{get_or_default, get_or_read}
use Rattle.std.proofs.lemmas.List.Sums.{sum_by_more}
use Rattle.cluster.specs.Clusters.{Cluster}

abbrev count : Cluster → ℕ
count c = length c.names

-- none of the first few has more names than the one at a place
abbrev pub IsMost : List Cluster → ℕ → ℕ → Type 0
IsMost xs i best = (k : ℕ) (d : Cluster) → k < i → length (get_or xs k d).names ≤ length (get_or xs best d).names

module _ (xs : List Cluster) (i best : ℕ) (in_i : i < length xs) (in_best : best < length xs) (a b : Cluster)
    (at_best : a ≡ get_or xs best a) (at_i : b ≡ get_or xs i b) (most : IsMost xs i best) where
  held : (d : Cluster) → length a.names ≡ length (get_or xs best d).names
  held d = ap count (get_or_read xs best a in_best at_best d)

  next : (d : Cluster) → length b.names ≡ length (get_or xs i d).names
  next d = ap count (get_or_read xs i b in_i at_i d)

  pub most_new : length a.names < length b.names → IsMost xs (i + 1) i
  most_new more k d low = elim (cases_eq k i) [
    | inl is ↦ subst (λ (j : ℕ). length (get_or xs j d).names ≤ length (get_or xs i d).names) (sym is) (omega arith)
    | inr other ↦ let below = most k d (omega (arith, low, other)) in omega (arith, below, held d, next d, more)
  ]

  pub most_kept : length b.names ≤ length a.names → IsMost xs (i + 1) best
  most_kept few k d low = elim (cases_eq k i) [
    | inl is ↦ subst (λ (j : ℕ). length (get_or xs j d).names ≤ length (get_or xs best d).names) (sym is) (omega (arith, held d, next d, few))
    | inr other ↦ most k d (omega (arith, low, other))
  ]

pub most_of_all : (xs : List Cluster) (i best : ℕ) → length xs ≤ i → IsMost xs i best → (k : ℕ) (d : Cluster) → k < length xs
    → length (get_or xs k d).names ≤ length (get_or xs best (get_or xs k d)).names
most_of_all xs i best all most k d low =
    let here = most k (get_or xs k d) (omega (arith, low, all)) in
    omega (arith, here, ap count (get_or_default xs k d (get_or xs k d) low))

pub more_names : (more : ℕ) (xs : List Cluster) (i : ℕ) (x : Cluster) (names : List ℕ) (before after : ℕ) → i < length xs → x ≡ get_or xs i x → names ≡ x.names
    → before ≡ sum_by (λ (c : Cluster). length c.names) (take i xs) + more → after ≡ before + length names
    → after ≡ sum_by (λ (c : Cluster). length c.names) (take (i + 1) xs) + more
more_names more xs i x names before after low is named was told =
    omega (arith, was, told, ap (λ (ids : List ℕ). length ids) named, ap count is, sum_by_more count xs i x low)
