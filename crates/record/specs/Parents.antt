-- The pairs of names and their covering parents.
use Rattle.std.specs.Prelude.{◌≡◌, ◌↔◌, ◌⊎◌, ℕ, ℤ, List, Contains}
use Rattle.graphs.specs.Closures.{Closure, rate_of, IsCover}

-- a name with its fee and size
abbrev pub tx_of : Closure → ℕ → ℕ × ℤ × ℕ
tx_of g id = (id, (rate_of g id).fee, (rate_of g id).size)

-- The pairs are those of these names and their covering parents.
abbrev pub ArePairsAbove : Closure → List ℕ → List (ℕ × ℕ) → Type 0
ArePairsAbove g names pairs = (a d : ℕ) → Contains {X = ℕ × ℕ} pairs (a, d) ↔ (Contains names d × IsCover g a d)

-- The pairs of one name more came in.
abbrev pub AddsParents : Closure → ℕ → List (ℕ × ℕ) → List (ℕ × ℕ) → Type 0
AddsParents g id old new = (a d : ℕ) → Contains {X = ℕ × ℕ} new (a, d) ↔ (Contains {X = ℕ × ℕ} old (a, d) ⊎ ((d ≡ id) × IsCover g a d))
