-- What is left where names go.
use Rattle.std.specs.Prelude.{◌≡◌, ◌⊎◌, ◌↔◌, ℕ, suc, zero, Bool, true, false, nat_eq, List, Contains}
use Rattle.std.specs.List.{filter, list_any}
use Rattle.graphs.specs.Graphs.{IsAncestor}

-- the name is one of those that go
abbrev pub goes : List ℕ → ℕ → Bool
goes gone id = list_any (nat_eq id) gone

-- what a test tells of the names that go
abbrev pub Tells : (ℕ → Bool) → List ℕ → Type 0
Tells has gone = (id : ℕ) → (has id ≡ true) ↔ Contains gone id

-- The pairs within are those whose child goes.
abbrev pub AreInner : (ℕ → Bool) → List (ℕ × ℕ) → List (ℕ × ℕ) → Type 0
AreInner has pairs inner = (a b : ℕ) → Contains {X = ℕ × ℕ} inner (a, b) ↔ (Contains {X = ℕ × ℕ} pairs (a, b) × (has b ≡ true))

-- No pair leads from a name that stays to one that goes.
abbrev pub NoneEnters : (ℕ → Bool) → List (ℕ × ℕ) → Type 0
NoneEnters has pairs = (a b : ℕ) → Contains {X = ℕ × ℕ} pairs (a, b) → has a ≡ false → has b ≡ true → ⊥

-- From names that stay, the pairs within lead where the pairs whose child goes lead.
abbrev pub Serves : (ℕ → Bool) → List (ℕ × ℕ) → List (ℕ × ℕ) → Type 0
Serves has pairs inner = (a p : ℕ) → has a ≡ false → IsAncestor inner a p ↔ IsAncestor (filter (λ pair. has pair.1) pairs) a p

-- n names, all of which go, lead one after the other from a to b.
abbrev pub Passes : List (ℕ × ℕ) → List ℕ → ℕ → ℕ → ℕ → Type 0
Passes pairs gone a b zero = Contains {X = ℕ × ℕ} pairs (a, b)
Passes pairs gone a b (suc n) = (c : ℕ) × Passes pairs gone a c n × Contains gone c × Contains {X = ℕ × ℕ} pairs (c, b)

-- A pair leads from a to b, or names that go lead from a to b.
abbrev pub IsBridged : List (ℕ × ℕ) → List ℕ → ℕ → ℕ → Type 0
IsBridged pairs gone a b = (n : ℕ) × Passes pairs gone a b n

-- The pairs that are left where names go: those between names that stay, and across names that go one from each parent to each child.
abbrev pub ArePairsLeft : List (ℕ × ℕ) → List ℕ → List (ℕ × ℕ) → Type 0
ArePairsLeft old gone new = (a b : ℕ) → Contains {X = ℕ × ℕ} new (a, b)
    ↔ ((Contains gone a → ⊥) × (Contains gone b → ⊥) × IsBridged old gone a b)

-- The names that stay keep the ancestors that they had among them, those that they had by names that go as well.
abbrev pub KeepAncestors : List (ℕ × ℕ) → List ℕ → List (ℕ × ℕ) → Type 0
KeepAncestors old gone new = (a b : ℕ) → IsAncestor new a b
    ↔ ((a ≡ b) ⊎ ((Contains gone a → ⊥) × (Contains gone b → ⊥) × IsAncestor old a b))

-- Pairs with a property were put behind others.
abbrev pub Adds : (ℕ → ℕ → Type 0) → List (ℕ × ℕ) → List (ℕ × ℕ) → Type 0
Adds P old new = (a b : ℕ) → Contains {X = ℕ × ℕ} new (a, b) ↔ (Contains {X = ℕ × ℕ} old (a, b) ⊎ P a b)

-- Pairs within lead from a name that stays to a parent, and the child stays.
abbrev pub Crosses : (ℕ → Bool) → List (ℕ × ℕ) → ℕ → ℕ → ℕ → ℕ → Type 0
Crosses has inner parent child a b = (b ≡ child) × (has a ≡ false) × (has child ≡ false) × IsAncestor inner a parent

-- some pair of a list is crossed so
abbrev pub CrossesOne : (ℕ → Bool) → List (ℕ × ℕ) → List (ℕ × ℕ) → ℕ → ℕ → Type 0
CrossesOne has inner pairs a b =
    (parent child : ℕ) × Contains {X = ℕ × ℕ} pairs (parent, child) × Crosses has inner parent child a b
