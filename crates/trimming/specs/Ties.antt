-- Places that are tied together by a relation among those with a property.
use Rattle.std.specs.Prelude.{◌≡◌, ◌⊎◌, ℕ, zero, suc}

-- So many steps lead from a to b, each along the relation or against it, between places with the property.
abbrev pub Way : (ℕ → ℕ → Type 0) → (ℕ → Type 0) → ℕ → ℕ → ℕ → Type 0
Way R P a b zero = a ≡ b
Way R P a b (suc n) = (c : ℕ) × Way R P a c n × P c × P b × (R c b ⊎ R b c)

abbrev pub AreTied : (ℕ → ℕ → Type 0) → (ℕ → Type 0) → ℕ → ℕ → Type 0
AreTied R P a b = (n : ℕ) × Way R P a b n

-- the property, or that place
abbrev pub Or : (ℕ → Type 0) → ℕ → ℕ → Type 0
Or P place x = (x ≡ place) ⊎ P x
