-- Steps of a function from a number to the next one. Where it is a permutation, the numbers lie in cycles.
use Rattle.std.specs.Prelude.{◌≡◌, ◌≢◌, ℕ, zero, suc, List, [], ◌∷◌}

-- where so many steps lead
abbrev pub walked : (ℕ → ℕ) → ℕ → ℕ → ℕ
walked next zero s = s
walked next (suc k) s = walked next k (next s)

-- steps lead from s to t
abbrev pub Reaches : (ℕ → ℕ) → ℕ → ℕ → Type 0
Reaches next s t = (k : ℕ) × (walked next k s ≡ t)

-- steps from a go through the list, first to last, and the step after its last leads to b
abbrev pub GoesAlong : {A : Type 0} → (A → A) → A → List A → A → Type 0
GoesAlong next a [] b = a ≡ b
GoesAlong next a (x ∷ xs) b = (a ≡ x) × GoesAlong next (next a) xs b

-- one function goes back what the other goes forward
abbrev pub IsMutual : (ℕ → ℕ) → (ℕ → ℕ) → Type 0
IsMutual next prev = (s : ℕ) → (prev (next s) ≡ s) × (next (prev s) ≡ s)

-- the steps from a and from b are exchanged
pub record Splices (old new : ℕ → ℕ) (a b : ℕ) : Type 0 where
  pub at_a : new a ≡ old b
  pub at_b : new b ≡ old a
  pub others : (s : ℕ) → s ≢ a → s ≢ b → new s ≡ old s

-- a steps to itself, and what stepped to a steps past it
pub record Cuts (old new back : ℕ → ℕ) (a : ℕ) : Type 0 where
  pub at_a : new a ≡ a
  pub past : back a ≢ a → new (back a) ≡ old a
  pub others : (s : ℕ) → s ≢ a → s ≢ back a → new s ≡ old s
