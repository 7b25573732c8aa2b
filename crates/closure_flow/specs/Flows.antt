-- Flows among the places of a rising list, and what is left to be sent or to be received at each.
use Rattle.std.specs.Prelude.{◌≡◌, ℕ, ◌+◌, ◌⊎◌, cond, nat_eq, List, [], ◌∷◌, ℤ, pos, ◌-ℤ◌}
use Rattle.arithmetic.specs.Sums.{total}
use borrow.Author.Differences.{up, down}

-- a number is in a list
abbrev pub Among : ℕ → List ℕ → Type 0
Among k [] = ⊥
Among k (x ∷ xs) = (k ≡ x) ⊎ Among k xs

-- what leaves t for the places of a list, less what comes from them
unfoldable pub net : List ℕ → (ℕ → ℕ → ℕ) → ℕ → ℤ
net ts flow t = total (λ s. pos (flow t s) -ℤ pos (flow s t)) ts

-- the sum of what is above 0, and of what is below
unfoldable pub surplus : (ℕ → ℤ) → List ℕ → ℕ
surplus rest [] = 0
surplus rest (t ∷ ts) = up (rest t) + surplus rest ts

unfoldable pub shortage : (ℕ → ℤ) → List ℕ → ℕ
shortage rest [] = 0
shortage rest (t ∷ ts) = down (rest t) + shortage rest ts

-- x at the place k, 0 elsewhere
abbrev pub only_at : ℕ → ℤ → ℕ → ℤ
only_at k x t = cond (nat_eq t k) x (pos 0)
