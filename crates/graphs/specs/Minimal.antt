-- Parts that can't be cut further.
use Rattle.std.specs.Prelude.{◌≢◌, ℕ, List, [], Contains}
use Rattle.fee_rate.specs.declared.rates.Sum.{Sum}
use Rattle.fee_rate.specs.Rates.{Same}
use Rattle.graphs.specs.Rates.{sums}
use Rattle.graphs.specs.Linearizations.{IsClosedWithin}
use Rattle.graphs.specs.Certificates.{Part}

-- No proper part of a part's names, with at least one name and closed within the part, has the part's rate: one that has
-- it holds all names of the part.
abbrev pub IsMinimal : (ℕ → Sum) → List (ℕ × ℕ) → List ℕ → Type 0
IsMinimal rate pairs part =
    (set : List ℕ) → IsClosedWithin pairs part set → set ≢ [] → Same (sums rate set) (sums rate part)
    → (id : ℕ) → Contains part id → Contains set id

-- each part is so
abbrev pub AreMinimal : (ℕ → Sum) → List (ℕ × ℕ) → List Part → Type 0
AreMinimal rate pairs parts = (part : Part) → Contains parts part → IsMinimal rate pairs part.ids
