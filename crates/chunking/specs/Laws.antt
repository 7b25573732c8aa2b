-- The law of chunkings.
use Rattle.std.specs.Prelude.{◌≡◌, ◌≤◌, List, All}
use Rattle.fee_rate.specs.declared.rates.FeeRate.{FeeRate}
use Rattle.chunking.specs.Chunkings.{IsChunking}

-- sizes being at least 1, two chunkings of one order are equal
abbrev pub PartsAreUnique : Type 0
PartsAreUnique = (rates : List FeeRate) (xs ys : List (List FeeRate)) → All (λ r. 1 ≤ r.size) rates → IsChunking rates xs → IsChunking rates ys → xs ≡ ys
