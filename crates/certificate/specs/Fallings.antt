-- Sums and rates of parts, by position.
use Rattle.std.specs.Prelude.{◌≡◌, ℕ, ◌<◌, ◌≤◌, pos, List, length, map, slice_index_or}
use Rattle.fee_rate.specs.declared.rates.Sum.{Sum}
use Rattle.fee_rate.specs.Limits.{IsSum}
use Rattle.graphs.specs.Rates.{sums}
use Rattle.graphs.specs.Certificates.{Txs, rate_in}
use Rattle.certificate.specs.declared.owned.Part.{Part}
use Rattle.certificate.specs.Parts.{ids_at}

-- The rates of the parts, as written.
abbrev pub rates_of : List Part → List Sum
rates_of parts = map (λ part. part.rate) parts

abbrev pub rate_at : List Part → ℕ → Sum
rate_at parts k = slice_index_or (rates_of parts) k record { fee = pos 0; size = 0 }

-- Each part's written fee and size are the sums over its names.
abbrev pub AreSummed : Txs → List Part → Type 0
AreSummed txs parts = (k : ℕ) → k < length parts → rate_at parts k ≡ sums (rate_in txs) (ids_at parts k)

-- Written rates are in range, and their sizes are at least 1.
abbrev pub AreRates : List Part → Type 0
AreRates parts = (k : ℕ) → k < length parts → IsSum (rate_at parts k) × (1 ≤ (rate_at parts k).size)
