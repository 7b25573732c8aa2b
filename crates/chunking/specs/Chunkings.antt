-- Chunkings of an order, given by the rates of its transactions in their order. A list of parts is a list of lists of rates.
use Rattle.std.specs.Prelude.{◌≡◌, ◌+◌, ℕ, List, [], ◌∷◌, ◌++◌, length, All, sum_by}
use Rattle.std.specs.List.{flat_map}
use Rattle.arithmetic.specs.Sums.{total}
use Rattle.fee_rate.specs.declared.rates.FeeRate.{FeeRate}
use Rattle.fee_rate.specs.declared.rates.Sum.{Sum}
use Rattle.fee_rate.specs.Rates.{AtMost, Below}
use Rattle.chunking.specs.declared.chunks.Chunk.{Chunk}

-- the total fee and the total size
abbrev pub sum_of : List FeeRate → Sum
sum_of rates = record { fee = total (λ r. r.fee) rates; size = sum_by (λ r. r.size) rates }

-- a part isn't empty, and each non-empty proper front of it has a strictly smaller rate than the part
pub record IsPart (part : List FeeRate) : Type 0 where
  pub some : part ≡ [] → ⊥
  pub fronts : (front rest : List FeeRate) → (front ≡ [] → ⊥) → (rest ≡ [] → ⊥) → front ++ rest ≡ part → Below (sum_of front) (sum_of part)

-- no part has a greater rate than the part before it
pub record Fall (parts : List (List FeeRate)) : Type 0 where
  pub neighbours : (before : List (List FeeRate)) (a b : List FeeRate) (after : List (List FeeRate))
      → before ++ (a ∷ b ∷ after) ≡ parts → AtMost (sum_of b) (sum_of a)

-- the parts are cut from the order without gap, each is a part, and rates fall
pub record IsChunking (rates : List FeeRate) (parts : List (List FeeRate)) : Type 0 where
  pub whole : flat_map (λ part. part) parts ≡ rates
  pub each : All IsPart parts
  pub fall : Fall parts

-- where each part ends, behind this many entries that stand before the first, and its sum
abbrev pub chunks_from : ℕ → List (List FeeRate) → List Chunk
chunks_from start [] = []
chunks_from start (part ∷ parts) = record { end = start + length part; sum = sum_of part } ∷ chunks_from (start + length part) parts

-- the chunks are the ends and sums of a chunking
pub record AreChunks (rates : List FeeRate) (chunks : List Chunk) : Type 0 where
  pub parts : List (List FeeRate)
  pub chunking : IsChunking rates parts
  pub shown : chunks ≡ chunks_from 0 parts
