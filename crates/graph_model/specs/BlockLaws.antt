-- What a block takes first is the front of the order, and pays the most of its size.
use Rattle.std.specs.Prelude.{◌≡◌, ℕ, ◌+◌, ◌<◌, ◌≤◌, pos, ◌≤ℤ◌, ◌⊎◌, List, [], ◌∷◌, ◌++◌, map}
use Rattle.fee_rate.specs.declared.rates.Sum.{Sum}
use Rattle.graphs.specs.Graphs.{Graph}
use Rattle.graphs.specs.Rates.{sum_of, sums, HasSizes}
use Rattle.graphs.specs.Linearizations.{IsClosedWithin}
use Rattle.graphs.specs.Certificates.{Part}
use Rattle.graphs.specs.Picks.{IsPick}
use Rattle.graph_model.specs.Blocks.{IsBlock}

-- All parts are taken; or these first parts are, and the next one doesn't fit beside them.
pub record TakesFirst (parts : List Part) (size : ℕ) (first taken : List Part) : Type 0 where
  pub rest : List Part
  pub later : List Part
  pub front : parts ≡ first ++ rest
  pub begins : taken ≡ first ++ later
  pub stops : ((rest ≡ []) × (later ≡ []))
      ⊎ ((part : Part) × (after : List Part) × (rest ≡ part ∷ after) × (size < (sum_of (map (λ p. p.rate) first)).size + part.rate.size))

-- A block takes the first parts of the pick up to the first that it leaves out; where the last of these has a fee of at least 0, no closed
-- set that is no larger than they are has a greater fee.
pub record BlocksBeginBest : Type 0 where
  pub first : (graph : Graph) (parts taken : List Part) (size : ℕ) → IsBlock graph parts size taken
      → (first : List Part) × TakesFirst parts size first taken
  pub best : (rate : ℕ → Sum) (graph : Graph) (parts before taken : List Part) (last : Part) (size : ℕ) (set : List ℕ) → HasSizes rate graph.names
      → IsPick rate graph parts → IsBlock graph parts size taken → TakesFirst parts size (before ++ last ∷ []) taken → pos 0 ≤ℤ last.rate.fee
      → IsClosedWithin graph.pairs graph.names set → (sums rate set).size ≤ (sum_of (map (λ p. p.rate) (before ++ last ∷ []))).size
      → (sums rate set).fee ≤ℤ (sum_of (map (λ p. p.rate) (before ++ last ∷ []))).fee
