-- What trimming drops of the top level that a graph keeps.
use Rattle.std.specs.Prelude.{◌≡◌, List, map, flat_map, Contains, ℕ}
use Rattle.graphs.specs.declared.names.Level.TheVariants.{Top}
use Rattle.graphs.specs.Certificates.{rate_in}
use Rattle.graphs.specs.Rates.{sums}
use Rattle.graph_model.specs.declared.names.Picked.{Picked}
use Rattle.graph_model.specs.Limits.{Bounds}
use Rattle.graph_model.specs.Replies.{picked_sum}
use Rattle.graph_model.specs.States.{State, level_of, rate_of}
use Rattle.graph_model.specs.Trims.{IsTrimmed}
use Rattle.links.specs.Links.{Links, graph}
use Rattle.tx_graph.specs.Kept.{Kept, StandsFor}

-- These are the names that trimming drops from the top level, whichever of its states the graph stands for.
abbrev pub TrimDrops : Kept → List ℕ → Type 0
TrimDrops kept ids =
    (state : State) → StandsFor kept state → IsTrimmed state.plain.limits (rate_of state.plain.table) (level_of state.plain Top) ids

-- the same, told with their fee and size
pub record IsDropped (kept : Kept) (picked : Picked) : Type 0 where
  pub ids : TrimDrops kept picked.ids
  pub sum : (state : State) → StandsFor kept state → picked_sum picked ≡ sums (rate_of state.plain.table) picked.ids

-- what trimming drops of each of some links, one after another
pub record AreTrimmed (bounds : Bounds) (list : List Links) (ids : List ℕ) : Type 0 where
  pub parts : List (Links × List ℕ)
  pub links : map (λ part. part.0) parts ≡ list
  pub trimmed : (part : Links × List ℕ) → Contains parts part → IsTrimmed bounds (rate_in part.0.txs) (graph part.0) part.1
  pub together : ids ≡ flat_map (λ part. part.1) parts
