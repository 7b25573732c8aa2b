-- What is left of a component without some names.
use Rattle.std.specs.Prelude.{◌≡◌, ℕ, ◌+◌, ◌*◌, ◌≤◌, List, [], length, map, sum_by, Contains}
use Rattle.fee_rate.specs.declared.limits.TheConstants.{MAX_TOTAL}
use Rattle.graphs.specs.Closures.{Closure}
use Rattle.graph_model.specs.declared.names.Limits.{Limits}
use Rattle.cluster.specs.Clusters.{Cluster}
use Rattle.cluster.specs.Changes.{AreComponents}
use Rattle.links.specs.Links.{Links}
use Rattle.links.specs.Kept.{names_of}
use Rattle.links.specs.Closing.{closure}
use Rattle.record.specs.Kept.{unordered}
use Rattle.record.specs.Records.{IsConnected, IsFitted}
use Rattle.record.specs.Steps.{most_steps_fit, most_steps_fit_of}

-- A component that suits limits which a cluster can have, of at most as many names as may be live, may lose some of its names.
pub record MayLose (most : ℕ) (limits : Limits) (c : Cluster) (gone : List ℕ) : Type 0 where
  pub few : limits.count ≤ most
  pub fits : IsFitted most limits c
  pub total : length c.names ≤ MAX_TOTAL
  pub own : (id : ℕ) → Contains gone id → Contains c.names id

-- At this width a cluster can have as many names as the limits allow.
abbrev pub IsWideFor : ℕ → Limits → Type 0
IsWideFor width limits = (1 ≤ width) × (width ≤ 64) × (limits.count ≤ 64 * width)

-- A count of steps grew, and by no more than what the orders of the components take together that are within the limits.
pub record GrowsFor (limits : Limits) (g : Closure) (gone : List ℕ) (before after : ℕ) : Type 0 where
  pub grew : before ≤ after
  pub few : (lists : List (List ℕ)) → AreComponents g gone lists → after ≤ before + most_steps_fit_of limits g lists

-- The links are connected, and have at most as many names as may be live.
pub record IsOneComponent (links : Links) : Type 0 where
  pub connected : IsConnected (unordered links)
  pub total : length links.txs ≤ MAX_TOTAL

-- a component without its parts
abbrev pub bare : Cluster → Cluster
bare c = record { names = c.names; graph = c.graph; parts = [] }

-- The components have the names and the graphs of these links, one after the other.
abbrev pub AreLike : List Cluster → List Links → Type 0
AreLike components parts = map bare components ≡ map unordered parts

-- what the orders of those links take together that are within the limits
abbrev pub most_steps_of_links : Limits → List Links → ℕ
most_steps_of_links limits parts = sum_by (λ part. most_steps_fit limits (closure part) (names_of part.txs)) parts
