-- A cluster at either width, and which of the two it has.
use Rattle.std.specs.Prelude.{ℕ, ◌<◌, ◌≤◌, length}
use Rattle.cluster.specs.Clusters.{Cluster}
use Rattle.component.specs.declared.width.Width.{Width}
use Rattle.component.specs.declared.width.Width.TheVariants.{Narrow, Wide}

-- the cluster, whichever width it has
abbrev pub cluster_at : {W : ℕ} → Width W → Cluster
cluster_at (Narrow c) = c
cluster_at (Wide b) = b.cluster.value

-- a cluster of at most 64 names has one word, and one of more has all words
abbrev pub HasItsWidth : {W : ℕ} → Width W → Type 0
HasItsWidth (Narrow c) = length c.names ≤ 64
HasItsWidth (Wide b) = 64 < length b.cluster.value.names
