-- What a record keeps: a component with its order, or links.
use Rattle.std.specs.Prelude.{◌≡◌, ℕ, []}
use Rattle.cluster.specs.Clusters.{Cluster, IsCluster}
use Rattle.links.specs.Links.{Links, AreLinks}
use Rattle.links.specs.Kept.{names_of}
use Rattle.links.specs.Closing.{closure}
use Rattle.record.specs.Records.{IsConnected}
use Rattle.record.specs.declared.kept.Unordered.{Unordered}
use Rattle.record.specs.declared.kept.Kept.{Kept}
use Rattle.record.specs.declared.kept.Kept.TheVariants.{Within, Over}

-- links, told as a cluster without parts
abbrev pub unordered : Links → Cluster
unordered links = record { names = names_of links.txs; graph = closure links; parts = [] }

-- the component that is kept
abbrev pub component_of : {W : ℕ} → Kept W → Cluster
component_of (Within c) = c
component_of (Over o) = unordered o.value.links

-- links of a component, with its names
pub record IsUnordered (u : Unordered) : Type 0 where
  pub names : u.names.items ≡ names_of u.links.txs
  pub links : AreLinks u.links
  pub connected : IsConnected (unordered u.links)

-- what holds of what is kept
abbrev pub IsKept : {W : ℕ} → ℕ → Kept W → Type 0
IsKept most (Within c) = IsCluster most c
IsKept most (Over o) = IsUnordered o.value
