-- What is seen of a level: the clusters that stand in it, each under a number, and the number of each name's cluster.
use Rattle.std.specs.Prelude.{◌≡◌, ◌↔◌, ℕ, true, List, map, flat_map, Contains, Option, None, Some}
use Rattle.std.specs.Coded.{Coded, coded_ℕ}
use Rattle.std.specs.FinMap as finmap
use Rattle.std.specs.FinSet as set
use Rattle.lists.specs.Distinct.{AreDistinct}
use Rattle.graphs.specs.Certificates.{Part}
use Rattle.graphs.specs.Closures.{Node, Closure, is_member, is_ancestor, rate_of, ancestors_of, no_rate, AreLinked}
use Rattle.staging.specs.Maps.{Map}
use Rattle.cluster.specs.Clusters.{Cluster}
use Rattle.record.specs.Records.{IsRecord}
use Rattle.cluster_store.specs.Stores.{Shown}

-- the number of each name's cluster
abbrev pub Numbers : Type 0
Numbers = Map ℕ

abbrev pub numbers_code : Coded Numbers
numbers_code = finmap.code coded_ℕ coded_ℕ

pub record View : Type 0 where
  pub numbers : Numbers
  pub at : ℕ → Option Cluster

-- what a cluster knows of a name
abbrev pub node_in : Option Cluster → ℕ → Node
node_in None id = record { rate = no_rate; ancestors = set.empty }
node_in (Some c) id = record { rate = rate_of c.graph id; ancestors = ancestors_of c.graph id }

-- each name with what its cluster knows of it
unfoldable pub graph_of : View → Closure
graph_of view = finmap.from_entries (map (λ e. (e.0, node_in (view.at e.1) e.0)) (finmap.entries view.numbers))

-- a name's cluster stands under a number
pub record StandsAt (view : View) (number id : ℕ) : Type 0 where
  pub cluster : Cluster
  pub there : view.at number ≡ Some cluster
  pub here : Contains cluster.names id

-- The numbers say where the cluster of each name stands, and nothing else.
pub record IsIndexed (most : ℕ) (view : View) : Type 0 where
  pub stands : (id number : ℕ) → finmap.get view.numbers id ≡ Some number → StandsAt view number id
  pub listed : (number id : ℕ) (c : Cluster) → view.at number ≡ Some c → Contains c.names id → finmap.get view.numbers id ≡ Some number
  pub whole : (number : ℕ) (c : Cluster) → view.at number ≡ Some c → IsRecord most c

-- The cluster of a name, told by the graph: it says of its names what the graph says of them, and the graph links them to no other.
pub record IsClusterOf (graph : Closure) (id : ℕ) (c : Cluster) : Type 0 where
  pub members : (q : ℕ) → (is_member c.graph q ≡ true) ↔ Contains c.names q
  pub here : Contains c.names id
  pub linked : (q : ℕ) → Contains c.names q → AreLinked graph id q
  pub alone : (q : ℕ) → AreLinked graph id q → Contains c.names q
  pub above : (a d : ℕ) → Contains c.names d → is_ancestor graph a d ≡ is_ancestor c.graph a d
  pub below : (a d : ℕ) → Contains c.names a → is_ancestor graph a d ≡ is_ancestor c.graph a d
  pub rates : (q : ℕ) → Contains c.names q → rate_of graph q ≡ rate_of c.graph q

-- some names of both parts are linked
abbrev pub AreOfOneCluster : Closure → Part → Part → Type 0
AreOfOneCluster graph p q = (a b : ℕ) × Contains p.ids a × Contains q.ids b × AreLinked graph a b

-- Two parts have one number exactly where they are of one cluster.
abbrev pub HaveClusterNumbers : Closure → List Shown → Type 0
HaveClusterNumbers graph parts =
    (s t : Shown) → Contains parts s → Contains parts t → (s.number ≡ t.number) ↔ AreOfOneCluster graph s.part t.part

-- Every component of a graph, once, told as clusters are: each is the cluster of each of its names.
pub record AreItsClusters (graph : Closure) (list : List Cluster) : Type 0 where
  pub each : (c : Cluster) → Contains list c → (id : ℕ) → Contains c.names id → IsClusterOf graph id c
  pub once : AreDistinct (flat_map (λ c. c.names) list)
  pub all : (id : ℕ) → is_member graph id ≡ true → (c : Cluster) × Contains list c × Contains c.names id
