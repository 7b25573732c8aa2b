-- Transactions and pairs that are put together to links, and the first of their components that is over the limits.
use Rattle.std.specs.Prelude.{◌≡◌, ◌↔◌, ℕ, ◌<◌, ◌++◌, false, List, length, slice_get, Contains, Option, Some, MatchOption}
use Rattle.lists.specs.Distinct.{AreDistinct}
use Rattle.graphs.specs.Certificates.{Txs}
use Rattle.graphs.specs.Closures.{rate_of}
use Rattle.graphs.specs.Graphs.{AreConnected}
use Rattle.graph_model.specs.declared.names.Limits.{Limits}
use Rattle.graph_model.specs.declared.names.Refusal.{Refusal}
use Rattle.graph_model.specs.Limits.{bounds_of}
use Rattle.graph_model.specs.Refusals.{IsFirst, ToldOver}
use Rattle.cluster.specs.Clusters.{Cluster}
use Rattle.links.specs.Links.{Links, AreLinks}
use Rattle.links.specs.Kept.{names_of}
use Rattle.links.specs.Closing.{closure}
use Rattle.record.specs.Kept.{unordered}
use Rattle.record.specs.Leaving.{bare}
use Rattle.record.specs.Records.{IsOver}

-- The transactions of a component were put behind others, and pairs of its names, which make its ancestors, behind other pairs.
pub record PutsBehind (c : Cluster) (txs : Txs) (pairs : List (ℕ × ℕ)) (new_txs : Txs) (new_pairs : List (ℕ × ℕ)) : Type 0 where
  pub links : Links
  pub whole : AreLinks links
  pub tells : unordered links ≡ bare c
  pub txs_are : new_txs ≡ txs ++ links.txs
  pub pairs_are : new_pairs ≡ pairs ++ links.pairs

-- the size of a name of links
abbrev pub size_in : Links → ℕ → ℕ
size_in links id = (rate_of (closure links) id).size

-- The name's component among links is over the limits, and the refusal tells the component.
abbrev pub IsInOver : Limits → Links → ℕ → Refusal → Type 0
IsInOver limits links id why =
    (ids : List ℕ) × AreDistinct ids × ((x : ℕ) → Contains ids x ↔ AreConnected links.pairs id x) × ToldOver (bounds_of limits) (size_in links) ids why

-- No component may be over the limits, and one of these links is. The refusal tells the component of the first name of which it is.
pub record BringsOver (limits : Limits) (links : Links) (why : Refusal) : Type 0 where
  pub strict : limits.defer ≡ false
  pub id : ℕ
  pub first : IsFirst (λ before id. (any : Refusal) × IsInOver limits links id any) (names_of links.txs) id
  pub over : IsInOver limits links id why

-- No name of these links has a component over the limits.
abbrev pub BringsNoneOver : Limits → Links → Type 0
BringsNoneOver limits links = (id : ℕ) (why : Refusal) → Contains (names_of links.txs) id → IsInOver limits links id why → ⊥

-- ---- one component after the other

-- links over the limits as a whole, and the refusal that tells them
abbrev pub TellsOver : Limits → Links → Refusal → Type 0
TellsOver limits part why = ToldOver (bounds_of limits) (size_in part) (names_of part.txs) why

-- each of the first so many links is within the limits
abbrev pub NoneOver : Limits → List Links → ℕ → Type 0
NoneOver limits parts count =
    (at : ℕ) (part : Links) → at < count → slice_get parts at ≡ Some part → IsOver limits (unordered part) → ⊥

-- the first of these links that are over the limits
pub record FirstOver (limits : Limits) (parts : List Links) (why : Refusal) : Type 0 where
  pub at : ℕ
  pub part : Links
  pub there : slice_get parts at ≡ Some part
  pub none : NoneOver limits parts at
  pub over : TellsOver limits part why

-- Where no component may be over the limits, the refusal of the first that is, if one is.
abbrev pub FindsOver : Limits → List Links → Option Refusal → Type 0
FindsOver limits parts found =
    MatchOption found (limits.defer ≡ false → NoneOver limits parts (length parts)) (λ why. (limits.defer ≡ false) × FirstOver limits parts why)
