-- One pair more in links that stand for a component.
use Rattle.std.proofs.Common.{◌≡◌, ℕ, refl, sym, ap, subst}
use Rattle.std.specs.Prelude.{Contains}
use Rattle.graphs.specs.Certificates.{Txs}
use Rattle.graphs.specs.Closures.{Closure, AddsPair}
use Rattle.cluster.specs.Clusters.{Cluster, IsCluster}
use Rattle.fee_rate.specs.declared.rates.FeeRate.{FeeRate}
use Rattle.links.specs.Links.{Links, AreLinks}
use Rattle.links.specs.Kept.{names_of}
use Rattle.links.specs.Closing.{closure}
use Rattle.links.specs.Pairs.{HasMore}
use Rattle.links.proofs.Closed.{orders}
use Rattle.links.proofs.Changing.{linked_adds}
use Rattle.record.specs.Kept.{unordered}
use Rattle.record.specs.Records.{IsConnected, StaysFitted}
use Rattle.record.proofs.Connected.{connected_pair}
use Rattle.record.proofs.Fitting.{over_along, fitted_within, fitted_over}
use Rattle.record.proofs.Keeping.{has_name}

-- a pair leaves names and sizes as they are
pub pair_fits : (most : ℕ) (c d : Cluster) (parent child : ℕ) → d.names ≡ c.names → AddsPair c.graph d.graph parent child → IsCluster most c
    → IsCluster most d → StaysFitted most c d
pair_fits most c d parent child names adds was is limits fitted =
    fitted_within most limits c d fitted was is
    (over_along limits d c (sym names) (λ id _. ap (λ (r : FeeRate). r.size) (sym (adds.rates id))))

module _ (s : Cluster) (old new : Links) (parent child : ℕ) (are : AreLinks old) (old_is : unordered old ≡ s) (connected : IsConnected (unordered old))
    (txs : new.txs ≡ old.txs) (more : HasMore old.pairs new.pairs (parent, child)) (in_parent : Contains s.names parent) (in_child : Contains s.names child)
    (are' : AreLinks new) where
  adds : AddsPair (closure old) (closure new) parent child
  adds = linked_adds old new parent child are are' txs more (has_name old are s old_is parent in_parent) (has_name old are s old_is child in_child)

  names : names_of new.txs ≡ names_of old.txs
  names = ap (λ (xs : Txs). names_of xs) txs

  pub linked_connected : IsConnected (unordered new)
  linked_connected = connected_pair (unordered old) (unordered new) parent child names adds (orders new are') connected

  pub linked_graph : AddsPair s.graph (unordered new).graph parent child
  linked_graph = subst (λ (g : Closure). AddsPair g (closure new) parent child) (ap (λ (c : Cluster). c.graph) old_is) adds

  pub linked_fitted : (most : ℕ) → StaysFitted most s (unordered new)
  linked_fitted most =
      subst (λ (c : Cluster). StaysFitted most c (unordered new)) old_is (λ limits fitted.
      fitted_over most limits (unordered old) (unordered new) fitted refl refl linked_connected
      (over_along limits (unordered old) (unordered new) names (λ id _. ap (λ (r : FeeRate). r.size) (adds.rates id))))
