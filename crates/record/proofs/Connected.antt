-- A component that changes and stays one.
use Rattle.std.proofs.Common.{◌≡◌, ◌≤◌, ℕ, true, ◌&&◌, List, length, sym, ◌∙◌, subst, inl, inr}
use Rattle.std.specs.Prelude.{Contains}
use Rattle.std.proofs.lemmas.Bool.{or_left}
use Rattle.lists.specs.Distinct.{AreDistinct}
use Rattle.lists.proofs.Walks.{Walk-map}
use Rattle.fee_rate.specs.declared.rates.FeeRate.{FeeRate}
use Rattle.fee_rate.specs.Limits.{IsRate}
use Rattle.graphs.specs.Closures.{is_member, is_ancestor, AddsPair, IsOrder, IsRelated}
use Rattle.cluster.specs.Clusters.{Cluster, IsCluster}
use Rattle.record.specs.Records.{IsConnected}

pub IsCluster-connected : (most : ℕ) (c : Cluster) → IsCluster most c → IsConnected c
IsCluster-connected most c whole = record {
  some = whole.some;
  once = whole.once;
  members = whole.members;
  order = whole.order;
  whole = whole.whole;
  rates = whole.rates;
}

-- one pair more
pub connected_pair : (c d : Cluster) (parent child : ℕ) → d.names ≡ c.names → AddsPair c.graph d.graph parent child
    → IsOrder (is_member d.graph) (is_ancestor d.graph) → IsConnected c → IsConnected d
connected_pair c d parent child names adds order was = record {
  some = subst (λ (xs : List ℕ). 1 ≤ length xs) (sym names) was.some;
  once = subst (λ (xs : List ℕ). AreDistinct xs) (sym names) was.once;
  members = λ id. (
    (λ e. subst (λ (xs : List ℕ). Contains xs id) (sym names) ((was.members id).0 (sym (adds.members id) ∙ e))),
    (λ here. adds.members id ∙ (was.members id).1 (subst (λ (xs : List ℕ). Contains xs id) names here)),
  );
  order = order;
  whole = λ a b here there.
      Walk-map (λ x. x) (IsRelated c.graph) (IsRelated d.graph) (λ x y related. more x y related) a b
      (was.whole a b (sym (adds.members a) ∙ here) (sym (adds.members b) ∙ there));
  rates = λ id here. subst (λ (r : FeeRate). IsRate r) (sym (adds.rates id)) (was.rates id (sym (adds.members id) ∙ here));
}
  where
    above : (x y : ℕ) → is_ancestor c.graph x y ≡ true → is_ancestor d.graph x y ≡ true
    above x y e = adds.ancestors x y ∙ or_left (is_ancestor c.graph x y) (is_ancestor c.graph x parent && is_ancestor c.graph child y) e

    more : (x y : ℕ) → IsRelated c.graph x y → IsRelated d.graph x y
    more x y (inl up) = inl (above x y up)
    more x y (inr down) = inr (above y x down)
