-- Another fee of a name in links that stand for a component.
use Rattle.std.proofs.Common.{◌≡◌, ◌≤◌, ℕ, ℤ, true, List, length, map, inl, inr, refl, sym, ap, ◌∙◌, subst}
use Rattle.std.specs.Prelude.{Contains}
use Rattle.std.proofs.lemmas.Bool.{cases_eq}
use Rattle.lists.specs.Distinct.{AreDistinct}
use Rattle.lists.proofs.Walks.{Walk-map}
use Rattle.fee_rate.specs.declared.rates.FeeRate.{FeeRate}
use Rattle.fee_rate.specs.Limits.{IsFee, IsRate}
use Rattle.graphs.specs.Certificates.{Txs}
use Rattle.graphs.specs.Closures.{Closure, is_member, is_ancestor, rate_of, SetsFee, IsOrder, IsRelated}
use Rattle.cluster.specs.Clusters.{Cluster, IsCluster}
use Rattle.links.specs.Links.{Links, AreLinks, AreSame}
use Rattle.links.specs.Kept.{names_of}
use Rattle.links.specs.Closing.{closure}
use Rattle.links.specs.Pricing.{priced}
use Rattle.links.proofs.Closed.{orders}
use Rattle.links.proofs.Fees.{priced_names}
use Rattle.links.proofs.Priced.{priced_sets}
use Rattle.record.specs.Kept.{unordered}
use Rattle.record.specs.Records.{IsConnected, StaysFitted}
use Rattle.record.proofs.Fitting.{size_in, over_along, fitted_within, fitted_over}
use Rattle.record.proofs.Keeping.{has_name}

-- sizes stay
sizes_stay : (c d : Cluster) (id : ℕ) (fee : ℤ) → SetsFee c.graph d.graph id fee → (p : ℕ) → size_in d p ≡ size_in c p
sizes_stay c d id fee sets p = elim (cases_eq p id) [
  | inl same ↦
      ap (λ (x : ℕ). size_in d x) same ∙ ap (λ (r : FeeRate). r.size) sets.rate_is ∙ ap (λ (x : ℕ). size_in c x) (sym same)
  | inr other ↦ ap (λ (r : FeeRate). r.size) (sets.rates p other)
]

-- one fee more or less
pub fee_fits : (most : ℕ) (c d : Cluster) (id : ℕ) (fee : ℤ) → d.names ≡ c.names → SetsFee c.graph d.graph id fee → IsCluster most c
    → IsCluster most d → StaysFitted most c d
fee_fits most c d id fee names sets was is limits fitted =
    fitted_within most limits c d fitted was is (over_along limits d c (sym names) (λ p _. sym (sizes_stay c d id fee sets p)))

connected_fee : (c d : Cluster) (id : ℕ) (fee : ℤ) → IsFee fee → d.names ≡ c.names → SetsFee c.graph d.graph id fee
    → IsOrder (is_member d.graph) (is_ancestor d.graph) → IsConnected c → IsConnected d
connected_fee c d id fee fine names sets order was = record {
  some = subst (λ (xs : List ℕ). 1 ≤ length xs) (sym names) was.some;
  once = subst (λ (xs : List ℕ). AreDistinct xs) (sym names) was.once;
  members = λ p. (
    (λ e. subst (λ (xs : List ℕ). Contains xs p) (sym names) ((was.members p).0 (sym (sets.members p) ∙ e))),
    (λ here. sets.members p ∙ (was.members p).1 (subst (λ (xs : List ℕ). Contains xs p) names here)),
  );
  order = order;
  whole = λ a b here there.
      Walk-map (λ x. x) (IsRelated c.graph) (IsRelated d.graph)
      (λ x y related. elim related [ inl up ↦ inl (sets.ancestors x y ∙ up) | inr down ↦ inr (sets.ancestors y x ∙ down) ]) a b
      (was.whole a b (sym (sets.members a) ∙ here) (sym (sets.members b) ∙ there));
  rates = λ p here. elim (cases_eq p id) [
    | inl same ↦
        let range : IsRate (rate_of c.graph id) = was.rates id (sym (sets.members id) ∙ subst (λ (x : ℕ). is_member d.graph x ≡ true) same here) in
        subst (λ (x : ℕ). IsRate (rate_of d.graph x)) (sym same)
        (subst (λ (r : FeeRate). IsRate r) (sym sets.rate_is) (record { fee = fine; some = range.some; size = range.size }))
    | inr other ↦ subst (λ (r : FeeRate). IsRate r) (sym (sets.rates p other)) (was.rates p (sym (sets.members p) ∙ here))
  ];
}

module _ (s : Cluster) (old new : Links) (id : ℕ) (fee : ℤ) (fine : IsFee fee) (are : AreLinks old) (old_is : unordered old ≡ s)
    (connected : IsConnected (unordered old)) (txs : new.txs ≡ map (priced id fee) old.txs) (same : AreSame old.pairs new.pairs) (there : Contains s.names id)
    (are' : AreLinks new) where
  sets : SetsFee (closure old) (closure new) id fee
  sets = priced_sets old new id fee are are' (has_name old are s old_is id there) txs same

  names : names_of new.txs ≡ names_of old.txs
  names = ap (λ (xs : Txs). names_of xs) txs ∙ priced_names id fee old.txs

  pub priced_names_are : (unordered new).names ≡ s.names
  priced_names_are = names ∙ ap (λ (c : Cluster). c.names) old_is

  pub priced_connected : IsConnected (unordered new)
  priced_connected = connected_fee (unordered old) (unordered new) id fee fine names sets (orders new are') connected

  pub priced_graph : SetsFee s.graph (unordered new).graph id fee
  priced_graph = subst (λ (g : Closure). SetsFee g (closure new) id fee) (ap (λ (c : Cluster). c.graph) old_is) sets

  pub priced_fitted : (most : ℕ) → StaysFitted most s (unordered new)
  priced_fitted most =
      subst (λ (c : Cluster). StaysFitted most c (unordered new)) old_is (λ limits fitted.
      fitted_over most limits (unordered old) (unordered new) fitted refl refl priced_connected
      (over_along limits (unordered old) (unordered new) names (λ p _. sizes_stay (unordered old) (unordered new) id fee sets p)))
