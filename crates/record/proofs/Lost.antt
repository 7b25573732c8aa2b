-- What is left of a component without an order.
use Rattle.std.proofs.Common.{◌≡◌, ℕ, ℤ, ◌+◌, ◌≤◌, List, [], length, map, not, ap, subst, arith}
use Rattle.std.specs.Prelude.{Contains, Result, Ok, Err, IfOk}
use Rattle.std.specs.List.{filter}
use Rattle.lists.proofs.Distinct.{distinct_within}
use Rattle.lists.proofs.Entries.{filter-Contains, map-Contains, Contains-map}
use Rattle.graphs.specs.Certificates.{Txs}
use Rattle.graph_model.specs.declared.names.Limits.{Limits}
use Rattle.cluster.specs.Clusters.{Cluster}
use Rattle.cluster.specs.Changes.{AreComponents, IsSplit}
use Rattle.links.specs.Laws.{DropsPlaces}
use Rattle.links.specs.Leaving.{KeepAncestors, goes}
use Rattle.links.specs.Links.{Links, AreLinks}
use Rattle.links.specs.Kept.{names_of}
use Rattle.links.specs.Closing.{closure}
use Rattle.links.proofs.Changing.{without_drops}
use Rattle.record.specs.Kept.{unordered}
use Rattle.record.specs.Steps.{most_steps_fit_of}
use Rattle.record.proofs.Losing.{components_from, split_from, steps_from}
use Rattle.record.proofs.Standing.{names_long}

pub both_ok : {T E : Type 0} (P Q R : T → Type 0) (r : Result T E) → IfOk r P → IfOk r Q → ((x : T) → P x → Q x → R x) → IfOk r R
both_ok P Q R (Ok x) p q then = then x p q
both_ok P Q R (Err e) p q then = tt

module _ (s : Cluster) (old left : Links) (gone : List ℕ) (are : AreLinks old) (is : unordered old ≡ s) (are' : AreLinks left)
    (txs : left.txs ≡ filter (λ tx. not (goes gone tx.0)) old.txs) (keep : KeepAncestors old.pairs gone left.pairs) where
  drops : DropsPlaces (closure old) (closure left) (goes gone)
  drops = without_drops old left gone are are' txs keep

  pub lost_split : (parts : List Cluster) → AreComponents (closure left) [] (map (λ c. c.names) parts) → IsSplit (closure left) [] parts
      → IsSplit s.graph gone parts
  lost_split parts all split = subst (λ (c : Cluster). IsSplit c.graph gone parts) is (split_from (closure old) (closure left) gone drops parts all split)

  pub lost_components : (parts : List Cluster) → AreComponents (closure left) [] (map (λ c. c.names) parts)
      → AreComponents s.graph gone (map (λ c. c.names) parts)
  lost_components parts all =
      subst (λ (c : Cluster). AreComponents c.graph gone (map (λ (d : Cluster). d.names) parts)) is
      (components_from (closure old) (closure left) gone drops (map (λ (c : Cluster). c.names) parts) all)

  pub lost_steps : (limits : Limits) (before after : ℕ)
      → ((lists : List (List ℕ)) → AreComponents (closure left) [] lists → after ≤ before + most_steps_fit_of limits (closure left) lists)
      → (lists : List (List ℕ)) → AreComponents s.graph gone lists → after ≤ before + most_steps_fit_of limits s.graph lists
  lost_steps limits before after few =
      subst (λ (c : Cluster). (lists : List (List ℕ)) → AreComponents c.graph gone lists → after ≤ before + most_steps_fit_of limits c.graph lists) is
      (steps_from (closure old) (closure left) gone drops limits before after few)

  pub lost_few : (most : ℕ) → length s.names ≤ most → length left.txs ≤ most
  lost_few most few =
      let inside : (id : ℕ) → Contains (names_of left.txs) id → Contains (names_of old.txs) id =
      λ id here.
      (let (tx, there, same) = map-Contains (λ (t : ℕ × ℤ × ℕ). t.0) left.txs id here in
      subst (λ (x : ℕ). Contains (names_of old.txs) x) same
      (Contains-map (λ (t : ℕ × ℤ × ℕ). t.0) old.txs tx (filter-Contains (λ (t : ℕ × ℤ × ℕ). not (goes gone t.0)) old.txs tx
      (subst (λ (xs : Txs). Contains {X = ℕ × ℤ × ℕ} xs tx) txs there)).1)) in
      let within = (distinct_within (λ (x : ℕ). x) (names_of left.txs) (names_of old.txs) are'.graph_is.names inside).0 in
      let own = names_long left.txs in
      let all : length (names_of old.txs) ≡ length s.names = ap (λ (c : Cluster). length c.names) is in
      omega (arith, within, own, all, few)
