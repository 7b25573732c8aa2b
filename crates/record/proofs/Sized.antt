-- Links within the limits or over them.
use Rattle.std.proofs.Common.{◌≡◌, ℕ, ℤ, List, [], ◌∷◌, length, inl, inr, refl, sym, ap, ◌∙◌, subst, subst₂}
use Rattle.std.specs.Prelude.{sum_by}
use Rattle.std.proofs.lemmas.Bool.{cases_lt}
use Rattle.graphs.specs.Certificates.{Part, Txs}
use Rattle.graphs.specs.Closures.{Closure, rate_of}
use Rattle.graph_model.specs.Limits.{AreOver, bounds_of}
use Rattle.graph_model.specs.declared.names.Limits.{Limits}
use Rattle.cluster.specs.Clusters.{Cluster, IsCluster}
use Rattle.cluster.specs.Steps.{GrowsWithin, most_steps}
use Rattle.links.specs.Links.{Links, AreLinks}
use Rattle.links.specs.Kept.{names_of}
use Rattle.links.specs.Closing.{closure}
use Rattle.record.specs.Kept.{unordered}
use Rattle.record.specs.Records.{IsConnected, IsFitted, IsLike, IsOver}
use Rattle.record.specs.Steps.{most_steps_again, most_steps_fit, most_steps_in, most_steps_within, total_size}
use Rattle.record.proofs.Connected.{IsCluster-connected}
use Rattle.record.proofs.Fewer.{within_steps}
use Rattle.record.proofs.Ordered.{has_parts}
use Rattle.record.proofs.Rating.{size_told}
use Rattle.record.proofs.Standing.{names_long}
use Rattle.record.proofs.Together.{AreMore}

-- ---- steps

pub none_steps : (limits : Limits) (count size : ℕ) → (AreMore limits count size → ⊥) → most_steps_within limits count size ≡ most_steps count
none_steps limits count size none = elim (cases_lt limits.count count) [
  | inl many ↦ absurd (none (inl many))
  | inr few ↦ elim (cases_lt limits.size size) [
    | inl large ↦ absurd (none (inr large))
    | inr small ↦ within_steps limits count size few small
  ]
]

pub again_is : (most : ℕ) (c : Cluster) → IsCluster most c → most_steps_again c ≡ most_steps (length c.names)
again_is most c whole = by c.parts (λ none. has_parts most c whole none)
  where
    by : (parts : List Part) → (parts ≡ [] → ⊥) → most_steps_in parts (length c.names) ≡ most_steps (length c.names)
    by [] some = absurd (some refl)
    by (part ∷ parts) some = refl

-- a component with its order is ordered anew
pub ordered_again : (most : ℕ) (c s : Cluster) → c ≡ s → IsCluster most s → (before after : ℕ) → GrowsWithin (most_steps (length c.names)) before after
    → GrowsWithin (most_steps_again s) before after
ordered_again most c s is whole before after grows =
    subst (λ (m : ℕ). GrowsWithin m before after) (ap (λ (x : Cluster). most_steps (length x.names)) is ∙ sym (again_is most s whole)) grows

-- ---- links within the limits or over them

module _ (limits : Limits) (links : Links) (are : AreLinks links) (one two : Txs) (one_is : one ≡ links.txs) (two_is : two ≡ links.txs) (size : ℕ)
    (size_is : size ≡ sum_by (λ (tx : ℕ × ℤ × ℕ). tx.2) two) where
  pub count_told : length one ≡ length (names_of links.txs)
  count_told = ap (λ (txs : Txs). length txs) one_is ∙ sym (names_long links.txs)

  pub all_told : size ≡ total_size (closure links) (names_of links.txs)
  all_told = size_is ∙ ap (λ (txs : Txs). sum_by (λ (tx : ℕ × ℤ × ℕ). tx.2) txs) two_is ∙ size_told links are (unordered links) refl

  pub told_over : AreMore limits (length one) size → IsOver limits (unordered links)
  told_over more = subst₂ (λ (m n : ℕ). AreMore limits m n) count_told all_told more

  pub over_told : IsOver limits (unordered links) → AreMore limits (length one) size
  over_told over = subst₂ (λ (m n : ℕ). AreMore limits m n) (sym count_told) (sym all_told) over

-- a component without an order, over them
pub fits_over : (most : ℕ) (limits : Limits) (links : Links) (r : Cluster) → IsConnected (unordered links) → IsOver limits (unordered links)
    → r ≡ unordered links → IsFitted most limits r
fits_over most limits links r connected over is =
    subst (λ (c : Cluster). IsFitted most limits c) (sym is)
    (record { connected = connected; within = λ not_over. absurd (not_over over); over = λ _. refl })

-- one with its order, within them
pub fits_within : (most : ℕ) (limits : Limits) (links : Links) (r : Cluster) → (IsOver limits (unordered links) → ⊥) → IsLike r (unordered links)
    → IsCluster most r → IsFitted most limits r
fits_within most limits links r none (names, graph) whole = record {
  connected = IsCluster-connected most r whole;
  within = λ _. whole;
  over = λ over.
      absurd (none (subst₂ (λ (ns : List ℕ) (g : Closure). AreOver (bounds_of limits) (λ id. (rate_of g id).size) ns) names graph over));
}

pub links_steps : (limits : Limits) (links : Links) (before after : ℕ) → (IsOver limits (unordered links) → ⊥)
    → GrowsWithin (most_steps (length links.txs)) before after → GrowsWithin (most_steps_fit limits (closure links) (names_of links.txs)) before after
links_steps limits links before after none grows =
    subst (λ (m : ℕ). GrowsWithin m before after)
    (ap (λ (n : ℕ). most_steps n) (sym (names_long links.txs))
    ∙ sym (none_steps limits (length (names_of links.txs)) (total_size (closure links) (names_of links.txs)) none)) grows
