-- The refusals of a pair, by the clusters of its names.
use Rattle.std.proofs.Common.{◌≡◌, ℕ, ◌+◌, ◌<◌, true, false, List, [], ◌∷◌, ◌++◌, length, sym, refl, ap, ap₂, ◌∙◌, inl, inr, ◌⊎◌, ◌↔◌, Option, None, Some, true≢false, length-append}
use Rattle.std.specs.Prelude.{Contains, sum_by}
use Rattle.std.proofs.lemmas.List.Sums.{sum_by-append}
use Rattle.std.proofs.lemmas.List.Elements.{Contains-append_left, Contains-append_right, Contains-append_cases}
use Rattle.lists.proofs.Distinct.{distinct_joined}
use Rattle.lists.specs.Distinct.{AreDistinct}
use Rattle.lists.proofs.Walks.{Walk-trans}
use Rattle.arithmetic.proofs.Sums.{sum_by_along}
use Rattle.graphs.proofs.ClosingLemmas.{linked_back}
use Rattle.graphs.specs.Closures.{Closure, is_member, is_ancestor, rate_of, IsRelated, AreLinked}
use Rattle.graph_model.specs.declared.names.Limits.{Limits}
use Rattle.graph_model.specs.declared.names.Refusal.{Refusal}
use Rattle.graph_model.specs.declared.names.Refusal.TheVariants.{Cycle, Count, ClusterSize}
use Rattle.graphs.specs.Graphs.{Lists}
use Rattle.graphs.proofs.ListLemmas.{Lists-same}
use Rattle.graph_model.proofs.RowLemmas.{first_at_along}
use Rattle.fee_rate.specs.declared.rates.FeeRate.{FeeRate}
use Rattle.cluster.specs.Clusters.{Cluster}
use Rattle.levels.specs.Views.{IsClusterOf}
use Rattle.levels.specs.Joins.{JoinsTo, JoinsTooMany, JoinsTooLarge, DepRefusalIs, SumRefusalIs}
use Rattle.levels.proofs.Arranged.{arranged, arranged_is, arranged_increasing, arranged_sum, arranged_length}

-- the names that are linked to the one name or the other
abbrev pub IsLinkedToEither : Closure → ℕ → ℕ → ℕ → Type 0
IsLinkedToEither g p q id = AreLinked g id p ⊎ AreLinked g id q

-- ---- a pair within a cluster

-- two live names of one cluster
pub record AreTogether (g : Closure) (p q : ℕ) (c : Cluster) : Type 0 where
  pub p_live : is_member g p ≡ true
  pub q_live : is_member g q ≡ true
  pub cluster : IsClusterOf g p c
  pub q_in : Contains c.names q

module _ (g : Closure) (p q : ℕ) (c : Cluster) (t : AreTogether g p q c) where
  linked_already : AreLinked g p q
  linked_already = t.cluster.linked q t.q_in

  pub within_row : (limits : Limits) → is_ancestor g q p ≡ false → DepRefusalIs limits g p q None
  within_row limits apart = inr (
    λ none. none t.p_live,
    inr (
      λ none. none t.q_live,
      inr (λ up. true≢false (sym up ∙ apart), inr (λ n many. many.2.0 linked_already, inr (λ n large. large.2.0 linked_already, refl))),
    ),
  )

  pub cycle_row : (limits : Limits) → is_ancestor g q p ≡ true → DepRefusalIs limits g p q (Some Cycle)
  cycle_row limits up = inr (λ none. none t.p_live, inr (λ none. none t.q_live, inl (up, refl)))

  pub either_listed : AreDistinct c.names → Lists (IsLinkedToEither g p q) (arranged c.names)
  either_listed once = record {
    rising = arranged_increasing c.names once;
    exact = λ id. (
      λ here. inl (linked_back g p id (t.cluster.linked id ((arranged_is c.names id).0 here))),
      λ linked. (arranged_is c.names id).1 (elim linked [
        | inl x ↦ t.cluster.alone id (linked_back g id p x)
        | inr y ↦ t.cluster.alone id (Walk-trans (IsRelated g) p q id linked_already (linked_back g id q y))
      ]),
    );
  }

-- ---- a pair between two clusters

-- two live names of two clusters that have no name in common
pub record AreBetween (g : Closure) (p q : ℕ) (a b : Cluster) : Type 0 where
  pub p_live : is_member g p ≡ true
  pub q_live : is_member g q ≡ true
  pub first : IsClusterOf g p a
  pub second : IsClusterOf g q b
  pub first_once : AreDistinct a.names
  pub second_once : AreDistinct b.names
  pub apart : (id : ℕ) → Contains a.names id → Contains b.names id → ⊥

module _ (g : Closure) (p q : ℕ) (a b : Cluster) (t : AreBetween g p q a b) where
  abbrev members : List ℕ
  members = arranged (a.names ++ b.names)

  not_linked : AreLinked g p q → ⊥
  not_linked linked = t.apart q (t.first.alone q linked) t.second.here

  pub no_way : is_ancestor g q p ≡ true → ⊥
  no_way up = not_linked (q ∷ [], (inr up, refl))

  pub both_listed : Lists (IsLinkedToEither g p q) members
  both_listed = record {
    rising = arranged_increasing (a.names ++ b.names) (distinct_joined a.names b.names t.first_once t.second_once t.apart);
    exact = λ id. (
      λ here. elim (Contains-append_cases a.names b.names id ((arranged_is (a.names ++ b.names) id).0 here)) [
        | inl x ↦ inl (linked_back g p id (t.first.linked id x))
        | inr y ↦ inr (linked_back g q id (t.second.linked id y))
      ],
      λ linked. (arranged_is (a.names ++ b.names) id).1 (elim linked [
        | inl x ↦ Contains-append_left a.names b.names id (t.first.alone id (linked_back g id p x))
        | inr y ↦ Contains-append_right a.names b.names id (t.second.alone id (linked_back g id q y))
      ]),
    );
  }

  joins : JoinsTo g p q members
  joins = (not_linked, both_listed)

  abbrev size_in_graph : ℕ → ℕ
  size_in_graph id = (rate_of g id).size

  abbrev sizes_of : Cluster → ℕ
  sizes_of c = sum_by (λ id. (rate_of c.graph id).size) c.names

  pub count_is : length members ≡ length a.names + length b.names
  count_is = arranged_length (a.names ++ b.names) ∙ length-append a.names b.names

  pub size_is : sum_by size_in_graph members ≡ sizes_of a + sizes_of b
  size_is =
      arranged_sum size_in_graph (a.names ++ b.names) ∙ sum_by-append size_in_graph a.names b.names
      ∙ ap₂ (λ m n. m + n)
      (sum_by_along size_in_graph (λ id. (rate_of a.graph id).size) a.names (λ id here. ap (λ (r : FeeRate). r.size) (t.first.rates id here)))
      (sum_by_along size_in_graph (λ id. (rate_of b.graph id).size) b.names (λ id here. ap (λ (r : FeeRate). r.size) (t.second.rates id here)))

  same_members : (others : List ℕ) → JoinsTo g p q others → others ≡ members
  same_members others so = Lists-same (IsLinkedToEither g p q) others members so.1 both_listed

  many : (limits : Limits) (n : ℕ) → ((limits.defer ≡ false) × (n ≡ length a.names + length b.names) × (limits.count < n)) ↔ JoinsTooMany limits g p q n
  many limits n = (
    λ over. (members, over.0, joins, over.1 ∙ sym count_is, over.2),
    λ too. (too.1, too.3 ∙ ap length (same_members too.0 too.2) ∙ count_is, too.4),
  )

  large : (limits : Limits) (n : ℕ) → ((limits.defer ≡ false) × (n ≡ sizes_of a + sizes_of b) × (limits.size < n)) ↔ JoinsTooLarge limits g p q n
  large limits n = (
    λ over. (members, over.0, joins, over.1 ∙ sym size_is, over.2),
    λ too. (too.1, too.3 ∙ ap (sum_by size_in_graph) (same_members too.0 too.2) ∙ size_is, too.4),
  )

  pub between_row : (limits : Limits) (found : Option Refusal)
      → SumRefusalIs limits (length a.names + length b.names) (sizes_of a + sizes_of b) found → DepRefusalIs limits g p q found
  between_row limits found row = inr (
    λ none. none t.p_live,
    inr (
      λ none. none t.q_live,
      inr (no_way, first_at_along Count (many limits) (first_at_along ClusterSize (large limits) (λ none. none)) row),
    ),
  )
