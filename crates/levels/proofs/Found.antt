-- The cluster of a name, told by the graph.
use Rattle.std.proofs.Common.{◌≡◌, ℕ, Contains, Some, inl, inr}
use Rattle.lists.proofs.Cases.{same_test}
use Rattle.lists.proofs.Walks.{Walk-map, Walk-keeps}
use Rattle.graphs.specs.Closures.{is_ancestor, IsRelated}
use Rattle.cluster.specs.Clusters.{Cluster}
use Rattle.levels.specs.Views.{View, graph_of, IsIndexed, IsClusterOf}
use Rattle.levels.proofs.Graphs.{above_in, above_from, names_of_above, rate_in_cluster}

module _ (most : ℕ) (view : View) (indexed : IsIndexed most view) (number : ℕ) (c : Cluster) (is : view.at number ≡ Some c) where
  related_in : (a d : ℕ) → Contains c.names a → IsRelated (graph_of view) a d → Contains c.names d
  related_in a d here related = elim related [
    | inl up ↦ (names_of_above most view indexed number a d c is (above_from most view indexed number a d c is (inl here) up)).1
    | inr down ↦ (names_of_above most view indexed number d a c is (above_from most view indexed number d a c is (inr here) down)).0
  ]

  related_out : (a d : ℕ) → IsRelated c.graph a d → IsRelated (graph_of view) a d
  related_out a d related = elim related [
    | inl up ↦ inl (above_in most view indexed number a d c is up)
    | inr down ↦ inr (above_in most view indexed number d a c is down)
  ]

  pub cluster_of : (id : ℕ) → Contains c.names id → IsClusterOf (graph_of view) id c
  cluster_of id here =
      let cluster = (indexed.whole number c is).connected in
      record {
        members = cluster.members;
        here = here;
        linked = λ q there.
            Walk-map (λ x. x) (IsRelated c.graph) (IsRelated (graph_of view)) related_out id q
            (cluster.whole id q ((cluster.members id).1 here) ((cluster.members q).1 there));
        alone = λ q linked. Walk-keeps (IsRelated (graph_of view)) (Contains c.names) (λ a d related there. related_in a d there related) id q linked here;
        above = λ a d there. same_test (is_ancestor (graph_of view) a d) (is_ancestor c.graph a d)
            (above_from most view indexed number a d c is (inr there)) (above_in most view indexed number a d c is);
        below = λ a d there. same_test (is_ancestor (graph_of view) a d) (is_ancestor c.graph a d)
            (above_from most view indexed number a d c is (inl there)) (above_in most view indexed number a d c is);
        rates = λ q there. rate_in_cluster most view indexed number q c is there;
      }
