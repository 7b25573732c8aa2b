-- The kin of some names of a level, and the components that they lie in, told by a plain graph.
use Rattle.std.proofs.Common.{◌≡◌, ◌↔◌, ℕ, true, List, [], ◌∷◌, ◌++◌, length, map, flat_map, Contains, refl, sym, ap, ◌∙◌, subst, inl, inr}
use Rattle.std.specs.Prelude.{IfErr, IfOk, Result, Ok, Err}
use Rattle.std.proofs.lemmas.List.{length-map}
use Rattle.lists.specs.Distinct.{AreDistinct}
use Rattle.lists.proofs.Entries.{Contains-map, map-Contains}
use Rattle.graphs.specs.Graphs.{Graph, AreConnected, Lists}
use Rattle.graphs.specs.Unions.{IsKin, IsKinOfSome, is_kin}
use Rattle.graphs.specs.declared.names.Kin.{Kin}
use Rattle.graphs.specs.declared.names.Kin.TheVariants.{Ancestors, Descendants}
use Rattle.graphs.proofs.ListLemmas.{Lists-for}
use Rattle.cluster.specs.Clusters.{Cluster}
use Rattle.graph_model.specs.States.{State, level_of}
use Rattle.graphs.specs.declared.names.Level.{Level}
use Rattle.levels.specs.Levels.{OneLevel, level_at}
use Rattle.levels.specs.Unions.{LieIn}
use Rattle.tx_graph.specs.Kept.{IsGraphOf, Kept, StandsFor}
use Rattle.tx_graph.specs.Unions.{AreTheirComponents, HaveComponentsOf, IsKinIn, LieInComponents}
use Rattle.tx_graph.proofs.Reading.{above_of}
use Rattle.tx_graph.proofs.Standing.{connected-linked, graph_at, told}

same_names : (clusters : List Cluster) → flat_map (λ (ns : List ℕ). ns) (map (λ (c : Cluster). c.names) clusters) ≡ flat_map (λ (c : Cluster). c.names) clusters
same_names [] = refl
same_names (c ∷ cs) = ap (λ (ns : List ℕ). c.names ++ ns) (same_names cs)

module _ (level : OneLevel) (graph : Graph) (of : IsGraphOf level graph) where
  kin_from : (kin : Kin) (a id : ℕ) → is_kin kin level.graph a id ≡ true → Contains graph.names id × IsKin kin graph.pairs a id
  kin_from Ancestors a id up = ((of.closure.names id).1 (of.among a id up).1, (told level graph of a id).1 (inr up))
  kin_from Descendants a id down = ((of.closure.names id).1 (of.among id a down).0, (told level graph of id a).1 (inr down))

  kin_to : (kin : Kin) (a id : ℕ) → Contains graph.names id → IsKin kin graph.pairs a id → is_kin kin level.graph a id ≡ true
  kin_to Ancestors a id here up = above_of level graph of id [] ((of.closure.names id).0 here) a id (inr refl) up
  kin_to Descendants a id here down = above_of level graph of id [] ((of.closure.names id).0 here) id a (inl refl) down

  pub union_told : (kin : Kin) (ids out : List ℕ) → Lists (IsKinOfSome kin level.graph ids) out → Lists (IsKinIn kin graph ids) out
  union_told kin ids out =
      Lists-for (IsKinOfSome kin level.graph ids) (IsKinIn kin graph ids) out
      (λ a (id, here, is). let from = kin_from kin a id is in (id, here, from.0, from.1))
      (λ a (id, here, there, is). (id, here, kin_to kin a id there is))

  lie_told : (ids : List ℕ) (clusters : List Cluster) → LieIn level.graph ids clusters
      → AreTheirComponents graph ids (map (λ (c : Cluster). c.names) clusters)
  lie_told ids clusters lie = record {
    each = λ names here.
        let (c, among, is) = map-Contains (λ (c : Cluster). c.names) clusters names here in
        let (id, listed, live, its) = lie.each c among in (
          id,
          listed,
          (of.closure.names id).1 live,
          λ q. subst (λ (ns : List ℕ). Contains ns q ↔ AreConnected graph.pairs id q) is (
            λ there. (connected-linked level graph of id q).1 (its.linked q there),
            λ trail. its.alone q ((connected-linked level graph of id q).0 trail),
          ),
        );
    once = subst AreDistinct (sym (same_names clusters)) lie.once;
    all = λ id listed live.
        let (c, among, here) = lie.all id listed ((of.closure.names id).0 live) in
        (c.names, Contains-map (λ (d : Cluster). d.names) clusters c among, here);
  }

  pub count_told : (ids : List ℕ) (n : ℕ) → (clusters : List Cluster) × LieIn level.graph ids clusters × (n ≡ length clusters)
      → LieInComponents graph ids n
  count_told ids n (clusters, lie, is) =
      (map (λ (c : Cluster). c.names) clusters, lie_told ids clusters lie, is ∙ sym (length-map clusters (λ (c : Cluster). c.names)))

  pub needs_told : (ids : List ℕ) (n : ℕ)
      → (clusters : List Cluster) × LieIn level.graph ids clusters × (n ≡ length (flat_map (λ (c : Cluster). c.names) clusters))
      → HaveComponentsOf graph ids n
  needs_told ids n (clusters, lie, is) =
      (map (λ (c : Cluster). c.names) clusters, lie_told ids clusters lie, is ∙ sym (ap length (same_names clusters)))

-- ---- in every state

module _ (kept : Kept) (at : Level) where
  pub unions_in : {E : Type 0} (kin : Kin) (ids out : List ℕ) (r : Result (Unit {0}) E)
      → IfOk r (λ _. Lists (IsKinOfSome kin (level_at kept.levels at).graph ids) out)
      → IfOk r (λ _. (state : State) → StandsFor kept state → Lists (IsKinIn kin (level_of state.plain at) ids) out)
  unions_in kin ids out (Ok u) lists = λ state stands.
      union_told (level_at kept.levels at) (level_of state.plain at) (graph_at kept state.plain stands.plain at) kin ids out lists
  unions_in kin ids out (Err e) lists = tt

  pub needs_in : {T : Type 0} (ids : List ℕ) (r : Result T ℕ)
      → IfErr r (λ needs. (clusters : List Cluster) × LieIn (level_at kept.levels at).graph ids clusters
      × (needs ≡ length (flat_map (λ (c : Cluster). c.names) clusters)))
      → IfErr r (λ needs. (state : State) → StandsFor kept state → HaveComponentsOf (level_of state.plain at) ids needs)
  needs_in ids (Ok x) tells = tt
  needs_in ids (Err n) tells = λ state stands.
      needs_told (level_at kept.levels at) (level_of state.plain at) (graph_at kept state.plain stands.plain at) ids n tells
