-- The clusters of a level, as lists of their names.
use Rattle.std.proofs.Common.{◌≡◌, ◌↔◌, Ok, Err, ◌∷◌, [], ◌++◌, List, ℕ, true, map, flat_map, Contains, get_or, refl, ap, subst, ◌∙◌}
use Rattle.std.proofs.lemmas.List.Elements.{Contains-get_or}
use Rattle.std.specs.Prelude.{IfOk}
use Rattle.std.specs.declared.result.Result.{Result}
use Rattle.outside.specs.declared.errors.NoMemory.{NoMemory}
use Rattle.lists.specs.Distinct.{AreDistinct}
use Rattle.lists.proofs.Entries.{Contains-map, map-Contains}
use Rattle.graphs.specs.Closures.{IsOrder, is_ancestor, is_member}
use Rattle.graphs.specs.Graphs.{AreConnected, Graph}
use Rattle.graphs.proofs.ClosingLemmas.{connected_linked, order_from}
use Rattle.cluster.specs.Clusters.{Cluster}
use Rattle.record.specs.Records.{IsConnected}
use Rattle.graphs.specs.declared.names.Level.{Level}
use Rattle.graph_model.specs.States.{State, level_of}
use Rattle.levels.specs.Levels.{OneLevel, level_at}
use Rattle.levels.specs.Views.{AreItsClusters}
use Rattle.tx_graph.specs.Kept.{IsGraphOf, Kept, StandsFor}
use Rattle.tx_graph.proofs.Standing.{graph_at}
use Rattle.tx_graph.specs.Unions.{AreTheirComponents}
use Rattle.desk.specs.declared.listing.Groups.{Groups}
use Rattle.desk.specs.Copies.{AreGrouped}
use Rattle.desk.specs.Orders.{TellsClusters}
use Rattle.desk.proofs.Lists.{names_of}

-- the names of lists of names, one after the other
pub names_flat : (cs : List Cluster) → flat_map names_of cs ≡ flat_map (λ (names : List ℕ). names) (map names_of cs)
names_flat [] = refl
names_flat (c ∷ cs) = ap (λ (ys : List ℕ). c.names ++ ys) (names_flat cs)

module _ (level : OneLevel) (graph : Graph) (is : IsGraphOf level graph) (cs : List Cluster) (all : AreItsClusters level.graph cs)
    (whole : (c : Cluster) → Contains cs c → IsConnected c) where
  order : IsOrder (is_member level.graph) (is_ancestor level.graph)
  order = order_from (is_member level.graph) (is_ancestor level.graph) graph is.closure is.among

  -- a name of one of them is in the level
  live : (c : Cluster) → Contains cs c → (id : ℕ) → Contains c.names id → is_member level.graph id ≡ true
  live c here id there =
      let own = whole c here in
      (order.among id id ((all.each c here id there).above id id there ∙ own.order.reflexive id ((own.members id).1 there))).0

  connected : (c : Cluster) → Contains cs c → (id q : ℕ) → Contains c.names id → Contains c.names q ↔ AreConnected graph.pairs id q
  connected c here id q there =
      let told = connected_linked level.graph graph order is.closure id q in
      let one = all.each c here id there in (λ in_names. told.1 (one.linked q in_names), λ leads. one.alone q (told.0 leads))

  pub its_clusters : AreTheirComponents graph graph.names (map names_of cs)
  its_clusters = record {
    each = λ names there.
        let (c, here, same) = map-Contains names_of cs names there in
        let id = get_or c.names 0 0 in
        let in_names : Contains c.names id = Contains-get_or c.names 0 0 (whole c here).some in
        let known : Contains graph.names id = (is.closure.names id).1 (live c here id in_names) in
        (id, known, known, λ q. subst (λ (ids : List ℕ). Contains ids q ↔ AreConnected graph.pairs id q) same (connected c here id q in_names));
    once = subst AreDistinct (names_flat cs) all.once;
    all = λ id here known.
        let (c, there, in_names) = all.all id ((is.closure.names id).0 known) in (c.names, Contains-map names_of cs c there, in_names);
  }

pub tells_clusters : (kept : Kept) (level : Level) (cs : List Cluster) → AreItsClusters (level_at kept.levels level).graph cs
    → (r : Result Groups NoMemory) → IfOk r (AreGrouped (map names_of cs)) → IfOk r (λ _. (c : Cluster) → Contains cs c → IsConnected c)
    → IfOk r (λ groups. (state : State) → StandsFor kept state → TellsClusters state level groups.counts.items groups.ids.items)
tells_clusters kept level cs all (Ok groups) listed whole = λ state stands. (
  map names_of cs,
  its_clusters (level_at kept.levels level) (level_of state.plain level) (graph_at kept state.plain stands.plain level) cs all whole,
  listed.counts,
  listed.names,
)
tells_clusters kept level cs all (Err e) listed whole = tt
