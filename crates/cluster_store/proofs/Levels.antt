-- The parts of a level, merged, are a pick of a graph that is made of graphs with the closures of its clusters.
use Rattle.std.proofs.Common.{◌≡◌, ℕ, ◌+◌, ◌<◌, ◌≤◌, Bool, true, false, ◌&&◌, List, [], ◌∷◌, map, length, get_or, sum_by, nat_lt, Option, Some, None, Contains, refl, sym, ap, ◌∙◌, subst, arith}
use Rattle.std.proofs.lemmas.Bool.Decides.{nat_tests}
use Rattle.std.proofs.lemmas.List.Sums.{sum_by-cons}
use Rattle.std.proofs.lemmas.List.Elements.{Contains-get_or}
use Rattle.std.specs.declared.cmp.Ordering.TheVariants.{Less}
use Rattle.std.specs.Ordering.{is_lt}
use Rattle.std.specs.FinMap as finmap
use Rattle.lists.proofs.Entries.{Contains-head, Contains-later, Contains-filter, filter-Contains, map-Contains, Contains-map}
use Rattle.std.proofs.lemmas.Bool.{and_parts}
use Rattle.lists.proofs.Flats.{flat_has}
use Rattle.fee_rate.specs.declared.rates.Sum.{Sum}
use Rattle.fee_rate.specs.Rates.{AtMost}
use Rattle.graphs.specs.Graphs.{Graph, IsGraph}
use Rattle.graphs.specs.Rates.{sums, Falls}
use Rattle.graphs.specs.Closing.{IsClosureOf}
use Rattle.graphs.specs.Certificates.{Part}
use Rattle.graphs.specs.Merges.{IsMerge, IsSorted, IsUnion}
use Rattle.graphs.specs.Picks.{IsPick}
use Rattle.graphs.specs.declared.names.Level.{Level}
use Rattle.graphs.proofs.MergeLemmas.{sorted_merge, sorted_falls}
use Rattle.graphs.proofs.PickLemmas.{picks_are_kept}
use Rattle.chunk_index.specs.KeyOrder.{key_cmp}
use Rattle.chunk_index.specs.Keys.{IsInOrder}
use Rattle.chunk_index.specs.Items.{is_in}
use Rattle.cluster.specs.Clusters.{Cluster, IsCluster, sum_at}
use Rattle.cluster_store.specs.Stores.{Stored, Numbered, Store, Shown, IsOrdered, no_part, parts_in, part_at, key_at, passes, places_by, places_in, shown_at, parts_of_level}
use Rattle.cluster_store.specs.Laws.{Stands}
use Rattle.chunk_index.proofs.Lists.{filter_in_order}
use Rattle.cluster_store.proofs.Sorted.{less_of}
use Rattle.cluster_store.proofs.Unique.{both_before, behind_first, rest_order}
use Rattle.cluster_store.proofs.Rates.{before_rates, places_from, places_listed, listed_places, places_parts, places_in_order}

-- ---- the order, of parts with a size

abbrev pub is_real : Numbered → ℕ × ℕ → Bool
is_real clusters x = nat_lt 0 (part_at clusters x).rate.size

abbrev pub comes_before : Numbered → ℕ × ℕ → ℕ × ℕ → Bool
comes_before clusters x y = is_real clusters x && (is_real clusters y && is_lt (key_cmp (key_at clusters x) (key_at clusters y)))

false_true : false ≡ true → ⊥
false_true e = cc

real_size : (n : ℕ) → nat_lt 0 n ≡ true → 1 ≤ n
real_size n e = grind (arith, nat_tests)

size_real : (n : ℕ) → 1 ≤ n → nat_lt 0 n ≡ true
size_real n e = grind (arith, nat_tests)

module _ (clusters : Numbered) where
  pub before_less : (x y : ℕ × ℕ) → comes_before clusters x y ≡ true → key_cmp (key_at clusters x) (key_at clusters y) ≡ Less
  before_less x y e =
      let rest = (and_parts (is_real clusters x) (is_real clusters y && is_lt (key_cmp (key_at clusters x) (key_at clusters y))) e).1 in
      less_of (key_cmp (key_at clusters x) (key_at clusters y))
      (and_parts (is_real clusters y) (is_lt (key_cmp (key_at clusters x) (key_at clusters y))) rest).1

  pub never_both : (x y : ℕ × ℕ) → comes_before clusters x y ≡ true → comes_before clusters y x ≡ true → ⊥
  never_both x y a b = both_before (key_at clusters) x y (before_less x y a) (before_less y x b)

  pub before_falls : (x y : ℕ × ℕ) → comes_before clusters x y ≡ true → AtMost (part_at clusters y).rate (part_at clusters x).rate
  before_falls x y e =
      let first = and_parts (is_real clusters x) (is_real clusters y && is_lt (key_cmp (key_at clusters x) (key_at clusters y))) e in
      let second = and_parts (is_real clusters y) (is_lt (key_cmp (key_at clusters x) (key_at clusters y))) first.1 in
      record {
        crossed = before_rates (key_at clusters x) (key_at clusters y) (before_less x y e) (real_size (part_at clusters x).rate.size first.0)
            (real_size (part_at clusters y).rate.size second.0);
      }

  less_before : (x y : ℕ × ℕ) → is_real clusters x ≡ true → is_real clusters y ≡ true
      → key_cmp (key_at clusters x) (key_at clusters y) ≡ Less → comes_before clusters x y ≡ true
  less_before x y x_real y_real less = rw (x_real, y_real, less) refl

  pub sorted_places : (xs : List (ℕ × ℕ)) → IsInOrder (key_at clusters) xs
      → ((x : ℕ × ℕ) → Contains xs x → is_real clusters x ≡ true) → IsSorted (comes_before clusters) xs
  sorted_places [] order real = tt
  sorted_places (x ∷ xs) order real = (
    λ y here. less_before x y (real x (Contains-head x xs)) (real y (Contains-later x y xs here)) (behind_first (key_at clusters) x y xs order here),
    sorted_places xs (rest_order (key_at clusters) x xs order) (λ y here. real y (Contains-later x y xs here)),
  )

-- ---- one cluster

some_name : (ids : List ℕ) → (ids ≡ [] → ⊥) → (f : ℕ → ℕ) → ((id : ℕ) → Contains ids id → 1 ≤ f id) → 1 ≤ sum_by f ids
some_name [] some f sizes = absurd (some refl)
some_name (id ∷ ids) some f sizes =
    let one = sizes id (Contains-head id ids) in let all = sum_by-cons f id ids in omega (arith, one, all)

module _ (most : ℕ) (c : Cluster) (is : IsCluster most c) (graph : Graph) (closes : IsClosureOf c.graph graph) where
  own : IsPick (sum_at c.graph) graph c.parts
  own = is.picked graph closes

  pub part_sizes : (p : Part) → Contains c.parts p → 1 ≤ p.rate.size
  part_sizes p here =
      let total : p.rate ≡ sums (sum_at c.graph) p.ids = own.certificate.falling.summed p here in
      let some = some_name p.ids (own.certificate.filled p here) (λ id. (sum_at c.graph id).size) (λ id listed.
      (is.rates id ((closes.names id).0 ((own.certificate.order.topological.names id).0 (flat_has (λ (q : Part). q.ids) c.parts p id here listed)))).some) in
      let size : p.rate.size ≡ sum_by (λ id. (sum_at c.graph id).size) p.ids = ap (λ (s : Sum). s.size) total in
      omega (arith, some, size)

  pub part_rates : Falls (map (λ part. part.rate) c.parts)
  part_rates = own.certificate.falling.falling

  pub picked_by : (rate : ℕ → Sum) → IsGraph graph → ((id : ℕ) → Contains c.names id → sum_at c.graph id ≡ rate id) → IsPick rate graph c.parts
  picked_by rate whole same =
      (picks_are_kept.alike (sum_at c.graph) rate graph graph (record {
        names = λ id. ((λ h. h), (λ h. h));
        sums = λ id here. same id ((is.members id).0 ((closes.names id).0 here));
        ancestors = λ x y. ((λ h. h), (λ h. h));
      }) whole whole c.parts).0 own

-- ---- the level

-- Graphs, each with the number of a cluster that stands in the level and whose closure it is; there is one for each such cluster. `rate` has the
-- fees and sizes of their names.
pub record AreGraphs (level : Level) (clusters : Numbered) (rate : ℕ → Sum) (graphs : List (Graph × ℕ)) : Type 0 where
  pub stand : (g : Graph × ℕ) → Contains graphs g
      → (c : Cluster) × Stands level clusters g.1 c × IsClosureOf c.graph g.0 × ((id : ℕ) → Contains c.names id → sum_at c.graph id ≡ rate id)
  pub all : (number : ℕ) (c : Cluster) → Stands level clusters number c → (g : Graph) × Contains graphs (g, number)

fused : (clusters : Numbered) (ks : List (ℕ × ℕ)) → map (λ (s : Shown). s.part) (map (shown_at clusters) ks) ≡ map (part_at clusters) ks
fused clusters [] = refl
fused clusters (k ∷ ks) = ap (λ (ps : List Part). part_at clusters k ∷ ps) (fused clusters ks)

module _ (most : ℕ) (store : Store) (level : Level) (rate : ℕ → Sum) (graphs : List (Graph × ℕ)) (whole : Graph)
    (ordered : IsOrdered store.clusters store.order) (clusters_are : (n : ℕ) (c : Cluster) → Stands level store.clusters n c → IsCluster most c)
    (are : AreGraphs level store.clusters rate graphs) (union : IsUnion graphs whole) where
  component : Graph × ℕ → Graph × List (ℕ × ℕ)
  component g = (g.0, places_from g.1 0 (parts_in (finmap.get store.clusters g.1)))

  -- the cluster of a graph
  module _ (g : Graph × ℕ) (here : Contains graphs g) where
    own_parts : parts_in (finmap.get store.clusters g.1) ≡ (are.stand g here).0.parts
    own_parts = ap parts_in (are.stand g here).1.1 ∙ ap (λ (c : Cluster). c.parts) (are.stand g here).1.2

    own_cluster : IsCluster most (are.stand g here).0
    own_cluster = clusters_are g.1 (are.stand g here).0 (are.stand g here).1

    own_sizes : (p : Part) → Contains (parts_in (finmap.get store.clusters g.1)) p → 1 ≤ p.rate.size
    own_sizes p listed_part =
        part_sizes most (are.stand g here).0 own_cluster g.0 (are.stand g here).2 p (subst (λ (ps : List Part). Contains ps p) own_parts listed_part)

    own_falls : Falls (map (λ part. part.rate) (parts_in (finmap.get store.clusters g.1)))
    own_falls =
        subst (λ (ps : List Part). Falls (map (λ (part : Part). part.rate) ps)) (sym own_parts)
        (part_rates most (are.stand g here).0 own_cluster g.0 (are.stand g here).2)

    follows : (j : ℕ) → j < length (parts_in (finmap.get store.clusters g.1))
        → part_at store.clusters (g.1, 0 + j) ≡ get_or (parts_in (finmap.get store.clusters g.1)) j no_part
    follows j low = let same : 0 + j ≡ j = omega arith in ap (λ k. get_or (parts_in (finmap.get store.clusters g.1)) k no_part) same

    own_real : (x : ℕ × ℕ) → x.0 ≡ g.1 → x.1 < length (parts_in (finmap.get store.clusters g.1)) → is_real store.clusters x ≡ true
    own_real x number low =
        size_real (part_at store.clusters x).rate.size
        (subst (λ n. 1 ≤ (part_at store.clusters (n, x.1)).rate.size) (sym number)
        (own_sizes (get_or (parts_in (finmap.get store.clusters g.1)) x.1 no_part)
        (Contains-get_or (parts_in (finmap.get store.clusters g.1)) x.1 no_part low)))

    own_sorted : IsSorted (comes_before store.clusters) (component g).1
    unfolding component
    own_sorted =
        sorted_places store.clusters (places_from g.1 0 (parts_in (finmap.get store.clusters g.1)))
        (places_in_order store.clusters g.1 0 (parts_in (finmap.get store.clusters g.1)) follows own_falls own_sizes)
        (λ x there.
        let one = places_listed g.1 0 (parts_in (finmap.get store.clusters g.1)) x there in
        let low : x.1 < length (parts_in (finmap.get store.clusters g.1)) = omega (arith, one.2) in
        own_real x one.0 low)

    own_picked : IsPick rate g.0 (map (part_at store.clusters) (component g).1)
    unfolding component
    own_picked =
        subst (IsPick rate g.0) (sym (places_parts store.clusters g.1 0 (parts_in (finmap.get store.clusters g.1)) follows ∙ own_parts))
        (picked_by most (are.stand g here).0 own_cluster g.0 (are.stand g here).2 rate (union.graphs g here) (are.stand g here).3)

  -- ---- the graph of the level is made of these

  from_component : (c : Graph × List (ℕ × ℕ)) → Contains (map component graphs) c → (g : Graph × ℕ) × Contains graphs g × (component g ≡ c)
  from_component c here = map-Contains component graphs c here

  component_graph : (g : Graph × ℕ) → (component g).0 ≡ g.0
  unfolding component
  component_graph g = refl

  components_make : IsUnion (map component graphs) whole
  components_make = record {
    names = λ id. (
      λ here. let g = (union.names id).0 here in
          (component g.0, Contains-map component graphs g.0 g.1, subst (λ (h : Graph). Contains h.names id) (sym (component_graph g.0)) g.2),
      λ there.
          let g = from_component there.0 there.1 in
          (union.names id).1
          (g.0, g.1, subst (λ (h : Graph). Contains h.names id) (sym (ap (λ (c : Graph × List (ℕ × ℕ)). c.0) g.2) ∙ component_graph g.0) there.2),
    );
    pairs = λ a b. (
      λ here. let g = (union.pairs a b).0 here in
          (component g.0, Contains-map component graphs g.0 g.1, subst (λ (h : Graph). Contains h.pairs (a, b)) (sym (component_graph g.0)) g.2),
      λ there.
          let g = from_component there.0 there.1 in
          (union.pairs a b).1
          (g.0, g.1, subst (λ (h : Graph). Contains h.pairs (a, b)) (sym (ap (λ (c : Graph × List (ℕ × ℕ)). c.0) g.2) ∙ component_graph g.0) there.2),
    );
    apart = λ c d id c_in d_in c_has d_has.
        let g = from_component c c_in in
        let h = from_component d d_in in
        sym g.2 ∙ ap component (union.apart g.0 h.0 id g.1 h.1
        (subst (λ (k : Graph). Contains k.names id) (sym (ap (λ (e : Graph × List (ℕ × ℕ)). e.0) g.2) ∙ component_graph g.0) c_has)
        (subst (λ (k : Graph). Contains k.names id) (sym (ap (λ (e : Graph × List (ℕ × ℕ)). e.0) h.2) ∙ component_graph h.0) d_has)) ∙ h.2;
    graphs = λ c here.
        let g = from_component c here in
        subst IsGraph (sym (component_graph g.0) ∙ ap (λ (e : Graph × List (ℕ × ℕ)). e.0) g.2) (union.graphs g.0 g.1);
  }

  components_picked : (c : Graph × List (ℕ × ℕ)) → Contains (map component graphs) c → IsPick rate c.0 (map (part_at store.clusters) c.1)
  components_picked c here =
      let g = from_component c here in
      subst (λ (e : Graph × List (ℕ × ℕ)). IsPick rate e.0 (map (part_at store.clusters) e.1)) g.2
      (subst (λ (k : Graph). IsPick rate k (map (part_at store.clusters) (component g.0).1)) (sym (component_graph g.0)) (own_picked g.0 g.1))

  -- ---- and the level's places merge those of these

  key_graph : (x : ℕ × ℕ) → Contains (places_in level store) x
      → (g : Graph) × Contains graphs (g, x.0) × (x.1 < length (parts_in (finmap.get store.clusters x.0)))
  unfolding places_by
  key_graph x here =
      let kept = filter-Contains (λ (place : ℕ × ℕ). passes (is_in level) (finmap.get store.clusters place.0)) store.order x here in
      let g = of (finmap.get store.clusters x.0) refl kept.0 in
      (g.0, g.1, (ordered.exact x).0 kept.1)
    where
      of : (o : Option Stored) → finmap.get store.clusters x.0 ≡ o → passes (is_in level) o ≡ true → (g : Graph) × Contains graphs (g, x.0)
      of None there pass = absurd (false_true pass)
      of (Some s) there pass = are.all x.0 s.cluster (s, there, refl, pass)

  keys_sorted : IsSorted (comes_before store.clusters) (places_in level store)
  unfolding places_by
  keys_sorted =
      sorted_places store.clusters (places_in level store)
      (filter_in_order (key_at store.clusters) (λ (place : ℕ × ℕ). passes (is_in level) (finmap.get store.clusters place.0)) store.order ordered.sorted)
      (λ x here. let g = key_graph x here in own_real (g.0, x.0) g.1 x refl g.2)

  key_listed : (x : ℕ × ℕ) → Contains (places_in level store) x
      → (list : List (ℕ × ℕ)) × Contains (map (λ c. c.1) (map component graphs)) list × Contains list x
  unfolding component
  key_listed x here =
      let g = key_graph x here in
      let low : x.1 < 0 + length (parts_in (finmap.get store.clusters x.0)) = omega (arith, g.2) in (
        places_from x.0 0 (parts_in (finmap.get store.clusters x.0)),
        Contains-map (λ (c : Graph × List (ℕ × ℕ)). c.1) (map component graphs) (component (g.0, x.0)) (Contains-map component graphs (g.0, x.0) g.1),
        listed_places x.0 0 (parts_in (finmap.get store.clusters x.0)) x.1 (omega arith) low,
      )

  stands_there : (g : Graph × ℕ) (here : Contains graphs g) → passes (is_in level) (finmap.get store.clusters g.1) ≡ true
  stands_there g here = ap (passes (is_in level)) (are.stand g here).1.1 ∙ (are.stand g here).1.3

  listed_key : (x : ℕ × ℕ) (list : List (ℕ × ℕ)) → Contains (map (λ c. c.1) (map component graphs)) list → Contains list x → Contains (places_in level store) x
  unfolding places_by component
  listed_key x list in_lists in_list =
      let c = map-Contains (λ (e : Graph × List (ℕ × ℕ)). e.1) (map component graphs) list in_lists in
      let g = from_component c.0 c.1 in
      let same : places_from g.0.1 0 (parts_in (finmap.get store.clusters g.0.1)) ≡ list = ap (λ (e : Graph × List (ℕ × ℕ)). e.1) g.2 ∙ c.2 in
      let one = places_listed g.0.1 0 (parts_in (finmap.get store.clusters g.0.1)) x (subst (λ (l : List (ℕ × ℕ)). Contains l x) (sym same) in_list) in
      let low : x.1 < length (parts_in (finmap.get store.clusters g.0.1)) = omega (arith, one.2) in
      let there : x.1 < length (parts_in (finmap.get store.clusters x.0)) =
      subst (λ n. x.1 < length (parts_in (finmap.get store.clusters n))) (sym one.0) low in
      Contains-filter (λ (place : ℕ × ℕ). passes (is_in level) (finmap.get store.clusters place.0)) store.order x
      (ap (λ n. passes (is_in level) (finmap.get store.clusters n)) one.0 ∙ stands_there g.0 g.1) ((ordered.exact x).1 there)

  list_sorted : (list : List (ℕ × ℕ)) → Contains (map (λ c. c.1) (map component graphs)) list → IsSorted (comes_before store.clusters) list
  list_sorted list in_lists =
      let c = map-Contains (λ (e : Graph × List (ℕ × ℕ)). e.1) (map component graphs) list in_lists in
      let g = from_component c.0 c.1 in
      subst (IsSorted (comes_before store.clusters)) (ap (λ (e : Graph × List (ℕ × ℕ)). e.1) g.2 ∙ c.2) (own_sorted g.0 g.1)

  keys_merge : IsMerge (map (λ c. c.1) (map component graphs)) (places_in level store)
  keys_merge =
      sorted_merge (comes_before store.clusters) (map (λ c. c.1) (map component graphs))
      (places_in level store) (never_both store.clusters) list_sorted keys_sorted
      (λ x. (key_listed x, λ there. listed_key x there.0 there.1 there.2))

  keys_fall : Falls (map (λ key. (part_at store.clusters key).rate) (places_in level store))
  keys_fall =
      sorted_falls (comes_before store.clusters) (λ key. (part_at store.clusters key).rate) (places_in level store) (before_falls store.clusters) keys_sorted

  pub level_picked : IsPick rate whole (parts_of_level level store)
  level_picked =
      subst (IsPick rate whole) (sym (fused store.clusters (places_in level store)))
      (picks_are_kept.merged rate (part_at store.clusters) (map component graphs) whole
      (places_in level store) components_make components_picked keys_merge keys_fall)
