-- The parts of a level are a pick of every graph whose closure is the graph of the level: what each cluster has of such a graph has the cluster's
-- closure, and these make the graph.
use Rattle.std.proofs.Common.{◌≡◌, ℕ, suc, ◌<◌, Bool, true, false, ◌&&◌, ◌||◌, List, [], ◌∷◌, length, map, Option, Some, None, is_some, Contains, refl, sym, ap, ◌∙◌, subst}
use Rattle.std.proofs.lemmas.Bool.{cases_eq, and_from, and_parts}
use Rattle.std.proofs.lemmas.Option.{same_Some}
use Rattle.std.specs.List.{filter, list_any}
use Rattle.std.specs.Ordering.{nat_cmp, eq_by_cmp}
use Rattle.std.specs.Cmp.{Equal-is}
use Rattle.std.specs.FinMap as finmap
use Rattle.lists.proofs.Distinct.{distinct-filter}
use Rattle.lists.proofs.Entries.{Contains-head, Contains-later, Contains-filter, filter-Contains, map-Contains, Contains-map}
use Rattle.lists.proofs.Flats.{flat_has}
use Rattle.lists.proofs.Told.{cases_pair}
use Rattle.std.proofs.lemmas.List.{map-id}
use Rattle.std.proofs.lemmas.List.Elements.{Contains-get_or}
use Rattle.fee_rate.specs.declared.rates.FeeRate.{FeeRate}
use Rattle.fee_rate.specs.declared.rates.Sum.{Sum}
use Rattle.graphs.specs.declared.names.Flow.{Flow}
use Rattle.graphs.specs.declared.names.Level.{Level}
use Rattle.graphs.specs.Graphs.{Graph, IsGraph}
use Rattle.graphs.specs.Closures.{Closure, is_member, is_ancestor}
use Rattle.graphs.specs.Closing.{IsClosureOf, KeepsBetween, IsRenamed, within, renamed_part}
use Rattle.graphs.specs.Certificates.{Part}
use Rattle.graphs.specs.Merges.{IsUnion}
use Rattle.graphs.specs.Picks.{IsPick}
use Rattle.graphs.proofs.WalkLemmas.{walk_of_pair, walk_within}
use Rattle.graphs.proofs.ClosingLemmas.{closes_within}
use Rattle.graphs.proofs.PickLemmas.{picks_are_kept}
use Rattle.chunk_index.specs.Items.{is_in}
use Rattle.cluster.specs.Clusters.{Cluster, IsCluster, ArePicked, AreUncut, sum_at}
use Rattle.cluster_store.specs.Stores.{Stored, Numbered, Store, Shown, IsOrdered, no_part, part_in, parts_in, passes, places_by, places_in, shown_at, shown_in, parts_of_level}
use Rattle.cluster_store.specs.Laws.{Stands, IsLevel, LevelsArePicked}
use Rattle.cluster_store.proofs.Levels.{AreGraphs, level_picked}
use Rattle.cluster_store.proofs.Once.{IsOnce, listed_once}
use Rattle.graphs.proofs.MinimalLemmas.{uncut_with}

false_true : false ≡ true → ⊥
false_true e = cc

-- ---- the numbers of the clusters of a level

any_listed : (n : ℕ) (ks : List ℕ) → list_any (eq_by_cmp nat_cmp n) ks ≡ true → Contains ks n
any_listed n [] some = absurd (false_true some)
any_listed n (k ∷ ks) some = by (eq_by_cmp nat_cmp n k) refl some (any_listed n ks)
  where
    by : (b : Bool) → eq_by_cmp nat_cmp n k ≡ b → (b || list_any (eq_by_cmp nat_cmp n) ks) ≡ true → (list_any (eq_by_cmp nat_cmp n) ks ≡ true → Contains ks n)
        → Contains (k ∷ ks) n
    by true e any rest = subst (Contains (k ∷ ks)) (sym (finmap.nat_cmp-IsAntisymmetric n k ((Equal-is (nat_cmp n k)).0 e))) (Contains-head k ks)
    by false e any rest = Contains-later k n ks (rest any)

pub keyed : (clusters : Numbered) (n : ℕ) (s : Stored) → finmap.get clusters n ≡ Some s → Contains (finmap.keys clusters) n
keyed clusters n s is = any_listed n (finmap.keys clusters) (sym (finmap.contains_key-keys clusters n) ∙ ap is_some is)

numbers_in : Level → Numbered → List ℕ
numbers_in level clusters = filter (λ n. passes (is_in level) (finmap.get clusters n)) (finmap.keys clusters)

module _ (level : Level) (clusters : Numbered) where
  stands_listed : (n : ℕ) (c : Cluster) → Stands level clusters n c → Contains (numbers_in level clusters) n
  unfolding numbers_in
  stands_listed n c stands =
      Contains-filter (λ m. passes (is_in level) (finmap.get clusters m)) (finmap.keys clusters) n
      (ap (passes (is_in level)) stands.1 ∙ stands.3) (keyed clusters n stands.0 stands.1)

  listed_stands : (n : ℕ) → Contains (numbers_in level clusters) n → (c : Cluster) × Stands level clusters n c
  unfolding numbers_in
  listed_stands n here =
      of (finmap.get clusters n) refl (filter-Contains (λ m. passes (is_in level) (finmap.get clusters m)) (finmap.keys clusters) n here).0
    where
      of : (o : Option Stored) → finmap.get clusters n ≡ o → passes (is_in level) o ≡ true → (c : Cluster) × Stands level clusters n c
      of None there pass = absurd (false_true pass)
      of (Some s) there pass = (s.cluster, (s, there, refl, pass))

  one_cluster : (n : ℕ) (c d : Cluster) → Stands level clusters n c → Stands level clusters n d → c ≡ d
  one_cluster n c d one two = sym one.2 ∙ ap (λ (s : Stored). s.cluster) (same_Some one.0 two.0 (sym one.1 ∙ two.1)) ∙ two.2

-- the graph of the cluster of a number
graph_in : Option Stored → Closure
graph_in None = finmap.empty
graph_in (Some s) = s.cluster.graph

module _ (most : ℕ) (store : Store) (level : Level) (g : Closure) (ordered : IsOrdered store.clusters store.order)
    (clusters_are : (n : ℕ) (c : Cluster) → Stands level store.clusters n c → IsCluster most c) (is : IsLevel level store.clusters g) where
  -- ---- what a cluster has of the level's graph

  module _ (n : ℕ) (c : Cluster) (stands : Stands level store.clusters n c) where
    own : IsCluster most c
    own = clusters_are n c stands

    member_of : (id : ℕ) → is_member c.graph id ≡ true → is_member g id ≡ true
    member_of id e = (is.members id).1 (n, c, stands, (own.members id).0 e)

    above_of : (a d : ℕ) → is_ancestor c.graph a d ≡ true → is_ancestor g a d ≡ true
    above_of a d e = (is.ancestors a d).1 (n, c, stands, e)

    -- an ancestor of a name of the cluster is one in it
    above_in : (a d : ℕ) → is_member c.graph d ≡ true → is_ancestor g a d ≡ true → is_ancestor c.graph a d ≡ true
    above_in a d here e =
        let home = (is.ancestors a d).0 e in
        let other = clusters_are home.0 home.1 home.2 in
        let named : Contains home.1.names d = (other.members d).0 (other.order.among a d home.3).1 in
        let same : home.0 ≡ n = is.apart home.0 n d home.1 c home.2 stands named ((own.members d).0 here) in
        let one : home.1 ≡ c = one_cluster level store.clusters n home.1 c (subst (λ m. Stands level store.clusters m home.1) same home.2) stands in
        subst (λ (e : Cluster). is_ancestor e.graph a d ≡ true) one home.3

    between : KeepsBetween (is_member c.graph) (is_ancestor g)
    between a b d first last above below = (own.order.among b d (above_in b d last below)).0

    own_closes : (graph : Graph) → IsClosureOf g graph → IsClosureOf c.graph (within (is_member c.graph) graph)
    own_closes graph closes =
        let inner = closes_within (is_member g) (is_member c.graph) (is_ancestor g) graph closes between in
        record {
          names = λ id. (
            λ here. (and_parts (is_member c.graph id) (is_member g id) ((inner.names id).0 here)).0,
            λ e. (inner.names id).1 (and_from (is_member c.graph id) (is_member g id) e (member_of id e)),
          );
          ends = λ a d pair.
              let both = inner.ends a d pair in
              ((and_parts (is_member c.graph a) (is_member g a) both.0).0, (and_parts (is_member c.graph d) (is_member g d) both.1).0);
          acyclic = inner.acyclic;
          ancestors = λ a d a_in d_in.
              let up = inner.ancestors a d (and_from (is_member c.graph a) (is_member g a) a_in (member_of a a_in))
              (and_from (is_member c.graph d) (is_member g d) d_in (member_of d d_in)) in
              ((λ walk. above_in a d d_in (up.0 walk)), (λ e. up.1 (above_of a d e)));
        }

    own_sum : (id : ℕ) → Contains c.names id → sum_at c.graph id ≡ sum_at g id
    own_sum id here = ap (λ (r : FeeRate). record { fee = r.fee; size = r.size }) (sym (is.rates n id c stands here))

  -- ---- its parts are those of its clusters, none of which can be cut further

  -- a part of the level is one of a cluster
  part_home : (part : Part) → Contains (parts_of_level level store) part
      → (n : ℕ) × (c : Cluster) × Stands level store.clusters n c × Contains c.parts part
  unfolding places_by
  part_home part here =
      let shown = map-Contains (λ (s : Shown). s.part) (shown_in level store) part here in
      let at = map-Contains (shown_at store.clusters) (places_in level store) shown.0 shown.1 in
      let kept = filter-Contains (λ (place : ℕ × ℕ). passes (is_in level) (finmap.get store.clusters place.0)) store.order at.0 at.1 in
      let low = (ordered.exact at.0).0 kept.1 in
      let home = of at.0 (finmap.get store.clusters at.0.0) refl kept.0 low in
      (at.0.0, home.0, home.1, subst (Contains home.0.parts) (ap (λ (s : Shown). s.part) at.2 ∙ shown.2) home.2)
    where
      of : (place : ℕ × ℕ) (o : Option Stored) → finmap.get store.clusters place.0 ≡ o → passes (is_in level) o ≡ true → place.1 < length (parts_in o)
          → (c : Cluster) × Stands level store.clusters place.0 c × Contains c.parts (part_in o place.1)
      of place None there pass low = absurd (false_true pass)
      of place (Some s) there pass low = (s.cluster, (s, there, refl, pass), Contains-get_or s.cluster.parts place.1 no_part low)

  none_cut : AreUncut g (parts_of_level level store)
  none_cut graph closes part here =
      let home = part_home part here in
      let c = home.1 in
      let whole = own home.0 c home.2 in
      let mine = own_closes home.0 c home.2 graph closes in
      let order = (whole.picked (within (is_member c.graph) graph) mine).certificate.order.topological in
      uncut_with (sum_at c.graph) (sum_at g) (within (is_member c.graph) graph).pairs graph.pairs part.ids
      (λ a d pair. (filter-Contains (λ (p : ℕ × ℕ). is_member c.graph p.0 && is_member c.graph p.1) graph.pairs (a, d) pair).1)
      (λ id in_part. own_sum home.0 c home.2 id ((whole.members id).0 ((mine.names id).0
      ((order.names id).0 (flat_has (λ (p : Part). p.ids) c.parts part id home.3 in_part)))))
      (whole.uncut (within (is_member c.graph) graph) mine part home.3)

  -- ---- a graph with this closure is made of these

  module _ (graph : Graph) (single : IsGraph graph) (closes : IsClosureOf g graph) where
    part_graph : ℕ → Graph × ℕ
    part_graph n = (within (is_member (graph_in (finmap.get store.clusters n))) graph, n)

    graphs : List (Graph × ℕ)
    graphs = map part_graph (numbers_in level store.clusters)

    part_is : (n : ℕ) (c : Cluster) → Stands level store.clusters n c → part_graph n ≡ (within (is_member c.graph) graph, n)
    unfolding part_graph graph_in
    part_is n c stands =
        ap (λ (o : Option Stored). (within (is_member (graph_in o)) graph, n)) stands.1
        ∙ ap (λ (d : Cluster). (within (is_member d.graph) graph, n)) stands.2

    part_listed : (n : ℕ) (c : Cluster) → Stands level store.clusters n c → Contains graphs (within (is_member c.graph) graph, n)
    unfolding graphs
    part_listed n c stands =
        subst (Contains graphs) (part_is n c stands)
        (Contains-map part_graph (numbers_in level store.clusters) n (stands_listed level store.clusters n c stands))

    -- each of them is what a cluster of the level has
    pub record IsOf (h : Graph × ℕ) : Type 0 where
      pub cluster : Cluster
      pub stands : Stands level store.clusters h.1 cluster
      pub part : (within (is_member cluster.graph) graph, h.1) ≡ h

    listed_part : (h : Graph × ℕ) → Contains graphs h → IsOf h
    unfolding graphs
    listed_part h here =
        let n = map-Contains part_graph (numbers_in level store.clusters) h here in
        let c = listed_stands level store.clusters n.0 n.1 in
        subst IsOf n.2 (subst IsOf (sym (part_is n.0 c.0 c.1)) (record { cluster = c.0; stands = c.1; part = refl }))

    are_graphs : AreGraphs level store.clusters (sum_at g) graphs
    are_graphs = record {
      stand = λ h here.
          let of = listed_part h here in (
            of.cluster,
            of.stands,
            subst (λ (k : Graph × ℕ). IsClosureOf of.cluster.graph k.0) of.part (own_closes h.1 of.cluster of.stands graph closes),
            own_sum h.1 of.cluster of.stands,
          );
      all = λ n c stands. (within (is_member c.graph) graph, part_listed n c stands);
    }

    kept_graph : (keep : ℕ → Bool) → IsGraph (within keep graph)
    kept_graph keep = record {
      names = distinct-filter keep graph.names single.names;
      pairs = distinct-filter (λ (pair : ℕ × ℕ). keep pair.0 && keep pair.1) graph.pairs single.pairs;
      ends = λ a d pair.
          let found = filter-Contains (λ (p : ℕ × ℕ). keep p.0 && keep p.1) graph.pairs (a, d) pair in
          let kept = and_parts (keep a) (keep d) found.0 in
          let both = single.ends a d found.1 in
          (Contains-filter keep graph.names a kept.0 both.0, Contains-filter keep graph.names d kept.1 both.1);
      acyclic = λ a n walk.
          single.acyclic a n (walk_within (within keep graph).pairs graph.pairs
          (λ b d pair. (filter-Contains (λ (p : ℕ × ℕ). keep p.0 && keep p.1) graph.pairs (b, d) pair).1) a a (suc n) walk);
    }

    part_name : (h : Graph × ℕ) (of : IsOf h) (id : ℕ) → Contains h.0.names id → Contains of.cluster.names id × Contains graph.names id
    part_name h of id here =
        let found = filter-Contains (is_member of.cluster.graph) graph.names id (subst (λ (k : Graph × ℕ). Contains k.0.names id) (sym of.part) here) in
        (((clusters_are h.1 of.cluster of.stands).members id).0 found.0, found.1)

    part_pair : (h : Graph × ℕ) (of : IsOf h) (a d : ℕ) → Contains h.0.pairs (a, d) → Contains graph.pairs (a, d)
    part_pair h of a d here =
        (filter-Contains (λ (p : ℕ × ℕ). is_member of.cluster.graph p.0 && is_member of.cluster.graph p.1) graph.pairs (a, d)
        (subst (λ (k : Graph × ℕ). Contains k.0.pairs (a, d)) (sym of.part) here)).1

    pair_home : (a d : ℕ) → Contains graph.pairs (a, d) → (h : Graph × ℕ) × Contains graphs h × Contains h.0.pairs (a, d)
    pair_home a d pair =
        let both = closes.ends a d pair in
        let home = (is.ancestors a d).0 ((closes.ancestors a d both.0 both.1).0 (1, walk_of_pair graph.pairs a d pair)) in
        let among = (clusters_are home.0 home.1 home.2).order.among a d home.3 in (
          (within (is_member home.1.graph) graph, home.0),
          part_listed home.0 home.1 home.2,
          Contains-filter (λ (p : ℕ × ℕ). is_member home.1.graph p.0 && is_member home.1.graph p.1) graph.pairs (a, d)
              (and_from (is_member home.1.graph a) (is_member home.1.graph d) among.0 among.1) pair,
        )

    name_home : (id : ℕ) → Contains graph.names id → (h : Graph × ℕ) × Contains graphs h × Contains h.0.names id
    name_home id here =
        let home = (is.members id).0 ((closes.names id).0 here) in (
          (within (is_member home.1.graph) graph, home.0),
          part_listed home.0 home.1 home.2,
          Contains-filter (is_member home.1.graph) graph.names id (((clusters_are home.0 home.1 home.2).members id).1 home.3) here,
        )

    one_part : (h k : Graph × ℕ) (of : IsOf h) (ok : IsOf k) → h.1 ≡ k.1 → h ≡ k
    one_part h k of ok same =
        let one : of.cluster ≡ ok.cluster =
        one_cluster level store.clusters k.1 of.cluster ok.cluster (subst (λ n. Stands level store.clusters n of.cluster) same of.stands) ok.stands in
        sym of.part ∙ ap (λ (c : Cluster). (within (is_member c.graph) graph, h.1)) one
        ∙ ap (λ n. (within (is_member ok.cluster.graph) graph, n)) same ∙ ok.part

    make_graph : IsUnion graphs graph
    make_graph = record {
      names = λ id. (name_home id, λ there. (part_name there.0 (listed_part there.0 there.1) id there.2).1);
      pairs = λ a d. (pair_home a d, λ there. part_pair there.0 (listed_part there.0 there.1) a d there.2);
      apart = λ h k id h_in k_in h_has k_has.
          let of = listed_part h h_in in
          let ok = listed_part k k_in in
          one_part h k of ok (is.apart h.1 k.1 id of.cluster ok.cluster of.stands ok.stands (part_name h of id h_has).0 (part_name k ok id k_has).0);
      graphs = λ h here.
          let of = listed_part h here in
          subst (λ (k : Graph × ℕ). IsGraph k.0) of.part (kept_graph (is_member of.cluster.graph));
    }

    pub single_picked : IsPick (sum_at g) graph (parts_of_level level store)
    single_picked = level_picked most store level (sum_at g) graphs graph ordered clusters_are are_graphs make_graph

-- ---- a graph may list names and pairs more than once

same_flows : (flows : List Flow) → map (λ flow. record { child = flow.child; parent = flow.parent; amount = flow.amount }) flows ≡ flows
same_flows [] = refl
same_flows (flow ∷ flows) = ap (λ (xs : List Flow). flow ∷ xs) (same_flows flows)

same_part : (part : Part) → renamed_part (λ id. id) part ≡ part
same_part part =
    ap (λ (ids : List ℕ). record { rate = part.rate; ids = ids; flows = (renamed_part (λ id. id) part).flows }) (map-id part.ids)
    ∙ ap (λ (flows : List Flow). record { rate = part.rate; ids = part.ids; flows = flows }) (same_flows part.flows)

same_parts : (parts : List Part) → map (renamed_part (λ id. id)) parts ≡ parts
same_parts [] = refl
same_parts (part ∷ parts) =
    ap (λ (p : Part). p ∷ map (renamed_part (λ id. id)) parts) (same_part part) ∙ ap (λ (ps : List Part). part ∷ ps) (same_parts parts)

module _ (g : Closure) (graph : Graph) (closes : IsClosureOf g graph) (names : List ℕ) (is_names : IsOnce graph.names names) (pairs : List (ℕ × ℕ))
    (is_pairs : IsOnce graph.pairs pairs) where
  pub single : Graph
  single = record { names = names; pairs = pairs }

  fewer : (a b : ℕ) → Contains pairs (a, b) → Contains graph.pairs (a, b)
  fewer a b here = (is_pairs.same (a, b)).0 here

  more : (a b : ℕ) → Contains graph.pairs (a, b) → Contains pairs (a, b)
  more a b here = (is_pairs.same (a, b)).1 here

  single_closes : IsClosureOf g single
  unfolding single
  single_closes = record {
    names = λ id. ((λ here. (closes.names id).0 ((is_names.same id).0 here)), (λ e. (is_names.same id).1 ((closes.names id).1 e)));
    ends = λ a d pair. closes.ends a d (fewer a d pair);
    acyclic = λ a n walk. closes.acyclic a n (walk_within pairs graph.pairs fewer a a (suc n) walk);
    ancestors = λ a d a_in d_in. (
      λ walk. (closes.ancestors a d a_in d_in).0 (walk.0, walk_within pairs graph.pairs fewer a d walk.0 walk.1),
      λ e. let walk = (closes.ancestors a d a_in d_in).1 e in (walk.0, walk_within graph.pairs pairs more a d walk.0 walk.1),
    );
  }

  single_ends : (a d : ℕ) → Contains pairs (a, d) → Contains names a × Contains names d
  single_ends a d pair =
      let both = closes.ends a d (fewer a d pair) in
      ((is_names.same a).1 ((closes.names a).1 both.0), (is_names.same d).1 ((closes.names d).1 both.1))

  single_graph : IsGraph single
  unfolding single
  single_graph = record {
    names = is_names.once;
    pairs = is_pairs.once;
    ends = single_ends;
    acyclic = λ a n walk. closes.acyclic a n (walk_within pairs graph.pairs fewer a a (suc n) walk);
  }

  single_renamed : IsRenamed (λ id. id) single graph
  unfolding single
  single_renamed = record {
    names = λ id. ((λ here. (id, (is_names.same id).1 here, refl)), (λ h. subst (Contains graph.names) h.2 ((is_names.same h.0).0 h.1)));
    pairs = λ a d. (
      λ here. (a, d, more a d here, refl, refl),
      λ h. let one = h.3 in let two = h.4 in subst (Contains {X = ℕ × ℕ} graph.pairs) (λ i. (one i, two i)) (fewer h.0 h.1 h.2),
    );
  }

  pub from_single : (rate : ℕ → Sum) (parts : List Part) → IsPick rate single parts → IsPick rate graph parts
  unfolding single
  from_single rate parts picked =
      subst (IsPick rate graph) (same_parts parts)
      (picks_are_kept.renamed (λ id. id) rate rate single graph parts single_ends (λ a b a_in b_in same. same) single_renamed (λ id here. refl) picked)

level_is_picked : (most : ℕ) (store : Store) (level : Level) (g : Closure) → IsOrdered store.clusters store.order
    → ((n : ℕ) (c : Cluster) → Stands level store.clusters n c → IsCluster most c) → IsLevel level store.clusters g → ArePicked g (parts_of_level level store)
level_is_picked most store level g ordered clusters_are is graph closes =
    let names = listed_once cases_eq graph.names in
    let pairs = listed_once cases_pair graph.pairs in
    from_single g graph closes names.0 names.1 pairs.0 pairs.1 (sum_at g) (parts_of_level level store)
    (single_picked most store level g ordered clusters_are is (single g graph closes names.0 names.1 pairs.0 pairs.1)
    (single_graph g graph closes names.0 names.1 pairs.0 pairs.1) (single_closes g graph closes names.0 names.1 pairs.0 pairs.1))

pub levels_are_picked : LevelsArePicked
levels_are_picked most store level g ordered clusters_are is =
    (level_is_picked most store level g ordered clusters_are is, none_cut most store level g ordered clusters_are is)
