-- A graph that is made of components: its walks stay in one, and merged certificates of the components certify it.
use Rattle.std.proofs.Common.{◌≡◌, ℕ, suc, zero, List, map, sym, subst, inl, inr}
use Rattle.std.specs.Prelude.{Contains, flat_map}
use Rattle.std.proofs.lemmas.List.{map-id}
use Rattle.std.proofs.lemmas.List.Folds.{flat_map-map}
use Rattle.std.proofs.lemmas.Simd.{map-map}
use Rattle.lists.proofs.Entries.{map-Contains, Contains-map}
use Rattle.lists.proofs.Flats.{flat_has, flat_of, flat_part_once, one_holder, flat_once}
use Rattle.lists.specs.Distinct.{AreDistinct}
use Rattle.fee_rate.specs.declared.rates.Sum.{Sum}
use Rattle.graphs.specs.Graphs.{Graph, Walk, IsAncestor, Trail, AreConnected, IsCover, HasNoCycle, IsGraph}
use Rattle.graphs.specs.Rates.{Falls}
use Rattle.graphs.specs.Linearizations.{IsTopological, StandsBefore}
use Rattle.graphs.specs.Certificates.{Part, HasFlows, IsCertificate}
use Rattle.graphs.specs.Merges.{IsMerge, IsUnion, KeepsComponents}
use Rattle.graphs.proofs.MergeLemmas.{flat_stands, stands_within, stands_apart}
use Rattle.graphs.proofs.WalkLemmas as walks

-- ---- walks
trail_into : (some all : List (ℕ × ℕ)) → ((x y : ℕ) → Contains some (x, y) → Contains all (x, y)) → (a b n : ℕ) → Trail some a b n → Trail all a b n
trail_into some all into a b zero same = same
trail_into some all into a b (suc n) trail =
    (trail.0, trail_into some all into a trail.0 n trail.1, elim trail.2 [ inl down ↦ inl (into trail.0 b down) | inr up ↦ inr (into b trail.0 up) ])

module _ {A : Type 0} (components : List (Graph × A)) (whole : Graph) (union : IsUnion components whole) (c : Graph × A) (member : Contains components c) where
  pair_into : (x y : ℕ) → Contains c.0.pairs (x, y) → Contains whole.pairs (x, y)
  pair_into x y pair = (union.pairs x y).1 (c, member, pair)

  -- a pair at a name of the component is one of its pairs
  pair_above : (x y : ℕ) → Contains whole.pairs (x, y) → Contains c.0.names y → Contains c.0.pairs (x, y)
  pair_above x y pair here =
      let found = (union.pairs x y).0 pair in
      let there = ((union.graphs found.0 found.1).ends x y found.2).1 in
      subst (λ (d : Graph × A). Contains d.0.pairs (x, y)) (union.apart found.0 c y found.1 member there here) found.2

  pair_below : (x y : ℕ) → Contains whole.pairs (x, y) → Contains c.0.names x → Contains c.0.pairs (x, y)
  pair_below x y pair here =
      let found = (union.pairs x y).0 pair in
      let there = ((union.graphs found.0 found.1).ends x y found.2).0 in
      subst (λ (d : Graph × A). Contains d.0.pairs (x, y)) (union.apart found.0 c x found.1 member there here) found.2

  walk_within : (a b n : ℕ) → Walk whole.pairs a b n → Contains c.0.names b → Walk c.0.pairs a b n
  walk_within a b zero same here = same
  walk_within a b (suc n) walk here =
      let pair = pair_above walk.0 b walk.2 here in
      (walk.0, walk_within a walk.0 n walk.1 ((union.graphs c member).ends walk.0 b pair).0, pair)

  trail_within : (a b n : ℕ) → Trail whole.pairs a b n → Contains c.0.names b → Trail c.0.pairs a b n
  trail_within a b zero same here = same
  trail_within a b (suc n) trail here = elim trail.2 [
    | inl down ↦
        let pair = pair_above trail.0 b down here in
        (trail.0, trail_within a trail.0 n trail.1 ((union.graphs c member).ends trail.0 b pair).0, inl pair)
    | inr up ↦
        let pair = pair_below b trail.0 up here in
        (trail.0, trail_within a trail.0 n trail.1 ((union.graphs c member).ends b trail.0 pair).1, inr pair)
  ]

  pub ancestor_within : (a b : ℕ) → Contains c.0.names b → IsAncestor whole.pairs a b → IsAncestor c.0.pairs a b
  ancestor_within a b here walk = (walk.0, walk_within a b walk.0 walk.1 here)

  pub ancestor_into : (a b : ℕ) → IsAncestor c.0.pairs a b → IsAncestor whole.pairs a b
  ancestor_into a b walk = (walk.0, walks.walk_within c.0.pairs whole.pairs pair_into a b walk.0 walk.1)

  pub connected_within : (a b : ℕ) → Contains c.0.names b → AreConnected whole.pairs a b → AreConnected c.0.pairs a b
  connected_within a b here trail = (trail.0, trail_within a b trail.0 trail.1 here)

  pub connected_into : (a b : ℕ) → AreConnected c.0.pairs a b → AreConnected whole.pairs a b
  connected_into a b trail = (trail.0, trail_into c.0.pairs whole.pairs pair_into a b trail.0 trail.1)

  -- an ancestor of a name of the component is one of its names
  walk_names : (a b n : ℕ) → Walk c.0.pairs a b n → Contains c.0.names b → Contains c.0.names a
  walk_names a b zero same here = subst (Contains c.0.names) (sym same) here
  walk_names a b (suc n) walk here = walk_names a walk.0 n walk.1 ((union.graphs c member).ends walk.0 b walk.2).0

  pub cover_within : (a b : ℕ) → Contains c.0.names b → IsCover whole.pairs a b → IsCover c.0.pairs a b
  cover_within a b here cover = record {
    ancestor = ancestor_within a b here cover.ancestor;
    other = cover.other;
    between = λ x above below. cover.between x (ancestor_into a x above) (ancestor_into x b below);
  }

  pub cover_into : (a b : ℕ) → Contains c.0.names b → IsCover c.0.pairs a b → IsCover whole.pairs a b
  cover_into a b here cover = record {
    ancestor = ancestor_into a b cover.ancestor;
    other = cover.other;
    between = λ x above below.
        let last = ancestor_within x b here below in
        cover.between x (ancestor_within a x (walk_names x b last.0 last.1 here) above) last;
  }

module _ {A : Type 0} (components : List (Graph × A)) (whole : Graph) (union : IsUnion components whole) where
  no_cycle_whole : HasNoCycle whole.pairs
  no_cycle_whole a n walk =
      let c = (union.pairs walk.0 a).0 walk.2 in
      let graph = union.graphs c.0 c.1 in
      graph.acyclic a n (walk_within components whole union c.0 c.1 a a (suc n) walk (graph.ends walk.0 a c.2).1)

  pub whole_graph : AreDistinct whole.names → AreDistinct whole.pairs → IsGraph whole
  whole_graph names pairs = record {
    names = names;
    pairs = pairs;
    ends = λ parent child pair.
        let c = (union.pairs parent child).0 pair in
        let both = (union.graphs c.0 c.1).ends parent child c.2 in
        ((union.names parent).1 (c.0, c.1, both.0), (union.names child).1 (c.0, c.1, both.1));
    acyclic = no_cycle_whole;
  }

pub some_union : {A : Type 0} (components : List (Graph × A)) → ((c : Graph × A) → Contains components c → IsGraph c.0)
    → ((c d : Graph × A) (id : ℕ) → Contains components c → Contains components d → Contains c.0.names id → Contains d.0.names id → c ≡ d)
    → (whole : Graph) × IsUnion components whole
some_union {A = A} components graphs apart =
    let names : Graph × A → List ℕ = λ c. c.0.names in
    let pairs : Graph × A → List (ℕ × ℕ) = λ c. c.0.pairs in (
      record { names = flat_map names components; pairs = flat_map pairs components },
      record {
        names = λ id. ((λ h. flat_of names components id h), (λ there. flat_has names components there.0 id there.1 there.2));
        pairs = λ a b. ((λ h. flat_of pairs components (a, b) h), (λ there. flat_has pairs components there.0 (a, b) there.1 there.2));
        apart = apart;
        graphs = graphs;
      },
    )

pub keeps_components : {A : Type 0} → KeepsComponents A
keeps_components = record {
  some = some_union;
  ancestors =
      λ components whole d a b union member here. (ancestor_within components whole union d member a b here, ancestor_into components whole union d member a b);
  connected = λ components whole d a b union member here.
      (connected_within components whole union d member a b here, connected_into components whole union d member a b);
  covers =
      λ components whole d a b union member here. (cover_within components whole union d member a b here, cover_into components whole union d member a b here);
  graph = whole_graph;
}

-- ---- certificates

module _ {K : Type 0} (rate : ℕ → Sum) (part : K → Part) (components : List (Graph × List K)) (whole : Graph) (keys : List K) (union : IsUnion components whole)
    (each : (c : Graph × List K) → Contains components c → IsCertificate rate c.0 (IsCover c.0.pairs) (map part c.1))
    (merge : IsMerge (map (λ c. c.1) components) keys) where
  ids_of : K → List ℕ
  ids_of k = (part k).ids

  order_of : (xs : List K) → flat_map (λ p. p.ids) (map part xs) ≡ flat_map ids_of xs
  unfolding ids_of
  order_of xs = flat_map-map (λ (p : Part). p.ids) part xs

  -- the component of a key
  home : (k : K) → Contains keys k → (c : Graph × List K) × Contains components c × Contains c.1 k
  home k h =
      let list = (merge.exact k).0 h in
      let found = map-Contains (λ (c : Graph × List K). c.1) components list.0 list.1 in
      (found.0, found.1, subst (λ zs. Contains zs k) (sym found.2) list.2)

  listed : (c : Graph × List K) (k : K) → Contains components c → Contains c.1 k → Contains keys k
  listed c k h there = (merge.exact k).1 (c.1, Contains-map (λ (d : Graph × List K). d.1) components c h, there)

  order : (c : Graph × List K) → Contains components c → IsTopological c.0 (flat_map ids_of c.1)
  order c h = subst (IsTopological c.0) (order_of c.1) (each c h).order.topological

  name_in : (c : Graph × List K) (k : K) (id : ℕ) → Contains components c → Contains c.1 k → Contains (ids_of k) id → Contains c.0.names id
  name_in c k id h there here = ((order c h).names id).0 (flat_has ids_of c.1 k id there here)

  one_key : (x y : K) (id : ℕ) → Contains keys x → Contains keys y → Contains (ids_of x) id → Contains (ids_of y) id → x ≡ y
  one_key x y id h k here there =
      let c = home x h in
      let d = home y k in
      let same : d.0 ≡ c.0 = union.apart d.0 c.0 id d.1 c.1 (name_in d.0 y id d.1 d.2 there) (name_in c.0 x id c.1 c.2 here) in
      one_holder ids_of c.0.1 x y id (order c.0 c.1).once c.2 (subst (λ (e : Graph × List K). Contains e.1 y) same d.2) here there

  parents_first : (parent child : ℕ) → Contains whole.pairs (parent, child) → StandsBefore (flat_map ids_of keys) parent child
  parents_first parent child pair =
      let c = (union.pairs parent child).0 pair in
      elim (flat_stands ids_of c.0.1 parent child ((order c.0 c.1).parents_first parent child c.2)) [
        | inl one ↦ stands_within ids_of keys one.0 parent child (listed c.0 one.0 c.1 one.1) one.2
        | inr two ↦ stands_apart ids_of keys two.0 two.1 parent child
            (merge.ordered c.0.1 two.0 two.1 (Contains-map (λ (d : Graph × List K). d.1) components c.0 c.1) two.2) two.3 two.4
      ]

  whole_order : IsTopological whole (flat_map ids_of keys)
  whole_order = record {
    once = flat_once ids_of keys merge.once (λ k h. let c = home k h in flat_part_once ids_of c.0.1 k (order c.0 c.1).once c.2) one_key;
    names = λ id. (
      (λ h. let found = flat_of ids_of keys id h in let c = home found.0 found.1 in (union.names id).1 (c.0, c.1, name_in c.0 found.0 id c.1 c.2 found.2)),
      (λ h.
          let c = (union.names id).0 h in
          let found = flat_of ids_of c.0.1 id (((order c.0 c.1).names id).1 c.2) in
          flat_has ids_of keys found.0 id (listed c.0 found.0 c.1 found.1) found.2),
    );
    parents_first = parents_first;
  }

  -- a part of the merged list is one of a component's
  part_home : (p : Part) → Contains (map part keys) p → (c : Graph × List K) × Contains components c × Contains (map part c.1) p
  part_home p h =
      let found = map-Contains part keys p h in
      let c = home found.0 found.1 in
      (c.0, c.1, subst (Contains (map part c.0.1)) found.2 (Contains-map part c.0.1 found.0 c.2))

  part_names : (c : Graph × List K) (p : Part) (id : ℕ) → Contains components c → Contains (map part c.1) p → Contains p.ids id → Contains c.0.names id
  part_names c p id h there here = ((each c h).order.topological.names id).0 (flat_has (λ (q : Part). q.ids) (map part c.1) p id there here)

  part_flows : HasFlows rate (IsCover whole.pairs) (map part keys)
  part_flows p h =
      let c = part_home p h in
      let certified = (each c.0 c.1).flows p c.2 in
      record {
        once = certified.once;
        links = λ flow there.
            cover_into components whole union c.0 c.1 flow.parent flow.child
            (part_names c.0 p flow.child c.1 c.2 (certified.inside flow there).0) (certified.links flow there);
        inside = certified.inside;
        some = certified.some;
        balanced = certified.balanced;
      }

  pub merged_certificate : Falls (map (λ k. (part k).rate) keys) → IsCertificate rate whole (IsCover whole.pairs) (map part keys)
  merged_certificate falls = record {
    filled = λ p h. let c = part_home p h in (each c.0 c.1).filled p c.2;
    order = record {
      topological = subst (IsTopological whole) (sym (order_of keys)) whole_order;
      together = λ p h.
          let c = part_home p h in λ a b here there. connected_into components whole union c.0 c.1 a b ((each c.0 c.1).order.together p c.2 a b here there);
    };
    falling = record {
      summed = λ p h. let c = part_home p h in (each c.0 c.1).falling.summed p c.2;
      falling = subst Falls (sym (map-map (λ (p : Part). p.rate) part keys)) falls;
    };
    flows = part_flows;
  }

pub merged_parts : (rate : ℕ → Sum) (components : List (Graph × List Part)) (whole : Graph) (parts : List Part) → IsUnion components whole
    → ((c : Graph × List Part) → Contains components c → IsCertificate rate c.0 (IsCover c.0.pairs) c.1)
    → IsMerge (map (λ c. c.1) components) parts → Falls (map (λ part. part.rate) parts) → IsCertificate rate whole (IsCover whole.pairs) parts
merged_parts rate components whole parts union each merge falls =
    subst (IsCertificate rate whole (IsCover whole.pairs)) (map-id parts)
    (merged_certificate rate (λ p. p) components whole parts union
    (λ c h. subst (IsCertificate rate c.0 (IsCover c.0.pairs)) (sym (map-id c.1)) (each c h)) merge falls)
