-- The clusters that get a new parent, put together with the transactions that come in.
use Rattle.std.proofs.Common.{◌≡◌, ℕ, ℤ, suc, zero, ◌*◌, ◌≤◌, Bool, true, List, [], ◌∷◌, ◌++◌, length, flat_map, Contains, Option, Some, None, is_some, IsSome, inl, inr, ◌⊎◌, ◌↔◌, refl, sym, ap, ap₂, ◌∙◌, subst, arith, length-append, true≢false}
use Rattle.std.specs.Prelude.{slice_index}
use Rattle.std.proofs.lemmas.List.{length-map, map-append}
use Rattle.std.proofs.lemmas.List.Elements.{Contains-append_left, Contains-append_right, Contains-append_cases}
use Rattle.std.proofs.lemmas.Option.{none-some, same_Some}
use Rattle.std.specs.FinMap as finmap
use Rattle.lists.specs.Distinct.{AreDistinct}
use Rattle.lists.proofs.Distinct.{distinct_from_places, distinct_joined, places_apart}
use Rattle.lists.proofs.Entries.{Contains-head, Contains-map, first_of, map-Contains, rest_of}
use Rattle.lists.proofs.Flats.{flat_has, flat_of, flat_once}
use Rattle.lists.proofs.Keys.{names-within}
use Rattle.lists.proofs.Told.{told_number}
use Rattle.fee_rate.specs.declared.limits.TheConstants.{MAX_TOTAL}
use Rattle.graphs.specs.declared.names.Level.TheVariants.{Top}
use Rattle.graphs.specs.Certificates.{Txs}
use Rattle.graphs.specs.Closures.{Closure, IsOrder, is_ancestor, is_member}
use Rattle.graphs.specs.Graphs.{Walk, IsAncestor, HasNoCycle}
use Rattle.graphs.proofs.WalkLemmas.{walk_of_pair}
use Rattle.graph_model.specs.Changes.{ids_of}
use Rattle.cluster.specs.Clusters.{Cluster}
use Rattle.links.specs.Links.{Links, AreAmong, AreInRange, Has}
use Rattle.links.specs.Kept.{names_of}
use Rattle.links.proofs.Changing.{has_above}
use Rattle.record.specs.Kept.{unordered}
use Rattle.record.specs.Leaving.{AreLike, bare}
use Rattle.record.specs.Records.{IsConnected}
use Rattle.levels.specs.Changes.{IsNamed}
use Rattle.levels.specs.Gathered.{AreHere, AreMet, IsHere, MayReturn, PutsAll}
use Rattle.levels.specs.Shelves.{IsInOrder, Shelf, view_of}
use Rattle.levels.specs.Views.{IsClusterOf, View, graph_of}
use Rattle.levels.proofs.Ends.{got}
use Rattle.levels.proofs.Found.{cluster_of}
use Rattle.levels.proofs.Graphs.{cases_option, in_live, one_cluster, order_of}
use Rattle.levels.proofs.Lookups.{found_of, placed_of}
use Rattle.levels.proofs.Pointing.{one_at}

-- ---- walks

-- pairs of an order that lead from one to another make no cycle
module _ (pairs : List (ℕ × ℕ)) (member : ℕ → Bool) (above : ℕ → ℕ → Bool) (order : IsOrder member above)
    (sound : (a b : ℕ) → Contains pairs (a, b) → (above a b ≡ true) × (a ≡ b → ⊥)) where
  above_walk : (a b n : ℕ) → Walk pairs a b (suc n) → above a b ≡ true
  above_walk a b zero (c, same, pair) = subst (λ x. above x b ≡ true) (sym same) (sound c b pair).0
  above_walk a b (suc n) (c, walk, pair) = order.transitive a c b (above_walk a c n walk) (sound c b pair).0

  no_way_back : (a n : ℕ) → Walk pairs a a (suc n) → ⊥
  no_way_back a zero (c, same, pair) = (sound c a pair).1 (sym same)
  no_way_back a (suc n) (c, walk, pair) =
      let last = sound c a pair in last.1 (order.antisymmetric c a last.0 (above_walk a c n walk))

  pub acyclic_under : HasNoCycle pairs
  acyclic_under = no_way_back

-- Pairs of others are among new pairs, of which each other leads from a name of a list; no pair of the others has such a name.
module _ (new old more : List (ℕ × ℕ)) (ids : List ℕ) (each : (a b : ℕ) → Contains new (a, b) → Contains more (a, b) ⊎ Contains old (a, b))
    (parents : (a b : ℕ) → Contains more (a, b) → Contains ids a)
    (apart : (a b : ℕ) → Contains old (a, b) → (Contains ids a → ⊥) × (Contains ids b → ⊥)) where
  -- a walk to a listed name goes along the new pairs
  more_walk : (a b n : ℕ) → Contains ids b → Walk new a b n → Walk more a b n
  more_walk a b zero here same = same
  more_walk a b (suc n) here (c, walk, pair) = elim (each c b pair) [
    | inl put ↦ (c, more_walk a c n (parents c b put) walk, put)
    | inr was ↦ absurd ((apart c b was).1 here)
  ]

  -- a walk from a name that isn't goes along the others
  old_walk : (a b n : ℕ) → (Contains ids a → ⊥) → Walk new a b n → (Contains ids b → ⊥) × Walk old a b n
  old_walk a b zero out same = ((λ here. out (subst (Contains ids) (sym same) here)), same)
  old_walk a b (suc n) out (c, walk, pair) =
      let before = old_walk a c n out walk in
      elim (each c b pair) [
        | inl put ↦ absurd (before.0 (parents c b put))
        | inr was ↦ ((apart c b was).1, (c, before.1, was))
      ]

  pub acyclic_put : HasNoCycle old → HasNoCycle more → HasNoCycle new
  acyclic_put one two a n walk = elim (told_number ids a) [
    | inl here ↦ two a n (more_walk a a (suc n) here walk)
    | inr out ↦ one a n (old_walk a a (suc n) out walk).1
  ]

-- ---- clusters and the links that tell them

-- the links that tell a cluster, and the cluster that links tell
module _ (olds : List Cluster) (told : List Links) (like : AreLike olds told) where
  pub told_of : (c : Cluster) → Contains olds c → (l : Links) × Contains told l × (unordered l ≡ bare c)
  told_of c here = map-Contains unordered told (bare c) (subst (λ (cs : List Cluster). Contains cs (bare c)) like (Contains-map bare olds c here))

  pub old_of : (l : Links) → Contains told l → (c : Cluster) × Contains olds c × (bare c ≡ unordered l)
  old_of l here =
      map-Contains bare olds (unordered l)
      (subst (λ (cs : List Cluster). Contains cs (unordered l)) (sym like) (Contains-map unordered told l here))

flat_names : (olds : List Cluster) (told : List Links) → AreLike olds told
    → names_of (flat_map (λ (l : Links). l.txs) told) ≡ flat_map (λ (c : Cluster). c.names) olds
flat_names [] [] like = refl
flat_names [] (l ∷ ls) like = cc
flat_names (c ∷ cs) [] like = cc
flat_names (c ∷ cs) (l ∷ ls) like =
    map-append (λ (tx : ℕ × ℤ × ℕ). tx.0) l.txs (flat_map (λ (l : Links). l.txs) ls)
    ∙ ap₂ (λ (xs ys : List ℕ). xs ++ ys) (sym (ap (λ (d : Cluster). d.names) (first_of like))) (flat_names cs ls (rest_of like))

-- ---- what is put together

module _ (w : ℕ) (shelf : Shelf) (order : IsInOrder w shelf) (txs : Txs) (pairs : List (ℕ × ℕ)) (may : MayReturn shelf txs pairs) where
  abbrev ids : List ℕ
  ids = ids_of txs

  abbrev view : View
  view = view_of Top shelf

  abbrev old : Closure
  old = graph_of view

  pub old_order : IsOrder (is_member old) (is_ancestor old)
  old_order = order_of (64 * w) view order.top

  -- a number that was met has a cluster in the top level
  pub met_at : (outs : List ℕ) → AreMet shelf pairs outs → (n : ℕ) → Contains outs n → IsSome (view.at n)
  met_at outs met n out =
      let (a, b, pair, is) = (met.exact n).0 out in ap is_some (order.top.stands b n is).there

  module _ (outs : List ℕ) (met : AreMet shelf pairs outs) (here : List (ℕ × ℕ)) (are : AreHere shelf txs pairs here) (all : Txs)
      (between : List (ℕ × ℕ)) (puts : PutsAll shelf outs txs here all between) where
    abbrev olds : List Cluster
    olds = puts.olds

    abbrev more : Txs
    more = flat_map (λ (l : Links). l.txs) puts.told

    abbrev inner : List (ℕ × ℕ)
    inner = flat_map (λ (l : Links). l.pairs) puts.told

    -- ---- the clusters

    pub stands : (c : Cluster) → Contains olds c → (n : ℕ) × Contains outs n × (view.at n ≡ Some c)
    stands c listed = let at = placed_of view.at outs olds c puts.at listed in (slice_index outs at.place, at.number, at.stands)

    pub cluster_in : (c : Cluster) → Contains olds c → (id : ℕ) → Contains c.names id → IsClusterOf old id c
    cluster_in c listed id held = let at = stands c listed in cluster_of (64 * w) view order.top at.0 c at.2 id held

    pub whole_old : (c : Cluster) → Contains olds c → IsConnected c
    whole_old c listed = let at = stands c listed in (order.top.whole at.0 c at.2).connected

    pub live_old : (id : ℕ) → IsNamed olds id → is_member old id ≡ true
    live_old id (c, listed, held) = let at = stands c listed in in_live (64 * w) view order.top at.0 id c at.2 held

    numbered_old : (id : ℕ) → IsNamed olds id → (n : ℕ) × Contains outs n × (finmap.get view.numbers id ≡ Some n)
    numbered_old id (c, listed, held) = let at = stands c listed in (at.0, at.1, order.top.listed at.0 id c at.2 held)

    -- no name that comes in is of one
    pub apart_old : (id : ℕ) → Contains ids id → IsNamed olds id → ⊥
    apart_old id one named = let at = numbered_old id named in none-some at.0 (sym (may.absent id one) ∙ at.2)

    -- a name with a number that goes out is of one
    pub met_named : (n id : ℕ) → Contains outs n → finmap.get view.numbers id ≡ Some n → IsNamed olds id
    met_named n id out is =
        let at = order.top.stands id n is in (at.cluster, (found_of view.at outs olds n at.cluster puts.at out at.there).3, at.here)

    -- the child of a pair that is here is one of the names, or is of one
    pub child_in : (a b : ℕ) → Contains pairs (a, b) → IsHere shelf txs b → Contains ids b ⊎ IsNamed olds b
    child_in a b pair is = elim is [
      | inl one ↦ inl one
      | inr some ↦ elim (cases_option (finmap.get view.numbers b)) [
        | inl none ↦ absurd (none_some (finmap.get view.numbers b) none some)
        | inr at ↦ inr (met_named at.0 b ((met.exact at.0).1 (a, b, pair, at.1)) at.1)
      ]
    ]
      where
        none_some : (o : Option ℕ) → o ≡ None → IsSome o → ⊥
        none_some o none some = true≢false (sym some ∙ ap is_some none)

    -- ---- their links

    pub links_named : (id : ℕ) → Contains (names_of more) id ↔ IsNamed olds id
    links_named id =
        let same = flat_names olds puts.told puts.like in (
          λ held. let at = flat_of (λ (c : Cluster). c.names) olds id (subst (λ (xs : List ℕ). Contains xs id) same held) in (at.0, at.1, at.2),
          λ (c, listed, held).
              subst (λ (xs : List ℕ). Contains xs id) (sym same) (flat_has (λ (c : Cluster). c.names) olds c id listed held),
        )

    pub all_named : (id : ℕ) → Contains (names_of all) id ↔ (Contains ids id ⊎ IsNamed olds id)
    all_named id =
        let cut : names_of all ≡ ids ++ names_of more =
        ap names_of puts.txs_are ∙ map-append (λ (tx : ℕ × ℤ × ℕ). tx.0) txs more in (
          λ held. elim (Contains-append_cases ids (names_of more) id (subst (λ (xs : List ℕ). Contains xs id) cut held)) [
            | inl one ↦ inl one
            | inr two ↦ inr ((links_named id).0 two)
          ],
          λ either. subst (λ (xs : List ℕ). Contains xs id) (sym cut) (elim either [
            | inl one ↦ Contains-append_left ids (names_of more) id one
            | inr two ↦ Contains-append_right ids (names_of more) id ((links_named id).1 two)
          ]),
        )

    -- a pair of theirs is of one of them
    pub inner_in : (a b : ℕ) → Contains inner (a, b) → (l : Links) × Contains puts.told l × Contains l.pairs (a, b)
    inner_in a b pair = let at = flat_of (λ (l : Links). l.pairs) puts.told (a, b) pair in (at.0, at.1, at.2)

    pub in_inner : (l : Links) → Contains puts.told l → (a b : ℕ) → Contains l.pairs (a, b) → Contains inner (a, b)
    in_inner l told a b pair = flat_has (λ (l : Links). l.pairs) puts.told l (a, b) told pair

    -- the names of links are those of a cluster
    pub told_named : (l : Links) → Contains puts.told l → (id : ℕ) → Has l id → IsNamed olds id
    told_named l told id held =
        let (c, listed, is) = old_of olds puts.told puts.like l told in
        (c, listed, subst (λ (d : Cluster). Contains d.names id) (sym is) held)

    -- what links make an ancestor is one
    pub told_above : (l : Links) → Contains puts.told l → (a b : ℕ) → Has l a → Has l b → IsAncestor l.pairs a b → is_ancestor old a b ≡ true
    told_above l told a b one two walk =
        let (c, listed, is) = old_of olds puts.told puts.like l told in
        let up : is_ancestor c.graph a b ≡ true =
        subst (λ (d : Cluster). is_ancestor d.graph a b ≡ true) (sym is) ((has_above l a b).1 (one, two, walk)) in
        (cluster_in c listed b (subst (λ (d : Cluster). Contains d.names b) (sym is) two)).above a b
        (subst (λ (d : Cluster). Contains d.names b) (sym is) two) ∙ up

    inner_sound : (a b : ℕ) → Contains inner (a, b) → (is_ancestor old a b ≡ true) × (a ≡ b → ⊥)
    inner_sound a b pair =
        let (l, told, own) = inner_in a b pair in
        let whole = (puts.each l told).graph_is in
        let ends = whole.ends a b own in (
          told_above l told a b ends.0 ends.1 (1, walk_of_pair l.pairs a b own),
          λ same. whole.acyclic b 0 (walk_of_pair l.pairs b b (subst (λ x. Contains l.pairs (x, b)) same own)),
        )

    -- ---- what links of all need

    cut_pairs : (a b : ℕ) → Contains between (a, b) → Contains here (a, b) ⊎ Contains inner (a, b)
    cut_pairs a b pair =
        Contains-append_cases here inner (a, b) (subst (λ (ps : List (ℕ × ℕ)). Contains ps (a, b)) puts.pairs_are pair)

    one_old : (c d : Cluster) (id : ℕ) → Contains olds c → Contains olds d → Contains c.names id → Contains d.names id → c ≡ d
    one_old c d id one two held also =
        let at = stands c one in let there = stands d two in
        one_cluster (64 * w) view order.top at.0 there.0 id c d at.2 there.2 held also

    olds_once : AreDistinct olds
    olds_once = distinct_from_places olds (λ i j d before low same.
        let one = one_at view.at outs olds i puts.at (omega (arith, before, low, puts.at.count)) in
        let two = one_at view.at outs olds j puts.at (omega (arith, low, puts.at.count)) in
        let equal : one.0 ≡ two.0 = sym ((got olds i one.0 one.1).1 d) ∙ same ∙ (got olds j two.0 two.1).1 d in
        let listed : Contains olds one.0 = (i, (got olds i one.0 one.1).0, (got olds i one.0 one.1).1 one.0) in
        let some = some_of one.0.names (whole_old one.0 listed).some in
        let first : finmap.get view.numbers some.0 ≡ Some (slice_index outs i) = order.top.listed (slice_index outs i) some.0 one.0 one.2 some.1 in
        let second : finmap.get view.numbers some.0 ≡ Some (slice_index outs j) =
        order.top.listed (slice_index outs j) some.0 two.0 two.2 (subst (λ (c : Cluster). Contains c.names some.0) equal some.1) in
        places_apart outs i j 0 met.once before (omega (arith, low, puts.at.count)) (same_Some (slice_index outs i) (slice_index outs j) (sym first ∙ second)))
      where
        some_of : (xs : List ℕ) → 1 ≤ length xs → (x : ℕ) × Contains xs x
        some_of [] low = absurd (omega (arith, low))
        some_of (x ∷ xs) low = (x, Contains-head x xs)

    pub names_once : AreDistinct (names_of all)
    names_once =
        let cut : names_of all ≡ ids ++ names_of more =
        ap names_of puts.txs_are ∙ map-append (λ (tx : ℕ × ℤ × ℕ). tx.0) txs more in
        subst AreDistinct (sym cut)
        (distinct_joined ids (names_of more) may.once
        (subst AreDistinct (sym (flat_names olds puts.told puts.like))
        (flat_once (λ (c : Cluster). c.names) olds olds_once (λ c listed. (whole_old c listed).once)
        (λ c d id one two held also. one_old c d id one two held also)))
        (λ id one two. apart_old id one ((links_named id).0 two)))

    pub all_in_range : AreInRange all
    all_in_range id fee size tx = elim (Contains-append_cases txs more (id, fee, size) (subst (λ (ts : Txs). Contains ts (id, fee, size)) puts.txs_are tx)) [
      | inl one ↦ may.in_range id fee size one
      | inr two ↦
          let at = flat_of (λ (l : Links). l.txs) puts.told (id, fee, size) two in (puts.each at.0 at.1).in_range id fee size at.2
    ]

    pub all_among : AreAmong (names_of all) between
    all_among a b pair = elim (cut_pairs a b pair) [
      | inl put ↦
          let is = (are a b).0 put in
          ((all_named a).1 (inl (may.parents a b is.0)), (all_named b).1 (child_in a b is.0 is.1))
      | inr was ↦
          let (l, told, own) = inner_in a b was in
          let ends = (puts.each l told).graph_is.ends a b own in
          ((all_named a).1 (inr (told_named l told a ends.0)), (all_named b).1 (inr (told_named l told b ends.1)))
    ]

    pub all_acyclic : HasNoCycle between
    all_acyclic =
        acyclic_put between inner here ids cut_pairs (λ a b put. may.parents a b ((are a b).0 put).0)
        (λ a b was.
        let (l, told, own) = inner_in a b was in
        let ends = (puts.each l told).graph_is.ends a b own in
        ((λ one. apart_old a one (told_named l told a ends.0)), (λ one. apart_old b one (told_named l told b ends.1))))
        (acyclic_under inner (is_member old) (is_ancestor old) old_order inner_sound)
        (here_acyclic)
      where
        here_walk : (a b n : ℕ) → Walk here a b n → Walk pairs a b n
        here_walk a b zero same = same
        here_walk a b (suc n) (c, walk, pair) = (c, here_walk a c n walk, ((are c b).0 pair).0)

        here_acyclic : HasNoCycle here
        here_acyclic a n walk = may.acyclic a n (here_walk a a (suc n) walk)

    -- together they have no more names than may be live
    pub all_few : length all ≤ MAX_TOTAL
    all_few =
        let few = may.few in
        let own : length (names_of more) ≤ finmap.len view.numbers =
        names-within (names_of more) view.numbers
        (subst AreDistinct (sym (flat_names olds puts.told puts.like))
        (flat_once (λ (c : Cluster). c.names) olds olds_once (λ c listed. (whole_old c listed).once)
        (λ c d id one two held also. one_old c d id one two held also)))
        (λ id held. let at = numbered_old id ((links_named id).0 held) in ap is_some at.2) in
        let counted : length (names_of more) ≡ length more = length-map more (λ (tx : ℕ × ℤ × ℕ). tx.0) in
        omega (arith, few, own, counted, ap (λ (ts : Txs). length ts) puts.txs_are, length-append txs more)
