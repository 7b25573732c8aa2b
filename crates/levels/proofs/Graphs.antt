-- The graph of the clusters of a view.
use Rattle.std.proofs.Common.{◌≡◌, ℕ, Bool, true, false, cond, List, [], ◌∷◌, map, Contains, Option, Some, None, is_some, inl, inr, ◌⊎◌, refl, sym, ap, ◌∙◌, subst, eqb-true, true≢false}
use Rattle.std.specs.Ordering.{nat_cmp, eq_by_cmp}
use Rattle.std.specs.Cmp.{nat_cmp_total, unsigned_tied}
use Rattle.std.specs.FinSet as set
use Rattle.std.specs.FinMap as finmap
use Rattle.graphs.specs.Closures.{Node, is_member, is_ancestor, ancestors_of, ancestors_in, rate_of, rate_in, no_rate, IsOrder}
use Rattle.cluster.specs.Clusters.{Cluster}
use Rattle.std.proofs.lemmas.Option.{same_Some}
use Rattle.levels.specs.Views.{View, node_in, graph_of, StandsAt, IsIndexed}

-- ---- one name

seen : (ℕ → Option Cluster) → ℕ → Option ℕ → Option Node
seen at id None = None
seen at id (Some number) = Some (node_in (at number) id)

find-map : (at : ℕ → Option Cluster) (es : List (ℕ × ℕ)) (q : ℕ)
    → finmap.find nat_cmp q (map (λ e. (e.0, node_in (at e.1) e.0)) es) ≡ seen at q (finmap.find nat_cmp q es)
unfolding seen
find-map at [] q = refl
find-map at (e ∷ es) q = cases (eq_by_cmp nat_cmp q e.0) refl (find-map at es q)
  where
    cases : (b : Bool) → eq_by_cmp nat_cmp q e.0 ≡ b
        → finmap.find nat_cmp q (map (λ e. (e.0, node_in (at e.1) e.0)) es) ≡ seen at q (finmap.find nat_cmp q es)
        → cond b (Some (node_in (at e.1) e.0)) (finmap.find nat_cmp q (map (λ e. (e.0, node_in (at e.1) e.0)) es))
        ≡ seen at q (cond b (Some e.1) (finmap.find nat_cmp q es))
    cases true same rest = ap (λ id. Some (node_in (at e.1) id)) (sym (eqb-true q e.0 (sym (unsigned_tied q e.0) ∙ same)))
    cases false other rest = rest

get-graph : (view : View) (q : ℕ) → finmap.get (graph_of view) q ≡ seen view.at q (finmap.get view.numbers q)
unfolding graph_of
get-graph view q =
    finmap.get-from_entries nat_cmp_total (map (λ e. (e.0, node_in (view.at e.1) e.0)) (finmap.entries view.numbers)) q
    ∙ find-map view.at (finmap.entries view.numbers) q
    ∙ ap (seen view.at q) (sym (finmap.get-entries view.numbers q))

some_seen : (at : ℕ → Option Cluster) (q : ℕ) (o : Option ℕ) → is_some (seen at q o) ≡ is_some o
unfolding seen
some_seen at q None = refl
some_seen at q (Some number) = refl

pub member-number : (view : View) (q : ℕ) → is_member (graph_of view) q ≡ is_some (finmap.get view.numbers q)
unfolding is_member
member-number view q = ap is_some (get-graph view q) ∙ some_seen view.at q (finmap.get view.numbers q)

get-at : (view : View) (q number : ℕ) (c : Cluster) → finmap.get view.numbers q ≡ Some number → view.at number ≡ Some c
    → finmap.get (graph_of view) q ≡ Some (record { rate = rate_of c.graph q; ancestors = ancestors_of c.graph q })
unfolding seen
get-at view q number c at is = get-graph view q ∙ ap (seen view.at q) at ∙ ap (λ o. Some (node_in o q)) is

pub rate-at : (view : View) (q number : ℕ) (c : Cluster) → finmap.get view.numbers q ≡ Some number → view.at number ≡ Some c
    → rate_of (graph_of view) q ≡ rate_of c.graph q
unfolding rate_of
rate-at view q number c at is = ap rate_in (get-at view q number c at is)

pub above-at : (view : View) (a q number : ℕ) (c : Cluster) → finmap.get view.numbers q ≡ Some number → view.at number ≡ Some c
    → is_ancestor (graph_of view) a q ≡ is_ancestor c.graph a q
unfolding ancestors_of
above-at view a q number c at is = ap (λ o. set.contains (ancestors_in o) a) (get-at view q number c at is)

pub get-none : (view : View) (q : ℕ) → finmap.get view.numbers q ≡ None → finmap.get (graph_of view) q ≡ None
unfolding seen
get-none view q none = get-graph view q ∙ ap (seen view.at q) none

pub rate-none : (view : View) (q : ℕ) → finmap.get view.numbers q ≡ None → rate_of (graph_of view) q ≡ no_rate
unfolding rate_of
rate-none view q none = ap rate_in (get-none view q none)

pub above-none : (view : View) (a q : ℕ) → finmap.get view.numbers q ≡ None → is_ancestor (graph_of view) a q ≡ false
unfolding ancestors_of
above-none view a q none = ap (λ o. set.contains (ancestors_in o) a) (get-none view q none) ∙ set.contains-empty nat_cmp a

-- a number or none
pub cases_option : {A : Type 0} (o : Option A) → (o ≡ None) ⊎ ((x : A) × (o ≡ Some x))
cases_option None = inl refl
cases_option (Some x) = inr (x, refl)

-- a name with one number in two views, with one cluster under it in both
pub get-graph-same : (old new : View) (q : ℕ) → finmap.get new.numbers q ≡ finmap.get old.numbers q
    → ((n : ℕ) → finmap.get old.numbers q ≡ Some n → (c : Cluster) × (old.at n ≡ Some c) × (new.at n ≡ Some c))
    → finmap.get (graph_of new) q ≡ finmap.get (graph_of old) q
get-graph-same old new q same both = elim (cases_option (finmap.get old.numbers q)) [
  | inl none ↦ get-none new q (same ∙ none) ∙ sym (get-none old q none)
  | inr some ↦ let at = both some.0 some.1 in get-at new q some.0 at.0 (same ∙ some.1) at.2 ∙ sym (get-at old q some.0 at.0 some.1 at.1)
]

-- a cluster of the view in which a is an ancestor of d
pub record AboveIn (at : ℕ → Option Cluster) (a d : ℕ) : Type 0 where
  pub number : ℕ
  pub cluster : Cluster
  pub there : at number ≡ Some cluster
  pub above : is_ancestor cluster.graph a d ≡ true

-- the cluster of a name is the one under its number
pub stands_in : (most : ℕ) (view : View) (number id : ℕ) (c : Cluster) → IsIndexed most view
    → finmap.get view.numbers id ≡ Some number → view.at number ≡ Some c → Contains c.names id
stands_in most view number id c indexed is there =
    let at = indexed.stands id number is in subst (λ (x : Cluster). Contains x.names id) (same_Some at.cluster c (sym at.there ∙ there)) at.here

module _ (most : ℕ) (view : View) (indexed : IsIndexed most view) where
  pub rate_in_cluster : (number id : ℕ) (c : Cluster) → view.at number ≡ Some c → Contains c.names id → rate_of (graph_of view) id ≡ rate_of c.graph id
  rate_in_cluster number id c is here = rate-at view id number c (indexed.listed number id c is here) is

  -- two clusters with a name in common stand under one number
  pub one_number : (n m id : ℕ) (c d : Cluster) → view.at n ≡ Some c → view.at m ≡ Some d
      → Contains c.names id → Contains d.names id → n ≡ m
  one_number n m id c d is so here there = same_Some n m (sym (indexed.listed n id c is here) ∙ indexed.listed m id d so there)

  pub one_cluster : (n m id : ℕ) (c d : Cluster) → view.at n ≡ Some c → view.at m ≡ Some d
      → Contains c.names id → Contains d.names id → c ≡ d
  one_cluster n m id c d is so here there = same_Some c d (sym is ∙ ap (view.at) (one_number n m id c d is so here there) ∙ so)

  -- what a cluster says of its names holds in the graph, and the graph says no more of them
  pub above_in : (number a d : ℕ) (c : Cluster) → view.at number ≡ Some c → is_ancestor c.graph a d ≡ true → is_ancestor (graph_of view) a d ≡ true
  above_in number a d c is up =
      let cluster = (indexed.whole number c is).connected in
      let here : Contains c.names d = (cluster.members d).0 (cluster.order.among a d up).1 in
      above-at view a d number c (indexed.listed number d c is here) is ∙ up

  pub in_above : (a d : ℕ) → is_ancestor (graph_of view) a d ≡ true → AboveIn view.at a d
  in_above a d up = elim (cases_option (finmap.get view.numbers d)) [
    | inl none ↦ absurd (true≢false (sym up ∙ above-none view a d none))
    | inr some ↦
        let at = indexed.stands d some.0 some.1 in
        record { number = some.0; cluster = at.cluster; there = at.there; above = sym (above-at view a d some.0 at.cluster some.1 at.there) ∙ up }
  ]

  pub names_of_above : (number a d : ℕ) (c : Cluster) → view.at number ≡ Some c → is_ancestor c.graph a d ≡ true → Contains c.names a × Contains c.names d
  names_of_above number a d c is up =
      let cluster = (indexed.whole number c is).connected in
      let ends = cluster.order.among a d up in ((cluster.members a).0 ends.0, (cluster.members d).0 ends.1)

  pub above_from : (number a d : ℕ) (c : Cluster) → view.at number ≡ Some c → Contains c.names a ⊎ Contains c.names d
      → is_ancestor (graph_of view) a d ≡ true → is_ancestor c.graph a d ≡ true
  above_from number a d c is here up =
      let at = in_above a d up in
      let ends = names_of_above at.number a d at.cluster at.there at.above in
      let same : at.cluster ≡ c = elim here [
        | inl first ↦ one_cluster at.number number a at.cluster c at.there is ends.0 first
        | inr second ↦ one_cluster at.number number d at.cluster c at.there is ends.1 second
      ] in
      subst (λ (x : Cluster). is_ancestor x.graph a d ≡ true) same at.above

  -- a live name stands in a cluster
  pub live_in : (id : ℕ) → is_member (graph_of view) id ≡ true → (number : ℕ) × (finmap.get view.numbers id ≡ Some number) × StandsAt view number id
  live_in id member = elim (cases_option (finmap.get view.numbers id)) [
    | inl none ↦ absurd (true≢false (sym member ∙ member-number view id ∙ ap is_some none))
    | inr some ↦ (some.0, some.1, indexed.stands id some.0 some.1)
  ]

  pub in_live : (number id : ℕ) (c : Cluster) → view.at number ≡ Some c → Contains c.names id → is_member (graph_of view) id ≡ true
  in_live number id c is here = member-number view id ∙ ap is_some (indexed.listed number id c is here)

  pub order_of : IsOrder (is_member (graph_of view)) (is_ancestor (graph_of view))
  order_of = record {
    among = λ a d up.
        let at = in_above a d up in
        let ends = names_of_above at.number a d at.cluster at.there at.above in
        (in_live at.number a at.cluster at.there ends.0, in_live at.number d at.cluster at.there ends.1);
    reflexive = λ p member.
        let at = live_in p member in
        let cluster = (indexed.whole at.0 at.2.cluster at.2.there).connected in
        above_in at.0 p p at.2.cluster at.2.there (cluster.order.reflexive p ((cluster.members p).1 at.2.here));
    transitive = λ a b d up down.
        let at = in_above a b up in
        let ends = names_of_above at.number a b at.cluster at.there at.above in
        let cluster = (indexed.whole at.number at.cluster at.there).connected in
        above_in at.number a d at.cluster at.there (cluster.order.transitive a b d at.above (above_from at.number b d at.cluster at.there (inl ends.1) down));
    antisymmetric = λ a b up down.
        let at = in_above a b up in
        let ends = names_of_above at.number a b at.cluster at.there at.above in
        let cluster = (indexed.whole at.number at.cluster at.there).connected in
        cluster.order.antisymmetric a b at.above (above_from at.number b a at.cluster at.there (inl ends.1) down);
  }
