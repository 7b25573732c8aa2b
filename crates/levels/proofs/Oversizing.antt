-- A level is over the limits exactly where a cluster without an order stands in it, and else its parts are a pick.
use Rattle.std.proofs.Common.{◌≡◌, ◌≢◌, ◌↔◌, ℕ, ◌*◌, ◌<◌, Bool, true, false, ◌&&◌, cond, List, [], ◌∷◌, Contains, get_or, Option, Some, None, IfSome, inl, inr, ◌⊎◌, refl, sym, ap, ◌∙◌, subst, arith, true≢false}
use Rattle.std.specs.Prelude.{option_map, sum_by}
use Rattle.std.specs.List.{list_any}
use Rattle.std.proofs.lemmas.Bool.{and_from, and_parts}
use Rattle.std.proofs.lemmas.List.Folds.{Any-from_list_any, list_any_at}
use Rattle.std.proofs.lemmas.List.Elements.{Contains-get_or}
use Rattle.std.specs.FinMap as finmap
use Rattle.arithmetic.proofs.Sums.{sum_by_along}
use Rattle.fee_rate.specs.declared.rates.FeeRate.{FeeRate}
use Rattle.lists.proofs.Distinct.{distinct_within}
use Rattle.lists.proofs.Entries.{Contains-head}
use Rattle.graphs.specs.Certificates.{Part}
use Rattle.graphs.specs.Closures.{Closure, is_member, rate_of}
use Rattle.graphs.specs.declared.names.Level.{Level}
use Rattle.graphs.specs.declared.names.Level.TheVariants.{Main, Top}
use Rattle.graph_model.specs.Limits.{AreOver, bounds_of}
use Rattle.chunk_index.specs.Items.{is_in}
use Rattle.cluster.specs.Clusters.{Cluster}
use Rattle.record.specs.Records.{IsOver}
use Rattle.record.proofs.Ordered.{has_parts}
use Rattle.cluster_store.specs.Stores.{Numbered, Stored}
use Rattle.cluster_store.specs.Unordered.{LacksOrder}
use Rattle.cluster_store.proofs.Unions.{keyed, levels_are_picked}
use Rattle.levels.specs.Levels.{HasPick, HavePicks, Levels, MayHavePick}
use Rattle.levels.specs.Oversize.{AreOfOneComponent, IsOversized}
use Rattle.levels.specs.Shelves.{Shelf, IsInOrder, levels_of, numbers_at, one_of, seen_at, seen_in, stored_at, view_of}
use Rattle.levels.specs.Views.{IsIndexed, Numbers, graph_of}
use Rattle.levels.proofs.Finds.{graph_is, indexed_at, is_level, seen}
use Rattle.levels.proofs.Fitting.{over_or_within}
use Rattle.levels.proofs.Found.{cluster_of}
use Rattle.levels.proofs.Graphs.{in_live, live_in, rate_in_cluster}
use Rattle.levels.proofs.Keeping.{shelf_alone}
use Rattle.levels.proofs.Seen.{both_seen, seen_is_stored}
use Rattle.levels.proofs.Shelved.{seen_of}

-- ---- whether a cluster without an order stands in a level

is_empty : List Part → Bool
is_empty [] = true
is_empty (part ∷ parts) = false

empty_is : (parts : List Part) → is_empty parts ≡ true → parts ≡ []
unfolding is_empty
empty_is [] is = refl
empty_is (part ∷ parts) is = absurd (true≢false (sym is))

is_empty_of : (parts : List Part) → parts ≡ [] → is_empty parts ≡ true
unfolding is_empty
is_empty_of parts is = ap is_empty is

lacks : Level → Option Stored → Bool
lacks level None = false
lacks level (Some s) = is_in level s.tag && is_empty s.cluster.parts

module _ (level : Level) (clusters : Numbered) where
  lacks_at : ℕ → Bool
  lacks_at n = lacks level (finmap.get clusters n)

  lacks_seen : (o : Option Stored) → lacks level o ≡ true → (c : Cluster) × (seen_in level o ≡ Some c) × (c.parts ≡ [])
  unfolding lacks
  lacks_seen None is = absurd (true≢false (sym is))
  lacks_seen (Some s) is =
      let both = and_parts (is_in level s.tag) (is_empty s.cluster.parts) is in
      (s.cluster, ap (λ b. cond b (Some s.cluster) None) both.0, empty_is s.cluster.parts both.1)

  seen_lacks : (o : Option Stored) (c : Cluster) → seen_in level o ≡ Some c → c.parts ≡ [] → (s : Stored) × (o ≡ Some s) × (lacks level o ≡ true)
  unfolding lacks
  seen_lacks o c is none =
      let at = seen_of level o c is in (
        at.0,
        at.1,
        ap (lacks level) at.1 ∙ and_from (is_in level at.0.tag) (is_empty at.0.cluster.parts) at.3
            (is_empty_of at.0.cluster.parts (ap (λ (d : Cluster). d.parts) at.2 ∙ none)),
      )

  pub lacks_or_not : LacksOrder level clusters ⊎ (LacksOrder level clusters → ⊥)
  unfolding lacks_at
  lacks_or_not = by (list_any lacks_at (finmap.keys clusters)) refl
    where
      by : (b : Bool) → list_any lacks_at (finmap.keys clusters) ≡ b → LacksOrder level clusters ⊎ (LacksOrder level clusters → ⊥)
      by true is =
          let any = Any-from_list_any lacks_at (finmap.keys clusters) is in
          let found = lacks_seen (finmap.get clusters any.1) any.4 in
          inl (any.1, found.0, found.1, found.2)
      by false is = inr (λ (n, c, at, none).
          let found = seen_lacks (finmap.get clusters n) c at none in
          let listed = keyed clusters n found.0 found.1 in
          true≢false (sym (list_any_at lacks_at (finmap.keys clusters) listed.0 n listed.1 (ap lacks_at listed.2 ∙ found.2)) ∙ is))

-- ---- it does exactly where the level is over the limits

module _ (w : ℕ) (level : Level) (shelf : Shelf) (order : IsInOrder w shelf) where
  abbrev known : Closure
  known = graph_of (view_of level shelf)

  abbrev size_known : ℕ → ℕ
  size_known id = (rate_of known id).size

  indexed : IsIndexed (64 * w) (view_of level shelf)
  indexed = indexed_at w shelf order level

  -- names have the sizes in the graph that they have in their cluster
  sizes_same : (n : ℕ) (c : Cluster) → seen_at level shelf.store.clusters n ≡ Some c
      → sum_by size_known c.names ≡ sum_by (λ id. (rate_of c.graph id).size) c.names
  sizes_same n c at =
      sum_by_along size_known (λ id. (rate_of c.graph id).size) c.names
      (λ id here. ap (λ (r : FeeRate). r.size) (rate_in_cluster (64 * w) (view_of level shelf) indexed n id c at here))

  over_told : (n : ℕ) (c : Cluster) → seen_at level shelf.store.clusters n ≡ Some c → IsOver shelf.limits c
      → AreOver (bounds_of shelf.limits) size_known c.names
  over_told n c at (inl many) = inl many
  over_told n c at (inr large) = inr (subst (λ size. shelf.limits.size < size) (sym (sizes_same n c at)) large)

  -- a cluster without an order is over the limits
  pub over_at : (n : ℕ) (c : Cluster) → seen_at level shelf.store.clusters n ≡ Some c → c.parts ≡ []
      → AreOver (bounds_of shelf.limits) size_known c.names
  over_at n c at none = elim (over_or_within shelf.limits c) [
    | inl over ↦ over_told n c at over
    | inr within ↦ absurd (has_parts (64 * w) c ((order.fitted n c (seen_is_stored level shelf.store.clusters n c at)).within within) none)
  ]

  lacks_is_over : LacksOrder level shelf.store.clusters → IsOversized shelf.limits known
  lacks_is_over (n, c, at, none) =
      let fitted = order.fitted n c (seen_is_stored level shelf.store.clusters n c at) in (
        c.names,
        record {
          once = fitted.connected.once;
          inside = λ id here. in_live (64 * w) (view_of level shelf) indexed n id c at here;
          together = λ a b a_in b_in. (cluster_of (64 * w) (view_of level shelf) indexed n c at a a_in).linked b b_in;
        },
        over_at n c at none,
      )

  -- names over the limits have a first one
  first_of : (ids : List ℕ) → AreOver (bounds_of shelf.limits) size_known ids → (id : ℕ) × Contains ids id
  first_of [] over = absurd (elim over [ inl many ↦ omega (arith, many) | inr large ↦ omega (arith, large) ])
  first_of (id ∷ ids) over = (id, Contains-head id ids)

  -- names of one component that are over the limits are of a cluster without an order
  pub lacks_with : (ids : List ℕ) → AreOfOneComponent known ids → AreOver (bounds_of shelf.limits) size_known ids
      → (n : ℕ) × (c : Cluster) × (seen_at level shelf.store.clusters n ≡ Some c) × (c.parts ≡ []) × ((id : ℕ) → Contains ids id → Contains c.names id)
  lacks_with ids one over =
      let first = first_of ids over in
      let at = live_in (64 * w) (view_of level shelf) indexed first.0 (one.inside first.0 first.1) in
      let c = at.2.cluster in
      let of = cluster_of (64 * w) (view_of level shelf) indexed at.0 c at.2.there first.0 at.2.here in
      let less = distinct_within size_known ids c.names one.once (λ id here. of.alone id (one.together first.0 id first.1 here)) in
      let same = sizes_same at.0 c at.2.there in
      let is_over : IsOver shelf.limits c = elim over [
        | inl many ↦ inl (let few = less.0 in omega (arith, many, few))
        | inr large ↦ inr (let few = less.1 in omega (arith, large, few, same))
      ] in (
        at.0,
        c,
        at.2.there,
        (order.fitted at.0 c (seen_is_stored level shelf.store.clusters at.0 c at.2.there)).over is_over,
        (λ id here. of.alone id (one.together first.0 id first.1 here)),
      )

  over_lacks : IsOversized shelf.limits known → LacksOrder level shelf.store.clusters
  over_lacks (ids, one, over) = let found = lacks_with ids one over in (found.0, found.1, found.2, found.3)

  pub lacks_exactly : LacksOrder level shelf.store.clusters ↔ IsOversized shelf.limits known
  lacks_exactly = (lacks_is_over, over_lacks)

  -- ---- and else its parts are a pick

  pub picked : (IsOversized shelf.limits known → ⊥) → HasPick (one_of level shelf)
  picked in_limits =
      let some : (n : ℕ) (c : Cluster) → seen_at level shelf.store.clusters n ≡ Some c → c.parts ≢ [] =
      λ n c at none. in_limits (lacks_is_over (n, c, at, none)) in
      let both = levels_are_picked (64 * w) shelf.store level known order.store.ordered
      (λ n c is. let at = seen (64 * w) level shelf indexed order.store n c is in (indexed.whole n c at).ordered (some n c at))
      (is_level (64 * w) level shelf indexed order.store) in
      record { picked = both.0; uncut = both.1 }

  -- and each of its clusters has its order
  module _ (in_limits : IsOversized shelf.limits known → ⊥) where
    pub some_parts : (n : ℕ) (c : Cluster) → seen_at level shelf.store.clusters n ≡ Some c → c.parts ≢ []
    some_parts n c at none = in_limits (lacks_is_over (n, c, at, none))

    pub ordered_there : (id n : ℕ) → finmap.get (numbers_at level shelf) id ≡ Some n
        → (c : Cluster) × (stored_at shelf.store.clusters n ≡ Some c) × (c.parts ≢ [])
    ordered_there id n is =
        let at = indexed.stands id n is in
        (at.cluster, seen_is_stored level shelf.store.clusters n at.cluster at.there, some_parts n at.cluster at.there)

  pub may_be_picked : MayHavePick shelf.limits (one_of level shelf)
  may_be_picked = elim (lacks_or_not level shelf.store.clusters) [
    | inl some ↦ inl (lacks_is_over some)
    | inr none ↦ let in_limits : IsOversized shelf.limits known → ⊥ = λ over. none (over_lacks over) in inr (in_limits, picked in_limits)
  ]

pub have_picks : (w : ℕ) (shelf : Shelf) (order : IsInOrder w shelf) (issued : ℕ) → HavePicks (levels_of shelf issued)
have_picks w shelf order issued = (may_be_picked w Main shelf order, from shelf.staging)
  where
    from : (o : Option Numbers) → IfSome (option_map (λ _. one_of Top shelf) o) (MayHavePick shelf.limits)
    from None = tt
    from (Some m) = may_be_picked w Top shelf order

-- ---- levels without a name have no cluster

pub none_stored : (w issued : ℕ) (shelf : Shelf) (now : Levels) (order : IsInOrder w shelf) (view : levels_of shelf issued ≡ now) → now.staging ≡ None
    → ((id : ℕ) → is_member now.main.graph id ≡ false) → (number : ℕ) → stored_at shelf.store.clusters number ≡ None
none_stored w issued shelf now order view alone none number = by (stored_at shelf.store.clusters number) refl
  where
    by : (o : Option Cluster) → stored_at shelf.store.clusters number ≡ o → o ≡ None
    by None is = refl
    by (Some c) is =
        let all = order.both (shelf_alone shelf issued now view alone) in
        let seen = both_seen Main shelf.store.clusters all number ∙ is in
        let whole = (order.main.whole number c seen).connected in
        let some = whole.some in
        let id = get_or c.names 0 0 in
        let live = in_live (64 * w) (view_of Main shelf) order.main number id c seen (Contains-get_or c.names 0 0 (omega (arith, some))) in
        absurd (true≢false (sym live ∙ ap (λ (g : Closure). is_member g id) (sym (graph_is w issued shelf now order view Main)) ∙ none id))
