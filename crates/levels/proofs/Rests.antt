-- What is left of components without some names, told cluster by cluster.
use Rattle.std.proofs.Common.{◌≡◌, ℕ, ◌+◌, ◌≤◌, Bool, true, false, not, List, [], ◌∷◌, ◌++◌, cond, length, flat_map, Contains, inl, inr, ◌↔◌, refl, sym, ap, ◌∙◌, arith}
use Rattle.std.specs.List.{filter, list_any}
use Rattle.std.proofs.lemmas.List.Elements.{Contains-append_left, Contains-append_right, Contains-append_cases}
use Rattle.std.proofs.lemmas.List.Folds.{Any-from_list_any, list_any_at}
use Rattle.std.proofs.lemmas.List.Sorted.{IsPermutation-filter_both, sum_by-IsPermutation}
use Rattle.std.proofs.lemmas.List.Sums.{sum_by-append}
use Rattle.lists.specs.Distinct.{AreDistinct}
use Rattle.lists.specs.Walks.{IsWalk, Walk}
use Rattle.lists.proofs.Cases.{clash, false_from_not}
use Rattle.lists.proofs.Distinct.{distinct_joined, distinct_apart, distinct-append_left, distinct-append_right}
use Rattle.lists.proofs.Entries.{Contains-filter, filter-Contains}
use Rattle.lists.proofs.Flats.{flat_has, flat_of}
use Rattle.lists.proofs.Walks.{Walk-first, Walk-keeps, Walk-map}
use Rattle.graphs.specs.Closures.{Closure, IsOrder, is_member, is_ancestor, rate_of, IsRelated, AreLinked}
use Rattle.graphs.proofs.ClosingLemmas.{linked_back, related_back}
use Rattle.cluster.specs.Changes.{AreComponents, AreNearLeft, IsLeft}
use Rattle.cluster.specs.Clusters.{Cluster}
use Rattle.record.specs.Records.{IsConnected}
use Rattle.record.specs.Steps.{most_steps_fit, most_steps_fit_of, most_steps_within}
use Rattle.graph_model.specs.declared.names.Limits.{Limits}
use Rattle.fee_rate.specs.declared.rates.FeeRate.{FeeRate}
use Rattle.arithmetic.proofs.Sums.{sum_by_along}
use Rattle.levels.specs.Lefts.{AreRests, DropsWithin}
use Rattle.levels.specs.Views.{IsClusterOf}

-- ---- lists of lists

module _ {A : Type 0} (p : List A → Bool) where
  flat_kept : (lists : List (List A)) (x : A) → Contains (flat_map (λ (ids : List A). ids) (filter p lists)) x → Contains (flat_map (λ (ids : List A). ids) lists) x
  flat_kept lists x here =
      let found = flat_of (λ (ids : List A). ids) (filter p lists) x here in
      flat_has (λ (ids : List A). ids) lists found.0 x (filter-Contains p lists found.0 found.1).1 found.2

  flat_next : (b : Bool) (xs : List A) (lists : List (List A)) → AreDistinct (flat_map (λ (ids : List A). ids) (xs ∷ lists))
      → AreDistinct (flat_map (λ (ids : List A). ids) (filter p lists))
      → AreDistinct (flat_map (λ (ids : List A). ids) (cond b (xs ∷ filter p lists) (filter p lists)))
  flat_next true xs lists once rest =
      distinct_joined xs (flat_map (λ (ids : List A). ids) (filter p lists)) (distinct-append_left xs (flat_map (λ (ids : List A). ids) lists) once) rest
      (λ x here there. distinct_apart xs (flat_map (λ (ids : List A). ids) lists) x once here (flat_kept lists x there))
  flat_next false xs lists once rest = rest

  flat_once : (lists : List (List A)) → AreDistinct (flat_map (λ (ids : List A). ids) lists) → AreDistinct (flat_map (λ (ids : List A). ids) (filter p lists))
  flat_once [] once = tt
  flat_once (xs ∷ lists) once = flat_next (p xs) xs lists once (flat_once lists (distinct-append_right xs (flat_map (λ (ids : List A). ids) lists) once))

-- ---- the lists of some components, and the others

-- A test that is alike on related names passes names that are gone, and others that are gone fail it.
module _ (g : Closure) (test : ℕ → Bool) (closed : (a b : ℕ) → IsRelated g a b → test a ≡ true → test b ≡ true) (done run : List ℕ)
    (inside : (id : ℕ) → Contains run id → test id ≡ true) (outside : (id : ℕ) → Contains done id → test id ≡ true → ⊥)
    (lists : List (List ℕ)) (rests : AreRests g (done ++ run) lists) where
  abbrev pub holds : List ℕ → Bool
  holds ids = list_any test ids

  abbrev pub misses : List ℕ → Bool
  misses ids = not (holds ids)

  abbrev pub mine : List (List ℕ)
  mine = filter holds lists

  abbrev pub others : List (List ℕ)
  others = filter misses lists

  linked_out : (a b : ℕ) → AreLinked g a b → test b ≡ true → test a ≡ true
  linked_out a b linked here = Walk-keeps (IsRelated g) (λ x. test x ≡ true) closed b a (linked_back g a b linked) here

  -- what is gone of both is gone of the names that pass, or of the others
  pub gone_in : (id : ℕ) → Contains (done ++ run) id → test id ≡ true → Contains run id
  gone_in id gone here = elim (Contains-append_cases done run id gone) [
    | inl early ↦ absurd (outside id early here)
    | inr late ↦ late
  ]

  gone_out : (id : ℕ) → Contains (done ++ run) id → (test id ≡ true → ⊥) → Contains done id
  gone_out id gone away = elim (Contains-append_cases done run id gone) [
    | inl early ↦ early
    | inr late ↦ absurd (away (inside id late))
  ]

  has_some : (ids : List ℕ) (id : ℕ) → Contains ids id → test id ≡ true → holds ids ≡ true
  has_some ids id here there = list_any_at test ids here.0 id here.1 (ap test here.2 ∙ there)

  all_in : (ids : List ℕ) → Contains lists ids → holds ids ≡ true → (id : ℕ) → Contains ids id → test id ≡ true
  all_in ids listed some id here =
      let any = Any-from_list_any test ids some in
      Walk-keeps (AreNearLeft g (done ++ run)) (λ x. test x ≡ true) (λ a b near. closed a b near.2) any.1 id
      (rests.whole ids listed any.1 id (any.0, any.2, any.3) here) any.4

  pub mine_in : (ids : List ℕ) → Contains mine ids → (id : ℕ) → Contains ids id → test id ≡ true
  mine_in ids kept = let found = filter-Contains holds lists ids kept in all_in ids found.1 found.0

  others_out : (ids : List ℕ) → Contains others ids → (id : ℕ) → Contains ids id → test id ≡ true → ⊥
  others_out ids kept id here there =
      let found = filter-Contains misses lists ids kept in
      clash (holds ids) (has_some ids id here there) (false_from_not (holds ids) found.0)

  pub is_mine : (ids : List ℕ) (id : ℕ) → Contains lists ids → Contains ids id → test id ≡ true → Contains mine ids
  is_mine ids id listed here there = Contains-filter holds lists ids (has_some ids id here there) listed

  is_other : (ids : List ℕ) (id : ℕ) → Contains lists ids → Contains ids id → (test id ≡ true → ⊥) → Contains others ids
  is_other ids id listed here away = Contains-filter misses lists ids (by (holds ids) refl) listed
    where
      by : (b : Bool) → holds ids ≡ b → not b ≡ true
      by true is = absurd (away (all_in ids listed is id here))
      by false is = refl

  rest_of : (id : ℕ) → Contains (flat_map (λ (ids : List ℕ). ids) others) id → IsLeft g done id × ((lost : ℕ) × Contains done lost × AreLinked g lost id)
  rest_of id here =
      let found = flat_of (λ (ids : List ℕ). ids) others id here in
      let away = others_out found.0 found.1 id found.2 in
      let (left, (lost, gone, linked)) =
      (rests.exact id).0 (flat_has (λ (ids : List ℕ). ids) lists found.0 id (filter-Contains misses lists found.0 found.1).1 found.2) in (
        (left.0, λ early. left.1 (Contains-append_left done run id early)),
        (lost, gone_out lost gone (λ there. away (Walk-keeps (IsRelated g) (λ x. test x ≡ true) closed lost id linked there)), linked),
      )

  rest_to : (id : ℕ) → IsLeft g done id × ((lost : ℕ) × Contains done lost × AreLinked g lost id) → Contains (flat_map (λ (ids : List ℕ). ids) others) id
  rest_to id (left, (lost, gone, linked)) =
      let away : test id ≡ true → ⊥ = λ here. outside lost gone (linked_out lost id linked here) in
      let at : Contains (flat_map (λ (ids : List ℕ). ids) lists) id = (rests.exact id).1 (
        (left.0, λ either. left.1 (gone_out id either away)),
        (lost, Contains-append_left done run lost gone, linked),
      ) in
      let found = flat_of (λ (ids : List ℕ). ids) lists id at in
      flat_has (λ (ids : List ℕ). ids) others found.0 id (is_other found.0 id found.1 found.2 away) found.2

  fewer : (a b : ℕ) → AreNearLeft g (done ++ run) a b → AreNearLeft g done a b
  fewer a b near = (
    (near.0.0, λ early. near.0.1 (Contains-append_left done run a early)),
    (near.1.0, λ early. near.1.1 (Contains-append_left done run b early)),
    near.2,
  )

  more : (a b : ℕ) → (test a ≡ true → ⊥) → AreNearLeft g done a b → AreNearLeft g (done ++ run) a b
  more a b away near =
      let apart : test b ≡ true → ⊥ = λ there. away (closed b a (related_back g a b near.2) there) in (
        (near.0.0, λ either. near.0.1 (gone_out a either away)),
        (near.1.0, λ either. near.1.1 (gone_out b either apart)),
        near.2,
      )

  -- what is left of the components whose names fail the test
  pub rests_before : AreRests g done others
  rests_before = record {
    once = flat_once misses lists rests.once;
    exact = λ id. (rest_of id, rest_to id);
    whole = λ ids kept a b a_in b_in.
        Walk-map (λ x. x) (AreNearLeft g (done ++ run)) (AreNearLeft g done) fewer a b
        (rests.whole ids (filter-Contains misses lists ids kept).1 a b a_in b_in);
    alone = λ ids kept a b a_in near.
        rests.alone ids (filter-Contains misses lists ids kept).1 a b a_in (more a b (others_out ids kept a a_in) near);
  }

  pub both_steps : (limits : Limits) → most_steps_fit_of limits g lists ≡ most_steps_fit_of limits g mine + most_steps_fit_of limits g others
  both_steps limits =
      sym (sum_by-IsPermutation (λ (ids : List ℕ). most_steps_fit limits g ids) lists (mine ++ others) (IsPermutation-filter_both holds misses (λ _. refl) lists))
      ∙ sum_by-append (λ (ids : List ℕ). most_steps_fit limits g ids) mine others

-- ---- the lists of one cluster

module _ (g : Closure) (whole_order : IsOrder (is_member g) (is_ancestor g)) (c : Cluster) (cluster : IsConnected c)
    (of : (id : ℕ) → Contains c.names id → IsClusterOf g id c) where
  pub related_in : (a b : ℕ) → IsRelated g a b → is_member c.graph a ≡ true → is_member c.graph b ≡ true
  related_in a b related member = (cluster.members b).1 ((of a ((cluster.members a).0 member)).alone b (b ∷ [], (related, refl)))

  related_of : (a b : ℕ) → Contains c.names a → IsRelated g a b → IsRelated c.graph a b
  related_of a b here (inl up) = inl (sym ((of a here).below a b here) ∙ up)
  related_of a b here (inr down) = inr (sym ((of a here).above b a here) ∙ down)

  related_to : (a b : ℕ) → Contains c.names a → IsRelated c.graph a b → IsRelated g a b
  related_to a b here (inl up) = inl ((of a here).below a b here ∙ up)
  related_to a b here (inr down) = inr ((of a here).above b a here ∙ down)

  live : (id : ℕ) → Contains c.names id → is_member g id ≡ true
  live id here = (whole_order.among id id ((of id here).above id id here ∙ cluster.order.reflexive id ((cluster.members id).1 here))).0

  module _ (done run : List ℕ) (inside : (id : ℕ) → Contains run id → is_member c.graph id ≡ true)
      (outside : (id : ℕ) → Contains done id → is_member c.graph id ≡ true → ⊥) (first : ℕ) (first_in : Contains run first)
      (lists : List (List ℕ)) (rests : AreRests g (done ++ run) lists) where
    abbrev own : List (List ℕ)
    own = mine g (is_member c.graph) related_in done run inside outside lists rests

    in_run : (id : ℕ) → Contains (done ++ run) id → Contains c.names id → Contains run id
    in_run id gone here = gone_in g (is_member c.graph) related_in done run inside outside lists rests id gone ((cluster.members id).1 here)

    own_listed : (ids : List ℕ) → Contains own ids → Contains lists ids
    own_listed ids kept = (filter-Contains (λ (xs : List ℕ). list_any (is_member c.graph) xs) lists ids kept).1

    own_in : (ids : List ℕ) → Contains own ids → (id : ℕ) → Contains ids id → Contains c.names id
    own_in ids kept id here =
        (cluster.members id).0 (mine_in g (is_member c.graph) related_in done run inside outside lists rests ids kept id here)

    near_of : (a b : ℕ) → Contains c.names a → AreNearLeft g (done ++ run) a b → AreNearLeft c.graph run a b
    near_of a b here near = (
      ((cluster.members a).1 here, λ gone. near.0.1 (Contains-append_right done run a gone)),
      (related_in a b near.2 ((cluster.members a).1 here), λ gone. near.1.1 (Contains-append_right done run b gone)),
      related_of a b here near.2,
    )

    near_to : (a b : ℕ) → Contains c.names a → AreNearLeft c.graph run a b → AreNearLeft g (done ++ run) a b
    near_to a b here near =
        let there : Contains c.names b = (cluster.members b).0 near.1.0 in (
          (live a here, λ gone. near.0.1 (in_run a gone here)),
          (live b there, λ gone. near.1.1 (in_run b gone there)),
          related_to a b here near.2,
        )

    walk_of : (a b : ℕ) → Contains c.names a → (vs : List ℕ) → IsWalk (AreNearLeft g (done ++ run)) a vs b → Walk (AreNearLeft c.graph run) a b
    walk_of a b here [] same = ([], same)
    walk_of a b here (v ∷ vs) steps =
        Walk-first (AreNearLeft c.graph run) a v b (near_of a v here steps.0)
        (walk_of v b ((cluster.members v).0 (related_in a v steps.0.2 ((cluster.members a).1 here))) vs steps.1)

    left_of : (id : ℕ) → Contains (flat_map (λ (ids : List ℕ). ids) own) id → IsLeft c.graph run id
    left_of id here =
        let found = flat_of (λ (ids : List ℕ). ids) own id here in
        let left = ((rests.exact id).0 (flat_has (λ (ids : List ℕ). ids) lists found.0 id (own_listed found.0 found.1) found.2)).0 in
        ((cluster.members id).1 (own_in found.0 found.1 id found.2), λ gone. left.1 (Contains-append_right done run id gone))

    left_to : (id : ℕ) → IsLeft c.graph run id → Contains (flat_map (λ (ids : List ℕ). ids) own) id
    left_to id left =
        let there : Contains c.names id = (cluster.members id).0 left.0 in
        let at : Contains (flat_map (λ (ids : List ℕ). ids) lists) id = (rests.exact id).1 (
          (live id there, λ gone. left.1 (in_run id gone there)),
          (first, Contains-append_right done run first first_in, (of first ((cluster.members first).0 (inside first first_in))).linked id there),
        ) in
        let found = flat_of (λ (ids : List ℕ). ids) lists id at in
        flat_has (λ (ids : List ℕ). ids) own found.0 id
        (is_mine g (is_member c.graph) related_in done run inside outside lists rests found.0 id found.1 found.2 left.0) found.2

    pub components : AreComponents c.graph run own
    components = record {
      once = flat_once (λ (xs : List ℕ). list_any (is_member c.graph) xs) lists rests.once;
      exact = λ id. (left_of id, left_to id);
      whole = λ ids kept a b a_in b_in.
          let walk = rests.whole ids (own_listed ids kept) a b a_in b_in in
          walk_of a b (own_in ids kept a a_in) walk.0 walk.1;
      alone = λ ids kept a b a_in near. rests.alone ids (own_listed ids kept) a b a_in (near_to a b (own_in ids kept a a_in) near);
    }

    -- the orders of these take as many steps by the sizes of the cluster as by those of the whole
    pub as_many : (limits : Limits) → most_steps_fit_of limits c.graph own ≡ most_steps_fit_of limits g own
    as_many limits =
        sum_by_along (λ (ids : List ℕ). most_steps_fit limits c.graph ids) (λ (ids : List ℕ). most_steps_fit limits g ids) own
        (λ ids kept. ap (most_steps_within limits (length ids))
        (sum_by_along (λ (id : ℕ). (rate_of c.graph id).size) (λ (id : ℕ). (rate_of g id).size) ids (λ id here.
        ap (λ (r : FeeRate). r.size) (sym ((of id (own_in ids kept id here)).rates id (own_in ids kept id here))))))

  -- a count that grew for the components before, and then for those of the cluster
  pub within_both : (limits : Limits) (done run : List ℕ) → ((id : ℕ) → Contains run id → Contains c.names id)
      → ((id : ℕ) → Contains done id → Contains c.names id → ⊥) → ((id : ℕ) × Contains run id) → (before mid after : ℕ) → DropsWithin limits done g before mid
      → mid ≤ after → ((lists : List (List ℕ)) → AreComponents c.graph run lists → after ≤ mid + most_steps_fit_of limits c.graph lists)
      → DropsWithin limits (done ++ run) g before after
  within_both limits done run inside outside (first, first_in) before mid after early grew few = record {
    grew = let was = early.grew in omega (arith, was, grew);
    few = λ lists rests.
        let all_in : (id : ℕ) → Contains run id → is_member c.graph id ≡ true = λ id here. (cluster.members id).1 (inside id here) in
        let none_in : (id : ℕ) → Contains done id → is_member c.graph id ≡ true → ⊥ = λ id here member. outside id here ((cluster.members id).0 member) in
        let last = few _ (components done run all_in none_in first first_in lists rests) in
        let was = early.few _ (rests_before g (is_member c.graph) related_in done run all_in none_in lists rests) in
        let sum = both_steps g (is_member c.graph) related_in done run all_in none_in lists rests limits in
        let same = as_many done run all_in none_in first first_in lists rests limits in
        omega (arith, last, was, sum, same);
  }

-- ---- a count that grew

-- the names in another order, or told more than once
pub within_same : (limits : Limits) (xs ys : List ℕ) (g : Closure) (before after : ℕ) → ((id : ℕ) → Contains xs id ↔ Contains ys id) → DropsWithin limits xs g before after
    → DropsWithin limits ys g before after
within_same limits xs ys g before after same drops = record {
  grew = drops.grew;
  few = λ lists rests. drops.few lists (record {
    once = rests.once;
    exact = λ id. (
      λ here. let (left, (lost, gone, linked)) = (rests.exact id).0 here in
          ((left.0, λ there. left.1 ((same id).0 there)), (lost, (same lost).1 gone, linked)),
      λ (left, (lost, gone, linked)). (rests.exact id).1 ((left.0, λ there. left.1 ((same id).1 there)), (lost, (same lost).0 gone, linked)),
    );
    whole = λ ids listed a b a_in b_in. Walk-map (λ x. x) (AreNearLeft g ys) (AreNearLeft g xs) (near ys xs (λ id. (same id).0)) a b
        (rests.whole ids listed a b a_in b_in);
    alone = λ ids listed a b a_in is. rests.alone ids listed a b a_in (near xs ys (λ id. (same id).1) a b is);
  });
}
  where
    near : (us vs : List ℕ) → ((id : ℕ) → Contains vs id → Contains us id) → (a b : ℕ) → AreNearLeft g us a b → AreNearLeft g vs a b
    near us vs into a b is = ((is.0.0, λ there. is.0.1 (into a there)), (is.1.0, λ there. is.1.1 (into b there)), is.2)

-- some names of other components more
pub within_more : (limits : Limits) (g : Closure) (test : ℕ → Bool) → ((a b : ℕ) → IsRelated g a b → test a ≡ true → test b ≡ true) → (done run : List ℕ)
    → ((id : ℕ) → Contains run id → test id ≡ true) → ((id : ℕ) → Contains done id → test id ≡ true → ⊥) → (before after : ℕ)
    → DropsWithin limits done g before after → DropsWithin limits (done ++ run) g before after
within_more limits g test closed done run inside outside before after drops = record {
  grew = drops.grew;
  few = λ lists rests.
      let was = drops.few _ (rests_before g test closed done run inside outside lists rests) in
      let sum = both_steps g test closed done run inside outside lists rests limits in
      omega (arith, was, sum);
}
