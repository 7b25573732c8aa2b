-- Lists of names that are some of the components of what is left of a graph.
use Rattle.std.proofs.Common.{◌≡◌, ◌≢◌, ◌↔◌, ◌⊎◌, ℕ, suc, ◌+◌, ◌*◌, ◌^◌, ◌<◌, ◌≤◌, List, [], ◌∷◌, ◌++◌, length, map, get_or, Contains, inl, inr, sym, ap, ◌∙◌, subst, arith}
use Rattle.std.specs.Prelude.{sum_by}
use Rattle.std.specs.List.{flat_map, AllPairs}
use Rattle.std.proofs.lemmas.List.Sums.{sum_by-append, sum_by-cons}
use Rattle.std.proofs.lemmas.List.Elements.{Contains-append_cases, Contains-append_left, Contains-append_right, Contains-push_cases}
use Rattle.std.proofs.lemmas.List.{map_push}
use Rattle.lists.proofs.Distinct.{distinct_within, distinct_joined}
use Rattle.lists.proofs.Entries.{Contains-cases, Contains-head, Contains-later, none_in_empty, Contains-splits, map-Contains}
use Rattle.lists.proofs.Walks.{Walk-keeps}
use Rattle.lists.specs.Distinct.{AreDistinct}
use Rattle.lists.specs.Walks.{Walk}
use Rattle.lists.proofs.Flats.{flat_has, flat_of, flat_part_once}
use Rattle.graphs.specs.Closures.{Closure}
use Rattle.cluster.specs.Changes.{AreComponents, AreNearLeft, IsLeft}
use Rattle.cluster.specs.Clusters.{Cluster, AreApart}
use Rattle.cluster.specs.Steps.{most_steps, most_steps_of, GrowsWithin}

-- ---- lists apart

-- no entry of one list is in a later one
unfoldable pub AreApartLists : List (List ℕ) → Type 0
AreApartLists [] = Unit {0}
AreApartLists (m ∷ ms) = ((k : List ℕ) → Contains ms k → (x : ℕ) → Contains m x → Contains k x → ⊥) × AreApartLists ms

pub apart_names : (parts : List Cluster) → AllPairs AreApart parts → AreApartLists (map (λ c. c.names) parts)
unfolding AreApartLists
apart_names [] pairs = tt
apart_names (c ∷ cs) pairs = (
  λ k here x one two.
      (let at = map-Contains (λ (d : Cluster). d.names) cs k here in
      let is : get_or cs at.1.0 at.0 ≡ at.0 = at.1.2 in
      pairs 0 (suc at.1.0) at.0 (omega arith) (omega (arith, at.1.1)) x one
      (subst (λ (d : Cluster). Contains d.names x) (sym is) (subst (λ (ys : List ℕ). Contains ys x) (sym at.2) two))),
  apart_names cs (λ i j d before below. pairs (suc i) (suc j) d (omega arith) (omega arith)),
)

pub apart_push : (ms : List (List ℕ)) (k : List ℕ) → AreApartLists ms
    → ((m : List ℕ) → Contains ms m → (x : ℕ) → Contains m x → Contains k x → ⊥) → AreApartLists (ms ++ k ∷ [])
unfolding AreApartLists
apart_push [] k apart other = ((λ j here. absurd (none_in_empty j here)), tt)
apart_push (m ∷ ms) k apart other = (
  λ j here x one two. elim (Contains-push_cases ms k j here) [
    | inl old ↦ apart.0 j old x one two
    | inr new ↦ other m (Contains-head m ms) x one (subst (λ (ys : List ℕ). Contains ys x) (sym new) two)
  ],
  apart_push ms k apart.1 (λ j here. other j (Contains-later m j ms here)),
)

flat_once : (ms : List (List ℕ)) → ((m : List ℕ) → Contains ms m → AreDistinct m) → AreApartLists ms → AreDistinct (flat_map (λ ids. ids) ms)
unfolding AreApartLists
flat_once [] each apart = tt
flat_once (m ∷ ms) each apart =
    distinct_joined m (flat_map (λ ids. ids) ms) (each m (Contains-head m ms)) (flat_once ms (λ k here. each k (Contains-later m k ms here)) apart.1)
    (λ x one two. let at = flat_of (λ (ids : List ℕ). ids) ms x two in apart.0 at.0 at.1 x one at.2)

-- ---- components

-- a list of all names of one component of what is left
pub record IsOneOf (g : Closure) (gone ids : List ℕ) : Type 0 where
  pub once : AreDistinct ids
  pub some : (x : ℕ) × Contains ids x
  pub left : (a : ℕ) → Contains ids a → IsLeft g gone a
  pub whole : (a b : ℕ) → Contains ids a → Contains ids b → Walk (AreNearLeft g gone) a b
  pub alone : (a b : ℕ) → Contains ids a → AreNearLeft g gone a b → Contains ids b

-- what a list costs goes by its entries, in whatever order they stand
abbrev pub GoesByEntries : (List ℕ → ℕ) → Type 0
GoesByEntries cost = (m k : List ℕ) → AreDistinct m → AreDistinct k → ((x : ℕ) → Contains m x ↔ Contains k x) → cost m ≡ cost k

module _ (cost : List ℕ → ℕ) (by_entries : GoesByEntries cost) where
  -- one of some lists has the same entries, and costs the same
  record IsMatched (lists : List (List ℕ)) (m : List ℕ) : Type 0 where
    list : List ℕ
    there : Contains lists list
    same : (x : ℕ) → Contains m x ↔ Contains list x
    equal : cost m ≡ cost list

  matched : (g : Closure) (gone : List ℕ) (lists : List (List ℕ)) (m : List ℕ) → AreComponents g gone lists → IsOneOf g gone m → IsMatched lists m
  matched g gone lists m all one =
      let x : ℕ = one.some.0 in
      let here : Contains m x = one.some.1 in
      let at = flat_of (λ (ids : List ℕ). ids) lists x ((all.exact x).1 (one.left x here)) in
      let into : (y : ℕ) → Contains m y → Contains at.0 y =
      λ y held. Walk-keeps (AreNearLeft g gone) (Contains at.0) (λ a b step there. all.alone at.0 at.1 a b there step) x y (one.whole x y here held) at.2 in
      let from : (y : ℕ) → Contains at.0 y → Contains m y =
      λ y held. Walk-keeps (AreNearLeft g gone) (Contains m) (λ a b step there. one.alone a b there step) x y (all.whole at.0 at.1 x y at.2 held) here in
      record {
        list = at.0;
        there = at.1;
        same = λ y. (into y, from y);
        equal = by_entries m at.0 one.once (flat_part_once (λ (ids : List ℕ). ids) lists at.0 all.once at.1) (λ y. (into y, from y));
      }

  at_most : (done lists : List (List ℕ)) → AreApartLists done → ((m : List ℕ) → Contains done m → (x : ℕ) × Contains m x)
      → ((m : List ℕ) → Contains done m → IsMatched lists m) → sum_by cost done ≤ sum_by cost lists
  unfolding AreApartLists
  at_most [] lists apart some match = omega arith
  at_most (m ∷ ms) lists apart some match =
      let one : IsMatched lists m = match m (Contains-head m ms) in
      let cut = Contains-splits lists one.list one.there in
      let rest : sum_by cost ms ≤ sum_by cost (cut.0 ++ cut.1) =
      at_most ms (cut.0 ++ cut.1) apart.1 (λ k here. some k (Contains-later m k ms here)) (λ k here.
      (let other : IsMatched lists k = match k (Contains-later m k ms here) in
      record {
        list = other.list;
        there = elim (Contains-append_cases cut.0 (one.list ∷ cut.1) other.list (subst (λ (zs : List (List ℕ)). Contains zs other.list) cut.2 other.there)) [
          | inl before ↦ Contains-append_left cut.0 cut.1 other.list before
          | inr after ↦ elim (Contains-cases one.list other.list cut.1 after) [
            | inl equal ↦
                let at = some k (Contains-later m k ms here) in
                absurd (apart.0 k here at.0 ((one.same at.0).1 (subst (λ (ys : List ℕ). Contains ys at.0) (sym equal) ((other.same at.0).0 at.1))) at.1)
            | inr later ↦ Contains-append_right cut.0 cut.1 other.list later
          ]
        ];
        same = other.same;
        equal = other.equal;
      })) in
      let whole : sum_by cost lists ≡ sum_by cost (cut.0 ++ one.list ∷ cut.1) = ap (λ (zs : List (List ℕ)). sum_by cost zs) cut.2 in
      let split = sum_by-append cost cut.0 (one.list ∷ cut.1) in
      let joined = sum_by-append cost cut.0 cut.1 in
      let first = sum_by-cons cost m ms in
      let second = sum_by-cons cost one.list cut.1 in
      omega (arith, rest, whole, split, joined, first, second, one.equal)

  -- some of the components cost no more than all
  pub bounded : (g : Closure) (gone : List ℕ) (done lists : List (List ℕ)) → AreApartLists done
      → ((m : List ℕ) → Contains done m → IsOneOf g gone m) → AreComponents g gone lists → sum_by cost done ≤ sum_by cost lists
  bounded g gone done lists apart each all =
      at_most done lists apart (λ m here. (each m here).some) (λ m here. matched g gone lists m all (each m here))

-- the steps that an order takes go by how many names there are
as_long : GoesByEntries (λ (ids : List ℕ). most_steps (length ids))
as_long m k once once' same =
    let up = (distinct_within (λ (x : ℕ). x) m k once (λ x. (same x).0)).0 in
    let down = (distinct_within (λ (x : ℕ). x) k m once' (λ x. (same x).1)).0 in
    ap most_steps (omega (arith, up, down))

-- components that hold every name that is left are all
pub are_components : (g : Closure) (gone : List ℕ) (done : List (List ℕ)) → AreApartLists done → ((m : List ℕ) → Contains done m → IsOneOf g gone m)
    → ((id : ℕ) → IsLeft g gone id → (m : List ℕ) × Contains done m × Contains m id) → AreComponents g gone done
are_components g gone done apart each holds = record {
  once = flat_once done (λ m here. (each m here).once) apart;
  exact = λ id. (
    λ here. (let at = flat_of (λ (ids : List ℕ). ids) done id here in (each at.0 at.1).left id at.2),
    λ left. (let at = holds id left in flat_has (λ (ids : List ℕ). ids) done at.0 id at.1 at.2),
  );
  whole = λ ids here. (each ids here).whole;
  alone = λ ids here. (each ids here).alone;
}

-- ---- steps

-- so many steps were taken for the parts so far, each of which is a component
pub record IsCounted (g : Closure) (gone : List ℕ) (parts : List Cluster) (before now : ℕ) : Type 0 where
  pub each : (m : List ℕ) → Contains (map (λ c. c.names) parts) m → IsOneOf g gone m
  pub grew : before ≤ now
  pub most : now ≤ before + most_steps_of (map (λ c. c.names) parts)

pub IsCounted-start : (g : Closure) (gone : List ℕ) (parts : List Cluster) (before : ℕ) → parts ≡ [] → IsCounted g gone parts before before
IsCounted-start g gone parts before none = subst (λ (cs : List Cluster). IsCounted g gone cs before before) (sym none)
    (record { each = λ m here. absurd (none_in_empty m here); grew = omega arith; most = omega arith })

module _ (g : Closure) (gone : List ℕ) (parts : List Cluster) (before now next : ℕ) (ids : List ℕ)
    (so : IsCounted g gone parts before now) (one : IsOneOf g gone ids) (grows : GrowsWithin (most_steps (length ids)) now next) where
  names_more : (part : Cluster) → part.names ≡ ids → map (λ (c : Cluster). c.names) (parts ++ part ∷ []) ≡ map (λ (c : Cluster). c.names) parts ++ ids ∷ []
  names_more part is = map_push (λ (c : Cluster). c.names) parts part ∙ ap (λ ys. map (λ (c : Cluster). c.names) parts ++ ys ∷ []) is

  each_more : (m : List ℕ) → Contains (map (λ (c : Cluster). c.names) parts ++ ids ∷ []) m → IsOneOf g gone m
  each_more m here = elim (Contains-push_cases (map (λ (c : Cluster). c.names) parts) ids m here) [
    | inl old ↦ so.each m old
    | inr new ↦ subst (IsOneOf g gone) new one
  ]

  most_more : next ≤ before + most_steps_of (map (λ (c : Cluster). c.names) parts ++ ids ∷ [])
  most_more =
      let split : most_steps_of (map (λ (c : Cluster). c.names) parts ++ ids ∷ [])
      ≡ most_steps_of (map (λ (c : Cluster). c.names) parts) + most_steps_of (ids ∷ []) =
      sum_by-append (λ (ys : List ℕ). most_steps (length ys)) (map (λ (c : Cluster). c.names) parts) (ids ∷ []) in
      let last : most_steps_of (ids ∷ []) ≡ most_steps (length ids) = omega arith in
      let few : next ≤ now + most_steps (length ids) = grows.few in
      let most : now ≤ before + most_steps_of (map (λ (c : Cluster). c.names) parts) = so.most in
      omega arith

  pub IsCounted-more : (part : Cluster) → part.names ≡ ids → IsCounted g gone (parts ++ part ∷ []) before next
  IsCounted-more part is = record {
    each = λ m here. each_more m (subst (λ (ms : List (List ℕ)). Contains ms m) (names_more part is) here);
    grew = (let first : before ≤ now = so.grew in let then : now ≤ next = grows.grew in omega arith);
    most = subst (λ (ms : List (List ℕ)). next ≤ before + most_steps_of ms) (sym (names_more part is)) most_more;
  }

  -- what is bound where one more part is not finished
  pub stopped : AllPairs AreApart parts → ((c : Cluster) → Contains parts c → (x : ℕ) → Contains c.names x → Contains ids x → ⊥)
      → (lists : List (List ℕ)) → AreComponents g gone lists → next ≤ before + most_steps_of lists
  stopped apart other lists all =
      let bound : most_steps_of (map (λ (c : Cluster). c.names) parts ++ ids ∷ []) ≤ most_steps_of lists =
      bounded (λ (ids : List ℕ). most_steps (length ids)) as_long g gone (map (λ (c : Cluster). c.names) parts ++ ids ∷ []) lists
      (apart_push (map (λ (c : Cluster). c.names) parts) ids (apart_names parts apart) (λ m here x first second. (let at =
      map-Contains (λ (c : Cluster). c.names) parts m here in other at.0 at.1 x (subst (λ (ys : List ℕ). Contains ys x) (sym at.2) first) second)))
      each_more all in
      let most : next ≤ before + most_steps_of (map (λ (c : Cluster). c.names) parts ++ ids ∷ []) = most_more in omega arith

pub finished : (g : Closure) (gone : List ℕ) (parts : List Cluster) (before now : ℕ) → IsCounted g gone parts before now
    → AllPairs AreApart parts → (lists : List (List ℕ)) → AreComponents g gone lists → now ≤ before + most_steps_of lists
finished g gone parts before now so apart lists all =
    let bound : most_steps_of (map (λ (c : Cluster). c.names) parts) ≤ most_steps_of lists =
    bounded (λ (ids : List ℕ). most_steps (length ids)) as_long g gone (map (λ (c : Cluster). c.names) parts) lists (apart_names parts apart) so.each all in
    let most : now ≤ before + most_steps_of (map (λ (c : Cluster). c.names) parts) = so.most in omega arith
