-- Components within the limits: what becomes of them when a graph changes.
use Rattle.std.proofs.Common.{◌≡◌, ℕ, suc, zero, ◌+◌, ◌^◌, ◌<◌, ◌≤◌, Bool, true, false, List, [], ◌∷◌, ◌++◌, length, sym, refl, subst, inl, inr, ◌⊎◌, arith, true≢false}
use Rattle.std.specs.Prelude.{Contains, sum_by, filter}
use Rattle.std.specs.List.{range_with_len}
use Rattle.std.specs.List.Sorted.{IsStrictlyIncreasing}
use Rattle.std.proofs.Math.ListN.{get_or}
use Rattle.std.proofs.lemmas.Bool.{cases_eq, cases_lt}
use Rattle.std.proofs.lemmas.List.FromFn.{length-range_with_len, get_or-range_with_len}
use Rattle.std.proofs.lemmas.List.Kept.{IsStrictlyIncreasing-filter}
use Rattle.std.proofs.lemmas.List.Elements.{Contains-append_left, Contains-push, Contains-push_cases}
use Rattle.lists.proofs.Distinct.{distinct_within}
use Rattle.lists.proofs.Ranges.{Contains-range}
use Rattle.arithmetic.proofs.Sums.{sum_by_along}
use Rattle.lists.proofs.Entries.{Contains-head, Contains-later, Contains-cases, Contains-filter, filter-Contains, none_in_empty}
use Rattle.graphs.specs.Graphs.{Graph, Trail, AreConnected, IsGraph, Lists}
use Rattle.graphs.specs.Closing.{with_pair}
use Rattle.graphs.proofs.PairLemmas.{connected_across}
use Rattle.graph_model.specs.States.{PlainState, size_of}
use Rattle.graph_model.specs.Refusals.{JoinsTo}
use Rattle.graph_model.specs.Limits.{Bounds}
use Rattle.graph_model.specs.Oversize.{AreOfOneComponent, HasOver}
use Rattle.graph_model.specs.Validity.{IsLevel}

-- ---- trails

trail_along : (old new : List (ℕ × ℕ)) → ((a b : ℕ) → Contains old (a, b) → AreConnected new a b) → (a b n : ℕ) → Trail old a b n → AreConnected new a b
trail_along old new pair a b zero same = (0, same)
trail_along old new pair a b (suc n) trail =
    let before = trail_along old new pair a trail.0 n trail.1 in
    elim trail.2 [ inl down ↦ joined a trail.0 b before (pair trail.0 b down) | inr up ↦ joined a trail.0 b before (back b trail.0 (pair b trail.0 up)) ]
  where
    add : (a b c m n : ℕ) → Trail new a b m → Trail new b c n → AreConnected new a c
    add a b c m zero one two = (m, subst (λ z. Trail new a z m) two one)
    add a b c m (suc n) one two = let rest = add a b two.0 m n one two.1 in (suc rest.0, (two.0, rest.1, two.2))

    joined : (a b c : ℕ) → AreConnected new a b → AreConnected new b c → AreConnected new a c
    joined a b c one two = add a b c one.0 two.0 one.1 two.1

    turned : (a b n : ℕ) → Trail new a b n → AreConnected new b a
    turned a b zero same = (0, sym same)
    turned a b (suc n) trail = joined b trail.0 a (1, (b, refl, elim trail.2 [ inl down ↦ inr down | inr up ↦ inl up ])) (turned a trail.0 n trail.1)

    back : (a b : ℕ) → AreConnected new a b → AreConnected new b a
    back a b trail = turned a b trail.0 trail.1

-- where each pair joins what another graph connects, each trail does
pub connects : (old new : List (ℕ × ℕ)) → ((a b : ℕ) → Contains old (a, b) → AreConnected new a b) → (a b : ℕ) → AreConnected old a b → AreConnected new a b
connects old new pair a b trail = trail_along old new pair a b trail.0 trail.1

pub one_pair : (pairs : List (ℕ × ℕ)) (a b : ℕ) → Contains pairs (a, b) → AreConnected pairs a b
one_pair pairs a b here = (1, (a, refl, inl here))

pub two_pairs : (pairs : List (ℕ × ℕ)) (a b c : ℕ) → Contains pairs (a, b) → Contains pairs (b, c) → AreConnected pairs a c
two_pairs pairs a b c one two = (2, (b, (a, refl, inl one), inl two))

-- what is connected with a name is a name
named : (graph : Graph) → IsGraph graph → (a b n : ℕ) → Trail graph.pairs a b n → Contains graph.names b → Contains graph.names a
named graph whole a b zero same here = subst (Contains graph.names) (sym same) here
named graph whole a b (suc n) trail here = named graph whole a trail.0 n trail.1 (elim trail.2 [
  | inl down ↦ (whole.ends trail.0 b down).0
  | inr up ↦ (whole.ends b trail.0 up).1
])

-- ---- whether names are connected can be told

abbrev pub IsTold : Type 0 → Type 0
IsTold P = P ⊎ (P → ⊥)

pub test_told : (b : Bool) → IsTold (b ≡ true)
test_told true = inl refl
test_told false = inr (λ is. true≢false (sym is))

pub both_told : (P Q : Type 0) → IsTold P → IsTold Q → IsTold (P × Q)
both_told P Q (inl p) (inl q) = inl (p, q)
both_told P Q (inl p) (inr q) = inr (λ h. q h.1)
both_told P Q (inr p) other = inr (λ h. p h.0)

pub either_told : (P Q : Type 0) → IsTold P → IsTold Q → IsTold (P ⊎ Q)
either_told P Q (inl p) other = inl (inl p)
either_told P Q (inr p) (inl q) = inl (inr q)
either_told P Q (inr p) (inr q) = inr (λ h. elim h [ inl a ↦ p a | inr b ↦ q b ])

pub told_along : (P Q : Type 0) → (P → Q) → (Q → P) → IsTold P → IsTold Q
told_along P Q to from (inl p) = inl (to p)
told_along P Q to from (inr p) = inr (λ q. p (from q))

no_trail : (a b n : ℕ) → Trail [] a b n → a ≡ b
no_trail a b zero same = same
no_trail a b (suc n) trail = elim trail.2 [ inl down ↦ absurd (none_in_empty (trail.0, b) down) | inr up ↦ absurd (none_in_empty (b, trail.0) up) ]

pub turn_first : (pair : ℕ × ℕ) (pairs : List (ℕ × ℕ)) (x : ℕ × ℕ) → Contains (pair ∷ pairs) x → Contains (pairs ++ pair ∷ []) x
turn_first pair pairs x here = elim (Contains-cases pair x pairs here) [
  | inl same ↦ subst (Contains (pairs ++ pair ∷ [])) same (Contains-push pairs pair)
  | inr later ↦ Contains-append_left pairs (pair ∷ []) x later
]

pub turn_last : (pair : ℕ × ℕ) (pairs : List (ℕ × ℕ)) (x : ℕ × ℕ) → Contains (pairs ++ pair ∷ []) x → Contains (pair ∷ pairs) x
turn_last pair pairs x here = elim (Contains-push_cases pairs pair x here) [
  | inl before ↦ Contains-later pair x pairs before
  | inr same ↦ subst (Contains (pair ∷ pairs)) same (Contains-head pair pairs)
]

pub connected_told : (pairs : List (ℕ × ℕ)) (a b : ℕ) → IsTold (AreConnected pairs a b)
connected_told [] a b = elim (cases_eq a b) [ inl same ↦ inl (0, same) | inr other ↦ inr (λ trail. other (no_trail a b trail.0 trail.1)) ]
connected_told (pair ∷ pairs) a b =
    let at : (x y : ℕ) → IsTold (AreConnected pairs x y) = λ x y. connected_told pairs x y in
    told_along _ _
    (λ across. connects (pairs ++ pair ∷ []) (pair ∷ pairs) (λ x y here. one_pair (pair ∷ pairs) x y (turn_last pair pairs (x, y) here)) a b
    ((connected_across pairs pair.0 pair.1 a b).1 across))
    (λ trail. (connected_across pairs pair.0 pair.1 a b).0
    (connects (pair ∷ pairs) (pairs ++ pair ∷ []) (λ x y here. one_pair (pairs ++ pair ∷ []) x y (turn_first pair pairs (x, y) here)) a b trail))
    (either_told _ _ (at a b) (either_told _ _ (both_told _ _ (at a pair.0) (at pair.1 b)) (both_told _ _ (at a pair.1) (at pair.0 b))))

-- ---- a property that can be told has a list of its numbers

abbrev pub is_first : {P Q : Type 0} → P ⊎ Q → Bool
is_first (inl p) = true
is_first (inr q) = false

pub first_holds : {P : Type 0} (t : P ⊎ (P → ⊥)) → is_first t ≡ true → P
first_holds (inl p) e = p
first_holds (inr q) e = absurd (true≢false (sym e))

pub holds_first : {P : Type 0} (t : P ⊎ (P → ⊥)) → P → is_first t ≡ true
holds_first (inl p) h = refl
holds_first (inr q) h = absurd (q h)

rising_range : (n : ℕ) → IsStrictlyIncreasing (range_with_len 0 n)
rising_range n k below =
    let long : length (range_with_len 0 n) ≡ n = length-range_with_len 0 n in
    let one : get_or (range_with_len 0 n) k 0 ≡ 0 + k = get_or-range_with_len 0 n k 0 (omega arith) in
    let two : get_or (range_with_len 0 n) (k + 1) 0 ≡ 0 + (k + 1) = get_or-range_with_len 0 n (k + 1) 0 (omega arith) in
    omega arith

pub some_list : (P : ℕ → Type 0) → ((q : ℕ) → IsTold (P q)) → (bound : ℕ) → ((q : ℕ) → P q → q < bound) → (ids : List ℕ) × Lists P ids
some_list P told bound small =
    let keep : ℕ → Bool = λ q. is_first (told q) in (
      filter keep (range_with_len 0 bound),
      record {
        rising = IsStrictlyIncreasing-filter keep (range_with_len 0 bound) (rising_range bound);
        exact = λ q. (
          λ here. first_holds (told q) (filter-Contains keep (range_with_len 0 bound) q here).0,
          λ holds. Contains-filter keep (range_with_len 0 bound) q (holds_first (told q) holds) (Contains-range bound q (small q holds)),
        );
      },
    )

-- ---- levels

-- names of one component are within the limits
abbrev pub AreWithin : Bounds → (ℕ → ℕ) → List ℕ → Type 0
AreWithin bounds size ids = (length ids ≤ bounds.count) × (sum_by size ids ≤ bounds.size)

not_less : (a b : ℕ) → (a < b → ⊥) → b ≤ a
not_less a b none = elim (cases_lt a b) [ inl less ↦ absurd (none less) | inr past ↦ past ]

pub within_limits : (bounds : Bounds) (size : ℕ → ℕ) (graph : Graph) → (HasOver bounds size graph → ⊥)
    → (ids : List ℕ) → AreOfOneComponent graph ids → AreWithin bounds size ids
within_limits bounds size graph none ids of = (
  not_less bounds.count (length ids) (λ over. none (ids, of, inl over)),
  not_less bounds.size (sum_by size ids) (λ over. none (ids, of, inr over)),
)

pub none_over : (bounds : Bounds) (size : ℕ → ℕ) (graph : Graph) → ((ids : List ℕ) → AreOfOneComponent graph ids → AreWithin bounds size ids)
    → HasOver bounds size graph → ⊥
none_over bounds size graph within over =
    let fits = within over.0 over.1 in
    elim over.2 [ inl many ↦ (let none : ⊥ = omega (arith, fits.0, many) in none) | inr large ↦ (let none : ⊥ = omega (arith, fits.1, large) in none) ]

-- names of one component of a graph of names of another, whose connections are there too, are of one component of that
of_one_within : (old new : Graph) → ((id : ℕ) → Contains new.names id → Contains old.names id)
    → ((a b : ℕ) → AreConnected new.pairs a b → AreConnected old.pairs a b) → (ids : List ℕ) → AreOfOneComponent new ids → AreOfOneComponent old ids
of_one_within old new inside connected ids of = record {
  once = of.once;
  inside = λ id here. inside id (of.inside id here);
  together = λ a b here there. connected a b (of.together a b here there);
}

-- what is over the limits in such a graph is so in the other, where the names keep their sizes
pub over_along : (was is : Bounds) (old_size new_size : ℕ → ℕ) (old new : Graph) → is ≡ was → ((id : ℕ) → Contains new.names id → Contains old.names id)
    → ((a b : ℕ) → AreConnected new.pairs a b → AreConnected old.pairs a b) → ((id : ℕ) → Contains new.names id → new_size id ≡ old_size id)
    → HasOver is new_size new → HasOver was old_size old
over_along was is old_size new_size old new limits inside connected sizes over = (
  over.0,
  of_one_within old new inside connected over.0 over.1,
  elim over.2 [
    | inl many ↦ inl (subst (λ (l : Bounds). l.count < length over.0) limits many)
    | inr large ↦ inr (subst (λ (l : Bounds). l.size < sum_by old_size over.0) limits
        (subst (λ n. is.size < n) (sum_by_along new_size old_size over.0 (λ q here. sizes q (over.1.inside q here))) large))
  ],
)

-- a graph of names of another, whose connections are there too
pub level_within : (was is : PlainState) (old new : Graph) → is.limits ≡ was.limits → IsGraph new → ((id : ℕ) → Contains new.names id → Contains old.names id)
    → ((a b : ℕ) → AreConnected new.pairs a b → AreConnected old.pairs a b) → ((id : ℕ) → Contains new.names id → size_of is.table id ≡ size_of was.table id)
    → IsLevel was old → IsLevel is new
level_within was is old new limits whole inside connected sizes level = record {
  whole = whole;
  names = λ id here. level.names id (inside id here);
  within = λ strict over. level.within (subst (λ (l : Bounds). l.defer ≡ false) limits strict)
      (over_along was.limits is.limits (size_of was.table) (size_of is.table) old new limits inside connected sizes over);
}

pub same_level : (was is : PlainState) (graph : Graph) → is.limits ≡ was.limits
    → ((id : ℕ) → Contains graph.names id → size_of is.table id ≡ size_of was.table id) → IsLevel was graph → IsLevel is graph
same_level was is graph limits sizes level = level_within was is graph graph limits level.whole (λ id here. here) (λ a b trail. trail) sizes level

-- One more pair: what was apart makes one component within the limits, or nothing new is connected.
module _ (state : PlainState) (graph : Graph) (parent child : ℕ) (level : IsLevel state graph)
    (parent_in : Contains graph.names parent) (child_in : Contains graph.names child)
    (joins : state.limits.defer ≡ false → (members : List ℕ) → JoinsTo graph.pairs parent child members
    → AreWithin state.limits (size_of state.table) members) where
  abbrev Joint : ℕ → Type 0
  Joint id = AreConnected graph.pairs id parent ⊎ AreConnected graph.pairs id child

  joint_named : (id : ℕ) → Joint id → id < 2 ^ 64
  joint_named id joint = level.names id (elim joint [
    | inl up ↦ named graph level.whole id parent up.0 up.1 parent_in
    | inr down ↦ named graph level.whole id child down.0 down.1 child_in
  ])

  back : (a b : ℕ) → AreConnected graph.pairs a b → AreConnected graph.pairs b a
  back a b trail = turned a b trail.0 trail.1
    where
      extended : (a b c n : ℕ) → (Contains graph.pairs (a, b) ⊎ Contains graph.pairs (b, a)) → Trail graph.pairs b c n → Trail graph.pairs a c (suc n)
      extended a b c zero step same = (a, refl, subst (λ z. Contains graph.pairs (a, z) ⊎ Contains graph.pairs (z, a)) same step)
      extended a b c (suc n) step trail = (trail.0, extended a b trail.0 n step trail.1, trail.2)

      turned : (a b n : ℕ) → Trail graph.pairs a b n → AreConnected graph.pairs b a
      turned a b zero same = (0, sym same)
      turned a b (suc n) trail =
          let rest = turned a trail.0 n trail.1 in
          (suc rest.0, extended b trail.0 a rest.0 (elim trail.2 [ inl down ↦ inr down | inr up ↦ inl up ]) rest.1)

  joined : (a b c : ℕ) → AreConnected graph.pairs a b → AreConnected graph.pairs b c → AreConnected graph.pairs a c
  joined a b c one two = added two.0 c two.1
    where
      added : (n c : ℕ) → Trail graph.pairs b c n → AreConnected graph.pairs a c
      added zero c same = subst (AreConnected graph.pairs a) same one
      added (suc n) c trail = let rest = added n trail.0 trail.1 in (suc rest.0, (trail.0, rest.1, trail.2))

  -- of a component with the pair: connected without it, or all connected with one of its ends
  apart : (ids : List ℕ) → AreOfOneComponent (with_pair graph parent child) ids
      → (AreConnected graph.pairs parent child → ⊥) → AreOfOneComponent graph ids ⊎ ((id : ℕ) → Contains ids id → Joint id)
  apart [] of none = inl (record { once = tt; inside = λ id here. absurd (none_in_empty id here); together = λ a b here there. absurd (none_in_empty a here) })
  apart (x ∷ xs) of none =
      let across : (a b : ℕ) → Contains (x ∷ xs) a → Contains (x ∷ xs) b → AreConnected graph.pairs a b ⊎ (Joint a × Joint b) = λ a b here there.
      elim ((connected_across graph.pairs parent child a b).0 (of.together a b here there)) [
        | inl was ↦ inl was
        | inr over ↦ elim over [
          | inl down ↦ inr (inl down.0, inr (back child b down.1))
          | inr up ↦ inr (inr up.0, inl (back parent b up.1))
        ]
      ] in
      elim (either_told _ _ (connected_told graph.pairs x parent) (connected_told graph.pairs x child)) [
        | inl joint ↦ inr (λ id here. elim (across x id (Contains-head x xs) here) [
          | inl was ↦ elim joint [
            | inl up ↦ inl (joined id x parent (back x id was) up)
            | inr down ↦ inr (joined id x child (back x id was) down)
          ]
          | inr both ↦ both.1
        ])
        | inr lone ↦ inl (record {
          once = of.once;
          inside = of.inside;
          together = λ a b here there.
              let from : (q : ℕ) → Contains (x ∷ xs) q → AreConnected graph.pairs x q =
              λ q is. elim (across x q (Contains-head x xs) is) [ inl was ↦ was | inr both ↦ absurd (lone both.0) ] in
              joined a x b (back x a (from a here)) (from b there);
        })
      ]

  -- where the ends were connected already, nothing new is connected
  no_more : AreConnected graph.pairs parent child → (a b : ℕ) → AreConnected (graph.pairs ++ (parent, child) ∷ []) a b → AreConnected graph.pairs a b
  no_more there a b trail = elim ((connected_across graph.pairs parent child a b).0 trail) [
    | inl was ↦ was
    | inr over ↦ elim over [
      | inl down ↦ joined a parent b down.0 (joined parent child b there down.1)
      | inr up ↦ joined a child b up.0 (joined child parent b (back parent child there) up.1)
    ]
  ]

  bounded : state.limits.defer ≡ false → (ids : List ℕ) → AreOfOneComponent (with_pair graph parent child) ids
      → AreWithin state.limits (size_of state.table) ids
  bounded strict ids of = elim (connected_told graph.pairs parent child) [
    | inl there ↦
        let old : AreOfOneComponent graph ids =
        record { once = of.once; inside = of.inside; together = λ a b one two. no_more there a b (of.together a b one two) } in
        was ids old
    | inr none ↦ elim (apart ids of none) [
      | inl old ↦ was ids old
      | inr joint ↦
          let list = some_list Joint (λ q. either_told _ _ (connected_told graph.pairs q parent) (connected_told graph.pairs q child)) (2 ^ 64) joint_named in
          let fits = distinct_within (size_of state.table) ids list.0 of.once (λ q here. (list.1.exact q).1 (joint q here)) in
          let both = joins strict list.0 (none, list.1) in
          (omega (arith, fits.0, both.0), omega (arith, fits.1, both.1))
    ]
  ]
    where
      was : (ids : List ℕ) → AreOfOneComponent graph ids → AreWithin state.limits (size_of state.table) ids
      was = within_limits state.limits (size_of state.table) graph (level.within strict)

  pub level_joined : IsGraph (with_pair graph parent child) → IsLevel state (with_pair graph parent child)
  level_joined whole = record {
    whole = whole;
    names = level.names;
    within = λ strict. none_over state.limits (size_of state.table) (with_pair graph parent child) (bounded strict);
  }
