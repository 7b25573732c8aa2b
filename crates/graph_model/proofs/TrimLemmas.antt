-- Trimming: that there is one set of names which it drops, and that it drops nothing where no component is over the limits.
use Rattle.std.proofs.Common.{◌≡◌, ◌⊎◌, ℕ, suc, zero, ◌+◌, ◌<◌, ◌≤◌, length, get_or, Bool, true, false, List, [], ◌∷◌, ◌++◌, map, inl, inr, refl, sym, ap, ◌∙◌, subst, append_assoc, append-nil, arith, ◌↔◌}
use Rattle.std.specs.Prelude.{Contains, filter}
use Rattle.std.specs.List.Sorted.{IsStrictlyIncreasing}
use Rattle.std.proofs.lemmas.Bool.{cases_eq}
use Rattle.std.proofs.lemmas.List.Kept.{AllPairs-from_increasing}
use Rattle.std.proofs.lemmas.List.Elements.{Contains-append_left}
use Rattle.lists.specs.Distinct.{AreDistinct}
use Rattle.lists.proofs.Distinct.{distinct_from_places, distinct_within}
use Rattle.lists.proofs.Told.{told_number}
use Rattle.lists.proofs.Entries.{Contains-head, Contains-later, Contains-cases, Contains-filter, filter-Contains, Contains-map, map-Contains, Contains-splits, none_in_empty}
use Rattle.fee_rate.specs.declared.rates.Sum.{Sum}
use Rattle.fee_rate.proofs.Orders.{apart, below_at_most, same_at_most, same_back}
use Rattle.graphs.specs.Graphs.{Graph, IsGraph, IsAncestor, Trail, AreConnected}
use Rattle.graphs.specs.Drops.{IsDescendantSet}
use Rattle.graphs.proofs.ListLemmas.{Lists-same, Lists-for}
use Rattle.graphs.proofs.WalkLemmas.{walk_cons, AreConnected-sym, AreConnected-trans}
use Rattle.graph_model.specs.Limits.{Bounds}
use Rattle.graph_model.specs.Oversize.{HasOver}
use Rattle.graph_model.specs.SameLaws.{IsSameGraph}
use Rattle.graph_model.specs.Trims.{kept_of, IsCandidate, GoesFirst, StaysWithin, AreMarked, IsTrimmed, PairsAmong}
use Rattle.graph_model.proofs.LevelLemmas.{IsTold, both_told}

-- ---- names that were looked at, and those that are kept

abbrev pub Marks : Type 0
Marks = List (ℕ × Bool)

abbrev pub looked_at : Marks → List ℕ
looked_at marked = map (λ entry. entry.0) marked

pub entry_kept : (marked : Marks) (id : ℕ) → Contains marked (id, true) → Contains (kept_of marked) id
entry_kept marked id here =
    Contains-map (λ (entry : ℕ × Bool). entry.0) (filter (λ entry. entry.1) marked) (id, true)
    (Contains-filter (λ (entry : ℕ × Bool). entry.1) marked (id, true) refl here)

pub kept_entry : (marked : Marks) (id : ℕ) → Contains (kept_of marked) id → Contains marked (id, true)
kept_entry marked id here =
    let found = map-Contains (λ (entry : ℕ × Bool). entry.0) (filter (λ entry. entry.1) marked) id here in
    let passed = filter-Contains (λ (entry : ℕ × Bool). entry.1) marked found.0 found.1 in
    let same : ◌≡◌ {A = ℕ × Bool} found.0 (id, true) = λ i. (found.2 i, passed.0 i) in
    subst (Contains marked) same passed.1

pub entry_looked : (marked : Marks) (entry : ℕ × Bool) → Contains marked entry → Contains (looked_at marked) entry.0
entry_looked marked entry here = Contains-map (λ (e : ℕ × Bool). e.0) marked entry here

pub looked_entry : (marked : Marks) (id : ℕ) → Contains (looked_at marked) id → (mark : Bool) × Contains marked (id, mark)
looked_entry marked id here =
    let found = map-Contains (λ (entry : ℕ × Bool). entry.0) marked id here in
    let same : ◌≡◌ {A = ℕ × Bool} found.0 (id, (found.0).1) = λ i. (found.2 i, (found.0).1) in
    ((found.0).1, subst (Contains marked) same found.1)

pub kept_front : (front rest : Marks) (id : ℕ) → Contains (kept_of front) id → Contains (kept_of (front ++ rest)) id
kept_front front rest id here = entry_kept (front ++ rest) id (Contains-append_left front rest (id, true) (kept_entry front id here))

-- the turn of a name that was looked at
pub turn_of : (bounds : Bounds) (rate : ℕ → Sum) (graph : Graph) (marked : Marks) → AreMarked bounds rate graph marked → (id : ℕ) (mark : Bool)
    → Contains marked (id, mark) → (before after : Marks) × (marked ≡ before ++ (id, mark) ∷ after) × IsCandidate graph before id
turn_of bounds rate graph marked marks id mark here =
    let cut = Contains-splits marked (id, mark) here in
    (cut.0, cut.1, cut.2, (marks.turns cut.0 cut.1 id mark cut.2).0)

-- ---- which of two names goes first

pub goes_apart : (rate : ℕ → Sum) (x y : ℕ) → GoesFirst rate x y → GoesFirst rate y x → ⊥
goes_apart rate x y (inl above) (inl below) = apart (rate x) (rate y) above (below_at_most (rate x) (rate y) below)
goes_apart rate x y (inl above) (inr same) = apart (rate x) (rate y) above (same_at_most (rate x) (rate y) (same_back (rate y) (rate x) same.0))
goes_apart rate x y (inr same) (inl below) = apart (rate y) (rate x) below (same_at_most (rate y) (rate x) (same_back (rate x) (rate y) same.0))
goes_apart rate x y (inr one) (inr other) = omega (arith, one.1, other.1)

-- ---- one marking

pub same_graph_back : (a b : Graph) → IsSameGraph a b → IsSameGraph b a
same_graph_back a b same = record {
  names = λ id. ((same.names id).1, (same.names id).0);
  pairs = λ x y. ((same.pairs x y).1, (same.pairs x y).0);
}

candidate_to : (a b : Graph) → IsSameGraph a b → (marked : Marks) (id : ℕ) → IsCandidate a marked id → IsCandidate b marked id
candidate_to a b same marked id is = record {
  named = (same.names id).0 is.named;
  fresh = is.fresh;
  parents = λ parent pair. is.parents parent ((same.pairs parent id).1 pair);
}

within_to : (bounds : Bounds) (rate : ℕ → Sum) (a b : Graph) → IsSameGraph a b → (kept : List ℕ) (id : ℕ)
    → StaysWithin bounds rate a kept id → StaysWithin bounds rate b kept id
within_to bounds rate a b same kept id stays pairs ids among lists over =
    stays pairs ids
    (λ x y. (
      λ here. let is = (among x y).0 here in ((same.pairs x y).1 is.0, is.1, is.2),
      λ is. (among x y).1 ((same.pairs x y).0 is.0, is.1, is.2),
    ))
    lists over

same_mark : (p q : Bool) → (p ≡ true → q ≡ true) → (q ≡ true → p ≡ true) → p ≡ q
same_mark true true there back = refl
same_mark true false there back = sym (there refl)
same_mark false true there back = back refl
same_mark false false there back = refl

module _ (bounds : Bounds) (rate : ℕ → Sum) (a b : Graph) (same : IsSameGraph a b) (ms ns : Marks)
    (marks : AreMarked bounds rate a ms) (others : AreMarked bounds rate b ns) where
  -- at the same turn the same name is looked at
  same_name : (front xs ys : Marks) (x y : ℕ × Bool) → ms ≡ front ++ x ∷ xs → ns ≡ front ++ y ∷ ys → x.0 ≡ y.0
  same_name front xs ys x y e f =
      let one = marks.turns front xs x.0 x.1 e in
      let two = others.turns front ys y.0 y.1 f in
      elim (cases_eq x.0 y.0) [
        | inl is ↦ is
        | inr differ ↦ absurd (goes_apart rate x.0 y.0
            (one.1 y.0 (candidate_to b a (same_graph_back a b same) front y.0 two.0) (λ e. differ (sym e)))
            (two.1 x.0 (candidate_to a b same front x.0 one.0) differ))
      ]

  same_entry : (front xs ys : Marks) (x y : ℕ × Bool) → ms ≡ front ++ x ∷ xs → ns ≡ front ++ y ∷ ys → x ≡ y
  same_entry front xs ys x y e f =
      let one = marks.turns front xs x.0 x.1 e in
      let two = others.turns front ys y.0 y.1 f in
      let name : x.0 ≡ y.0 = same_name front xs ys x y e f in
      let mark : x.1 ≡ y.1 = same_mark x.1 y.1
      (λ is. two.2.1 (subst (StaysWithin bounds rate b (kept_of front)) name (within_to bounds rate a b same (kept_of front) x.0 (one.2.0 is))))
      (λ is. one.2.1 (subst (StaysWithin bounds rate a (kept_of front)) (sym name)
      (within_to bounds rate b a (same_graph_back a b same) (kept_of front) y.0 (two.2.0 is)))) in
      λ i. (name i, mark i)

  same_rest : (front xs ys : Marks) → ms ≡ front ++ xs → ns ≡ front ++ ys → xs ≡ ys
  same_rest front [] [] e f = refl
  same_rest front [] (y ∷ ys) e f =
      let whole : ms ≡ front = e ∙ append-nil front in
      absurd (marks.ended y.0 (subst (λ zs. IsCandidate a zs y.0) (sym whole)
      (candidate_to b a (same_graph_back a b same) front y.0 (others.turns front ys y.0 y.1 f).0)))
  same_rest front (x ∷ xs) [] e f =
      let whole : ns ≡ front = f ∙ append-nil front in
      absurd (others.ended x.0 (subst (λ zs. IsCandidate b zs x.0) (sym whole) (candidate_to a b same front x.0 (marks.turns front xs x.0 x.1 e).0)))
  same_rest front (x ∷ xs) (y ∷ ys) e f =
      let first : x ≡ y = same_entry front xs ys x y e f in
      let longer : ms ≡ (front ++ x ∷ []) ++ xs = e ∙ sym (append_assoc front (x ∷ []) xs) in
      let other : ns ≡ (front ++ x ∷ []) ++ ys = f ∙ ap (λ z. front ++ z ∷ ys) (sym first) ∙ sym (append_assoc front (x ∷ []) ys) in
      let rest : xs ≡ ys = same_rest (front ++ x ∷ []) xs ys longer other in
      λ i. first i ∷ rest i

-- two markings of graphs with the same names and pairs are the same
pub marked_once : (bounds : Bounds) (rate : ℕ → Sum) (a b : Graph) (ms ns : Marks) → IsSameGraph a b → AreMarked bounds rate a ms → AreMarked bounds rate b ns
    → ms ≡ ns
marked_once bounds rate a b ms ns same marks others = same_rest bounds rate a b same ms ns marks others [] ms ns refl refl

-- however names and pairs are listed, the same names are dropped
pub trimmed_once : (bounds : Bounds) (rate : ℕ → Sum) (a b : Graph) (xs ys : List ℕ) → IsSameGraph a b → IsTrimmed bounds rate a xs → IsTrimmed bounds rate b ys
    → xs ≡ ys
trimmed_once bounds rate a b xs ys same one other =
    let marks : one.marked ≡ other.marked = marked_once bounds rate a b one.marked other.marked same one.marks other.marks in
    Lists-same (λ id. Contains b.names id × (Contains (kept_of other.marked) id → ⊥)) xs ys
    (Lists-for (λ id. Contains a.names id × (Contains (kept_of one.marked) id → ⊥)) (λ id. Contains b.names id × (Contains (kept_of other.marked) id → ⊥)) xs
    (λ id is. ((same.names id).0 is.0, λ here. is.1 (subst (λ zs. Contains (kept_of zs) id) (sym marks) here)))
    (λ id is. ((same.names id).1 is.0, λ here. is.1 (subst (λ zs. Contains (kept_of zs) id) marks here)))
    one.rest)
    other.rest

-- ---- what is dropped has its descendants with it

-- rising numbers differ
pub rising_once : (ids : List ℕ) → IsStrictlyIncreasing ids → AreDistinct ids
rising_once ids rising =
    distinct_from_places ids (λ i j d before low e.
    let below : get_or ids i d < get_or ids j d = AllPairs-from_increasing ids rising i j d before low in omega (arith, below, e))

-- the parents of a kept name are kept
pub kept_parent : (bounds : Bounds) (rate : ℕ → Sum) (graph : Graph) (marked : Marks) → AreMarked bounds rate graph marked → (parent child : ℕ)
    → Contains graph.pairs (parent, child) → Contains (kept_of marked) child → Contains (kept_of marked) parent
kept_parent bounds rate graph marked marks parent child pair kept =
    let turn = turn_of bounds rate graph marked marks child true (kept_entry marked child kept) in
    subst (λ zs. Contains (kept_of zs) parent) (sym turn.2) (kept_front turn.0 ((child, true) ∷ turn.1) parent (turn.3.parents parent pair))

pub trimmed_descendants : (bounds : Bounds) (rate : ℕ → Sum) (graph : Graph) (ids : List ℕ) → IsGraph graph → IsTrimmed bounds rate graph ids
    → IsDescendantSet graph ids
trimmed_descendants bounds rate graph ids whole trimmed = record {
  once = rising_once ids trimmed.rest.rising;
  inside = λ id here. ((trimmed.rest.exact id).0 here).0;
  children = λ parent child pair here. (trimmed.rest.exact child).1 (
    (whole.ends parent child pair).1,
    λ kept. ((trimmed.rest.exact parent).0 here).1 (kept_parent bounds rate graph trimmed.marked trimmed.marks parent child pair kept),
  );
}

-- ---- a graph without a cycle has a first name with a property

-- whether an entry has a property that can be told
pub told_some : {A : Type 0} (P : A → Type 0) → ((x : A) → P x ⊎ (P x → ⊥)) → (xs : List A)
    → ((x : A) × Contains xs x × P x) ⊎ ((x : A) → Contains xs x → P x → ⊥)
told_some P told [] = inr (λ x here. absurd (none_in_empty x here))
told_some P told (y ∷ xs) = elim (told y) [
  | inl is ↦ inl (y, Contains-head y xs, is)
  | inr isnt ↦ elim (told_some P told xs) [
    | inl found ↦ inl (found.0, Contains-later y found.0 xs found.1, found.2)
    | inr none ↦ inr (λ x here holds. elim (Contains-cases y x xs here) [ inl same ↦ isnt (subst P (sym same) holds) | inr later ↦ none x later holds ])
  ]
]

module _ (graph : Graph) (whole : IsGraph graph) (P : ℕ → Type 0) (told : (id : ℕ) → P id ⊎ (P id → ⊥)) where
  abbrev IsFirst : ℕ → Type 0
  IsFirst id = Contains graph.names id × P id × ((parent : ℕ) → Contains graph.pairs (parent, id) → P parent → ⊥)

  abbrev IsParent : ℕ → (ℕ × ℕ) → Type 0
  IsParent id pair = (pair.1 ≡ id) × P pair.0

  parent_told : (id : ℕ) (pair : ℕ × ℕ) → IsParent id pair ⊎ (IsParent id pair → ⊥)
  parent_told id pair = elim (cases_eq pair.1 id) [
    | inl same ↦ elim (told pair.0) [ inl is ↦ inl (same, is) | inr isnt ↦ inr (λ both. isnt both.1) ]
    | inr other ↦ inr (λ both. other both.0)
  ]

  -- up from child to parent, each with the property: no name is met twice
  climb : (fuel : ℕ) (path : List ℕ) (id : ℕ) → AreDistinct (id ∷ path)
      → ((q : ℕ) → Contains (id ∷ path) q → Contains graph.names q × IsAncestor graph.pairs id q)
      → P id → length graph.names ≤ fuel + length path → (first : ℕ) × IsFirst first
  climb zero path id once above is long =
      let fits = distinct_within (λ q. q) (id ∷ path) graph.names once (λ q here. (above q here).0) in absurd (omega (arith, fits.0, long))
  climb (suc fuel) path id once above is long = elim (told_some (IsParent id) (parent_told id) graph.pairs) [
    | inl found ↦
        let parent : ℕ = (found.0).0 in
        let pair : Contains graph.pairs (parent, id) =
        subst (Contains graph.pairs) (let same : ◌≡◌ {A = ℕ × ℕ} found.0 (parent, id) = λ i. (parent, found.2.0 i) in same) found.1 in
        climb fuel (id ∷ path) parent
        ((λ here. let down = (above parent here).1 in whole.acyclic parent down.0 (walk_cons graph.pairs parent id parent down.0 pair down.1)), once)
        (λ q here. elim (Contains-cases parent q (id ∷ path) here) [
          | inl same ↦ (subst (Contains graph.names) same (whole.ends parent id pair).0, (0, same))
          | inr later ↦ let down = (above q later).1 in
              ((above q later).0, (suc down.0, walk_cons graph.pairs parent id q down.0 pair down.1))
        ])
        found.2.1 (omega (arith, long))
    | inr none ↦ (id, ((above id (Contains-head id path)).0, is, λ parent pair holds. none (parent, id) pair (refl, holds)))
  ]

  pub some_first : (id : ℕ) → Contains graph.names id → P id → (first : ℕ) × IsFirst first
  some_first id here is =
      climb (length graph.names) [] id ((λ there. none_in_empty id there), tt)
      (λ q there. elim (Contains-cases id q [] there) [
        | inl same ↦ (subst (Contains graph.names) same here, (0, same))
        | inr none ↦ absurd (none_in_empty q none)
      ])
      is (omega arith)

-- ---- nothing is dropped where nothing is over

-- a trail along some of the pairs of a graph
some_pairs : (pairs others : List (ℕ × ℕ)) → ((x y : ℕ) → Contains pairs (x, y) → Contains others (x, y)) → (a b n : ℕ) → Trail pairs a b n → Trail others a b n
some_pairs pairs others more a b zero same = same
some_pairs pairs others more a b (suc n) trail = (
  trail.0,
  some_pairs pairs others more a trail.0 n trail.1,
  elim trail.2 [ inl down ↦ inl (more trail.0 b down) | inr up ↦ inr (more b trail.0 up) ],
)

pub connected_more : (pairs others : List (ℕ × ℕ)) → ((x y : ℕ) → Contains pairs (x, y) → Contains others (x, y)) → (a b : ℕ) → AreConnected pairs a b
    → AreConnected others a b
connected_more pairs others more a b trail = (trail.0, some_pairs pairs others more a b trail.0 trail.1)

-- where the ends of each pair have a property, it goes along trails
pub along_trail : (P : ℕ → Type 0) (pairs : List (ℕ × ℕ)) → ((x y : ℕ) → Contains pairs (x, y) → P x × P y) → (a b n : ℕ) → P a → Trail pairs a b n → P b
along_trail P pairs ends a b zero is same = subst P same is
along_trail P pairs ends a b (suc n) is trail = elim trail.2 [ inl down ↦ (ends trail.0 b down).1 | inr up ↦ (ends b trail.0 up).0 ]

-- the component of a name beside those that are kept is of names of one component of the graph
within_all : (bounds : Bounds) (rate : ℕ → Sum) (graph : Graph) → IsGraph graph → (HasOver bounds (λ id. (rate id).size) graph → ⊥) → (kept : List ℕ) (id : ℕ)
    → Contains graph.names id → StaysWithin bounds rate graph kept id
within_all bounds rate graph whole none kept id named pairs ids among lists over =
    let more : (x y : ℕ) → Contains pairs (x, y) → Contains graph.pairs (x, y) = λ x y here. ((among x y).0 here).0 in
    let joined : (q : ℕ) → Contains ids q → AreConnected graph.pairs id q = λ q here. connected_more pairs graph.pairs more id q ((lists.exact q).0 here) in
    none (
      ids,
      record {
        once = rising_once ids lists.rising;
        inside = λ q here. let trail = joined q here in along_trail (Contains graph.names) graph.pairs whole.ends id q trail.0 named trail.1;
        together = λ a b here there. AreConnected-trans graph.pairs a id b (AreConnected-sym graph.pairs id a (joined a here)) (joined b there);
      },
      over,
    )

-- a name that isn't kept, all of whose parents are, is a candidate, where all that were looked at are kept
none_left : (bounds : Bounds) (rate : ℕ → Sum) (graph : Graph) → IsGraph graph → (marked : Marks) → AreMarked bounds rate graph marked
    → ((id : ℕ) → Contains (looked_at marked) id → Contains (kept_of marked) id) → (id : ℕ) → Contains graph.names id → (Contains (kept_of marked) id → ⊥) → ⊥
none_left bounds rate graph whole marked marks all id named unkept =
    let IsLeft : ℕ → Type 0 = λ q. Contains (kept_of marked) q → ⊥ in
    let told : (q : ℕ) → IsLeft q ⊎ (IsLeft q → ⊥) = λ q. elim (told_number (kept_of marked) q) [ inl is ↦ inr (λ isnt. isnt is) | inr isnt ↦ inl isnt ] in
    let first = some_first graph whole IsLeft told id named unkept in
    marks.ended first.0 (record {
      named = first.1.0;
      fresh = λ here. first.1.1 (all first.0 here);
      parents = λ parent pair. elim (told_number (kept_of marked) parent) [ inl is ↦ is | inr isnt ↦ absurd (first.1.2 parent pair isnt) ];
    })

pub trimmed_nothing : (bounds : Bounds) (rate : ℕ → Sum) (graph : Graph) (ids : List ℕ) → IsGraph graph → (HasOver bounds (λ id. (rate id).size) graph → ⊥)
    → IsTrimmed bounds rate graph ids → ids ≡ []
trimmed_nothing bounds rate graph [] whole none trimmed = refl
trimmed_nothing bounds rate graph (x ∷ xs) whole none trimmed =
    let left = (trimmed.rest.exact x).0 (Contains-head x xs) in
    absurd (none_left bounds rate graph whole trimmed.marked trimmed.marks
    (λ id here.
    let entry = looked_entry trimmed.marked id here in
    let cut = Contains-splits trimmed.marked (id, entry.0) entry.1 in
    let turn = trimmed.marks.turns cut.0 cut.1 id entry.0 cut.2 in
    let kept : entry.0 ≡ true = turn.2.1 (within_all bounds rate graph whole none (kept_of cut.0) id turn.0.named) in
    entry_kept trimmed.marked id (subst (λ (m : Bool). Contains trimmed.marked (id, m)) kept entry.1))
    x left.0 left.1)

-- ---- pairs among names

-- the entries with a property that can be told
some_entries : {A : Type 0} (P : A → Type 0) → ((x : A) → IsTold (P x)) → (xs : List A) → (some : List A) × ((x : A) → Contains some x ↔ (Contains xs x × P x))
some_entries P told [] = ([], λ x. (λ here. absurd (none_in_empty x here), λ is. is.0))
some_entries {A = A} P told (y ∷ xs) =
    let rest : (some : List A) × ((x : A) → Contains some x ↔ (Contains xs x × P x)) = some_entries P told xs in
    elim (told y) [
      | inl is ↦ (
        y ∷ rest.0,
        λ x. (
          λ here. elim (Contains-cases y x rest.0 here) [
            | inl same ↦ subst (λ z. Contains (y ∷ xs) z × P z) same (Contains-head y xs, is)
            | inr later ↦ let found = (rest.1 x).0 later in (Contains-later y x xs found.0, found.1)
          ],
          λ both. elim (Contains-cases y x xs both.0) [
            | inl same ↦ subst (Contains (y ∷ rest.0)) same (Contains-head y rest.0)
            | inr later ↦ Contains-later y x rest.0 ((rest.1 x).1 (later, both.1))
          ],
        ),
      )
      | inr isnt ↦ (
        rest.0,
        λ x. (
          λ here. let found = (rest.1 x).0 here in (Contains-later y x xs found.0, found.1),
          λ both. elim (Contains-cases y x xs both.0) [
            | inl same ↦ absurd (isnt (subst P (sym same) both.1))
            | inr later ↦ (rest.1 x).1 (later, both.1)
          ],
        ),
      )
    ]

-- the pairs among some names
pub some_among : (pairs : List (ℕ × ℕ)) (ids : List ℕ) → (some : List (ℕ × ℕ)) × PairsAmong pairs ids some
some_among pairs ids =
    let found = some_entries (λ (pair : ℕ × ℕ). Contains ids pair.0 × Contains ids pair.1)
    (λ pair. both_told _ _ (told_number ids pair.0) (told_number ids pair.1)) pairs in (
      found.0,
      λ a b. (
        λ here. let is = (found.1 (a, b)).0 here in (is.0, is.1.0, is.1.1),
        λ is. (found.1 (a, b)).1 (is.0, (is.1, is.2)),
      ),
    )
