-- A graph without a name: that there is one, that it is a graph, and its ancestors.
use Rattle.std.proofs.Common.{◌≡◌, ◌≢◌, ℕ, suc, zero, ◌≤◌, Bool, true, false, not, ◌&&◌, ◌||◌, eqb, List, [], ◌∷◌, ◌++◌, sym, subst, ap, ◌∙◌, inl, inr, ◌⊎◌, ◌↔◌, arith, eqb-true, eq-eqb, ne_eqb, true≢false}
use Rattle.std.specs.Prelude.{Contains, filter}
use Rattle.std.proofs.lemmas.Bool.{cases_eq, and_parts, and_from, or_cases, or_left, or_right}
use Rattle.std.proofs.lemmas.List.Elements.{Contains-append_left, Contains-append_right, Contains-append_cases}
use Rattle.lists.proofs.Distinct.{distinct_joined, distinct-filter}
use Rattle.lists.proofs.Entries.{Contains-head, Contains-later, Contains-cases, none_in_empty, Contains-filter, filter-Contains}
use Rattle.lists.specs.Distinct.{AreDistinct}
use Rattle.graphs.specs.Graphs.{Graph, Walk, IsAncestor, IsGraph, HasNoCycle}
use Rattle.graphs.specs.Removals.{IsWithout}

-- ---- walks

module _ (old new : Graph) (id : ℕ) (without : IsWithout old id new) where
  kept_pair : (a b : ℕ) → a ≢ id → b ≢ id → Contains old.pairs (a, b) → Contains new.pairs (a, b)
  kept_pair a b first second pair = (without.pairs a b).1 (first, second, inl pair)

  bridge : (a b : ℕ) → a ≢ id → b ≢ id → Contains old.pairs (a, id) → Contains old.pairs (id, b) → Contains new.pairs (a, b)
  bridge a b first second above below = (without.pairs a b).1 (first, second, inr (above, below))

  -- a walk goes on without the name, up to the name before it where it ends there
  Goes : ℕ → ℕ → Type 0
  Goes a b = (b ≢ id → IsAncestor new.pairs a b) × (b ≡ id → (c : ℕ) × IsAncestor new.pairs a c × (c ≢ id) × Contains old.pairs (c, id))

  goes_on : (a b c : ℕ) → Goes a c → c ≢ id → Contains old.pairs (c, b) → Goes a b
  unfolding Goes
  goes_on a b c before other pair =
      let walk : IsAncestor new.pairs a c = before.0 other in
      (λ apart. (suc walk.0, (c, walk.1, kept_pair c b other apart pair)), λ same. (c, walk, other, subst (λ (x : ℕ). Contains old.pairs (c, x)) same pair))

  goes_over : (a b c : ℕ) → Goes a c → c ≡ id → Contains old.pairs (c, b) → Goes a b
  unfolding Goes
  goes_over a b c before same pair =
      let top = before.1 same in (
        λ apart. (suc top.1.0, (top.0, top.1.1, bridge top.0 b top.2 apart top.3 (subst (λ (x : ℕ). Contains old.pairs (x, b)) same pair))),
        λ ends. top,
      )

  goes : (a b n : ℕ) → a ≢ id → Walk old.pairs a b n → Goes a b
  unfolding Goes
  goes a b zero other same = (λ apart. (0, same), λ ends. absurd (other (same ∙ ends)))
  goes a b (suc n) other walk = elim (cases_eq walk.0 id) [
    | inl same ↦ goes_over a b walk.0 (goes a walk.0 n other walk.1) same walk.2
    | inr apart ↦ goes_on a b walk.0 (goes a walk.0 n other walk.1) apart walk.2
  ]

  -- a walk over the new pairs is one over the old pairs, not shorter
  longer : (a b n : ℕ) → Walk new.pairs a b n → (m : ℕ) × Walk old.pairs a b m × (n ≤ m)
  longer a b zero same = (0, same, omega arith)
  longer a b (suc n) walk =
      let before = longer a walk.0 n walk.1 in let low : n ≤ before.0 = before.2 in
      elim ((without.pairs walk.0 b).0 walk.2).2 [
        | inl pair ↦ (suc before.0, (walk.0, before.1, pair), omega arith)
        | inr pairs ↦ (suc (suc before.0), (id, (walk.0, before.1, pairs.0), pairs.1), omega arith)
      ]

  starts_apart : (a b n : ℕ) → Walk new.pairs a b (suc n) → a ≢ id
  starts_apart a b zero walk = subst (λ (x : ℕ). x ≢ id) (sym walk.1) ((without.pairs walk.0 b).0 walk.2).0
  starts_apart a b (suc n) walk = starts_apart a walk.0 n walk.1

  walk_before : (a b n : ℕ) → Walk new.pairs a b n → (a ≡ b) ⊎ ((a ≢ id) × (b ≢ id) × IsAncestor old.pairs a b)
  walk_before a b zero same = inl same
  walk_before a b (suc n) walk =
      let before = longer a b (suc n) walk in
      inr (starts_apart a b n walk, ((without.pairs walk.0 b).0 walk.2).1, (before.0, before.1))

  walk_after : (a b : ℕ) → (a ≡ b) ⊎ ((a ≢ id) × (b ≢ id) × IsAncestor old.pairs a b) → IsAncestor new.pairs a b
  unfolding Goes
  walk_after a b before = elim before [
    | inl same ↦ (0, same)
    | inr there ↦ (goes a b there.2.0 there.0 there.2.1).0 there.1
  ]

  pub ancestors_without : (a b : ℕ) → IsAncestor new.pairs a b ↔ ((a ≡ b) ⊎ ((a ≢ id) × (b ≢ id) × IsAncestor old.pairs a b))
  ancestors_without a b = (λ walk. walk_before a b walk.0 walk.1, walk_after a b)

  pub no_cycle_left : HasNoCycle old.pairs → HasNoCycle new.pairs
  no_cycle_left none a n walk = closed (longer a a (suc n) walk)
    where
      closed : (m : ℕ) × Walk old.pairs a a m × (suc n ≤ m) → ⊥
      closed (zero, w, low) = omega arith
      closed (suc m, w, low) = none a m w

  -- what holds at both ends of each old pair holds at both ends of each new one
  pub ends_without : (P : ℕ → Type 0) → ((a b : ℕ) → Contains old.pairs (a, b) → P a × P b) → (a b : ℕ) → Contains new.pairs (a, b) → P a × P b
  ends_without P ends a b pair = elim ((without.pairs a b).0 pair).2 [
    | inl kept ↦ ends a b kept
    | inr bridged ↦ ((ends a id bridged.0).0, (ends id b bridged.1).1)
  ]

  pub graph_left : IsGraph old → IsGraph new
  graph_left graph = record {
    names = without.names_once;
    pairs = without.pairs_once;
    ends = λ parent child pair.
        let there = (without.pairs parent child).0 pair in
        let both = ends_without (Contains old.names) graph.ends parent child pair in
        ((without.names parent).1 (both.0, there.0), (without.names child).1 (both.1, there.1));
    acyclic = no_cycle_left graph.acyclic;
  }

-- ---- lists

-- all pairs with this first
with_first : ℕ → List ℕ → List (ℕ × ℕ)
with_first x [] = []
with_first x (y ∷ ys) = (x, y) ∷ with_first x ys

with_first_has : (x : ℕ) (ys : List ℕ) (y : ℕ) → Contains ys y → Contains (with_first x ys) (x, y)
unfolding with_first
with_first_has x [] y here = absurd (none_in_empty y here)
with_first_has x (z ∷ zs) y here = elim (Contains-cases z y zs here) [
  | inl same ↦ subst (λ (w : ℕ). Contains ((x, z) ∷ with_first x zs) (x, w)) same (Contains-head (x, z) (with_first x zs))
  | inr later ↦ Contains-later (x, z) (x, y) (with_first x zs) (with_first_has x zs y later)
]

with_first_is : (x : ℕ) (ys : List ℕ) (a b : ℕ) → Contains (with_first x ys) (a, b) → (x ≡ a) × Contains ys b
unfolding with_first
with_first_is x [] a b here = absurd (none_in_empty (a, b) here)
with_first_is x (y ∷ ys) a b here = elim (Contains-cases (x, y) (a, b) (with_first x ys) here) [
  | inl same ↦ (ap (λ (p : ℕ × ℕ). p.0) same, subst (Contains (y ∷ ys)) (ap (λ (p : ℕ × ℕ). p.1) same) (Contains-head y ys))
  | inr later ↦ let rest = with_first_is x ys a b later in (rest.0, Contains-later y b ys rest.1)
]

distinct_with_first : (x : ℕ) (ys : List ℕ) → AreDistinct ys → AreDistinct (with_first x ys)
unfolding with_first
distinct_with_first x [] once = tt
distinct_with_first x (y ∷ ys) once = (λ there. once.0 (with_first_is x ys x y there).1, distinct_with_first x ys once.1)

-- each of the first with each of the second
pub crossed : List ℕ → List ℕ → List (ℕ × ℕ)
crossed [] ys = []
crossed (x ∷ xs) ys = with_first x ys ++ crossed xs ys

pub crossed_has : (xs ys : List ℕ) (a b : ℕ) → Contains xs a → Contains ys b → Contains (crossed xs ys) (a, b)
unfolding crossed
crossed_has [] ys a b here there = absurd (none_in_empty a here)
crossed_has (x ∷ xs) ys a b here there = elim (Contains-cases x a xs here) [
  | inl same ↦
      Contains-append_left (with_first x ys) (crossed xs ys) (a, b) (subst (λ (w : ℕ). Contains (with_first x ys) (w, b)) same (with_first_has x ys b there))
  | inr later ↦ Contains-append_right (with_first x ys) (crossed xs ys) (a, b) (crossed_has xs ys a b later there)
]

pub crossed_first : (xs ys : List ℕ) (a b : ℕ) → Contains (crossed xs ys) (a, b) → Contains xs a
unfolding crossed
crossed_first [] ys a b here = absurd (none_in_empty (a, b) here)
crossed_first (x ∷ xs) ys a b here = elim (Contains-append_cases (with_first x ys) (crossed xs ys) (a, b) here) [
  | inl first ↦ subst (Contains (x ∷ xs)) (with_first_is x ys a b first).0 (Contains-head x xs)
  | inr later ↦ Contains-later x a xs (crossed_first xs ys a b later)
]

pub crossed_second : (xs ys : List ℕ) (a b : ℕ) → Contains (crossed xs ys) (a, b) → Contains ys b
unfolding crossed
crossed_second [] ys a b here = absurd (none_in_empty (a, b) here)
crossed_second (x ∷ xs) ys a b here = elim (Contains-append_cases (with_first x ys) (crossed xs ys) (a, b) here) [
  | inl first ↦ (with_first_is x ys a b first).1
  | inr later ↦ crossed_second xs ys a b later
]

pub distinct_crossed : (xs ys : List ℕ) → AreDistinct xs → AreDistinct ys → AreDistinct (crossed xs ys)
unfolding crossed
distinct_crossed [] ys first second = tt
distinct_crossed (x ∷ xs) ys first second =
    distinct_joined (with_first x ys) (crossed xs ys) (distinct_with_first x ys second) (distinct_crossed xs ys first.1 second)
    (λ pair here there. first.0 (subst (Contains xs) (sym (with_first_is x ys pair.0 pair.1 here).0) (crossed_first xs ys pair.0 pair.1 there)))

has : List (ℕ × ℕ) → ℕ → ℕ → Bool
has [] a b = false
has (p ∷ ps) a b = (eqb p.0 a && eqb p.1 b) || has ps a b

has_contains : (ps : List (ℕ × ℕ)) (a b : ℕ) → has ps a b ≡ true → Contains ps (a, b)
unfolding has
has_contains [] a b e = absurd (true≢false (sym e))
has_contains (p ∷ ps) a b e = elim (or_cases (eqb p.0 a && eqb p.1 b) (has ps a b) e) [
  | inl here ↦
      let both = and_parts (eqb p.0 a) (eqb p.1 b) here in
      subst (Contains (p ∷ ps)) (λ i. (eqb-true p.0 a both.0 i, eqb-true p.1 b both.1 i)) (Contains-head p ps)
  | inr later ↦ Contains-later p (a, b) ps (has_contains ps a b later)
]

contains_has : (ps : List (ℕ × ℕ)) (a b : ℕ) → Contains ps (a, b) → has ps a b ≡ true
unfolding has
contains_has [] a b here = absurd (none_in_empty (a, b) here)
contains_has (p ∷ ps) a b here = elim (Contains-cases p (a, b) ps here) [
  | inl same ↦ or_left (eqb p.0 a && eqb p.1 b) (has ps a b)
      (and_from (eqb p.0 a) (eqb p.1 b) (eq-eqb p.0 a (ap (λ (q : ℕ × ℕ). q.0) same)) (eq-eqb p.1 b (ap (λ (q : ℕ × ℕ). q.1) same)))
  | inr later ↦ or_right (eqb p.0 a && eqb p.1 b) (has ps a b) (contains_has ps a b later)
]

-- ---- the graph without a name

module _ (old : Graph) (id : ℕ) (graph : IsGraph old) where
  pub differs : ℕ → Bool
  differs x = not (eqb x id)

  pub left : List ℕ
  left = filter differs old.names

  pub stays : ℕ × ℕ → Bool
  stays p = has old.pairs p.0 p.1 || (has old.pairs p.0 id && has old.pairs id p.1)

  pub without_name : Graph
  without_name = record { names = left; pairs = filter stays (crossed left left) }

  differs_is : (x : ℕ) → differs x ≡ true → x ≢ id
  unfolding differs
  differs_is x e same = true≢false (sym e ∙ ap not (eq-eqb x id same))

  is_differs : (x : ℕ) → x ≢ id → differs x ≡ true
  unfolding differs
  is_differs x other = ap not (ne_eqb x id other)

  left_is : (x : ℕ) → Contains left x ↔ (Contains old.names x × (x ≢ id))
  unfolding left
  left_is x = (
    λ here. let there = filter-Contains differs old.names x here in (there.1, differs_is x there.0),
    λ there. Contains-filter differs old.names x (is_differs x there.1) there.0,
  )

  ends_of : (a b : ℕ) → Contains old.pairs (a, b) ⊎ (Contains old.pairs (a, id) × Contains old.pairs (id, b)) → Contains old.names a × Contains old.names b
  ends_of a b pair = elim pair [
    | inl kept ↦ graph.ends a b kept
    | inr bridged ↦ ((graph.ends a id bridged.0).0, (graph.ends id b bridged.1).1)
  ]

  stays_is : (a b : ℕ) → stays (a, b) ≡ true → Contains old.pairs (a, b) ⊎ (Contains old.pairs (a, id) × Contains old.pairs (id, b))
  unfolding stays
  stays_is a b e = elim (or_cases (has old.pairs a b) (has old.pairs a id && has old.pairs id b) e) [
    | inl kept ↦ inl (has_contains old.pairs a b kept)
    | inr bridged ↦
        let both = and_parts (has old.pairs a id) (has old.pairs id b) bridged in inr (has_contains old.pairs a id both.0, has_contains old.pairs id b both.1)
  ]

  is_stays : (a b : ℕ) → Contains old.pairs (a, b) ⊎ (Contains old.pairs (a, id) × Contains old.pairs (id, b)) → stays (a, b) ≡ true
  unfolding stays
  is_stays a b pair = elim pair [
    | inl kept ↦ or_left (has old.pairs a b) (has old.pairs a id && has old.pairs id b) (contains_has old.pairs a b kept)
    | inr bridged ↦ or_right (has old.pairs a b) (has old.pairs a id && has old.pairs id b)
        (and_from (has old.pairs a id) (has old.pairs id b) (contains_has old.pairs a id bridged.0) (contains_has old.pairs id b bridged.1))
  ]

  pub is_without : IsWithout old id without_name
  unfolding without_name left
  is_without = record {
    names = left_is;
    names_once = distinct-filter differs old.names graph.names;
    pairs = λ a b. (
      λ here.
          let there = filter-Contains stays (crossed left left) (a, b) here in
          let first = (left_is a).0 (crossed_first left left a b there.1) in
          let second = (left_is b).0 (crossed_second left left a b there.1) in
          (first.1, second.1, stays_is a b there.0),
      λ there.
          let ends = ends_of a b there.2 in
          Contains-filter stays (crossed left left) (a, b) (is_stays a b there.2)
          (crossed_has left left a b ((left_is a).1 (ends.0, there.0)) ((left_is b).1 (ends.1, there.1))),
    );
    pairs_once = distinct-filter stays (crossed left left)
        (distinct_crossed left left (distinct-filter differs old.names graph.names) (distinct-filter differs old.names graph.names));
  }

-- every graph has one without a name
pub some_without : (old : Graph) (id : ℕ) → IsGraph old → (new : Graph) × IsWithout old id new
some_without old id graph = (without_name old id graph, is_without old id graph)
