-- Places in an order of names, and names sorted by them.
use Rattle.std.proofs.Common.{Equal, Greater, Less, ◌≡◌, ◌↔◌, ℕ, ◌+◌, ◌<◌, Bool, true, false, cond, nat_eq, List, [], ◌∷◌, ◌++◌, length, slice_index, Contains, Some, inl, inr, refl, sym, ap, ◌∙◌, subst, length-append, eq-eqb, eqb-true, true≢false, arith}
use Rattle.std.specs.Cmp.{nat_cmp_is}
use Rattle.std.specs.Ordering.{nat_cmp}
use Rattle.std.specs.List.Sorted.{IsNonDecreasingBy}
use Rattle.std.proofs.lemmas.Bool.{cases_order}
use Rattle.lists.specs.Distinct.{AreDistinct}
use Rattle.lists.proofs.Distinct.{distinct_apart}
use Rattle.lists.proofs.Entries.{Contains-cases, Contains-head, Contains-later, Contains-splits, none_in_empty}
use Rattle.lists.proofs.Told.{told_number}
use Rattle.graphs.specs.Certificates.{Part}
use Rattle.graphs.specs.Closures.{is_member}
use Rattle.graphs.specs.Linearizations.{StandsBefore}
use Rattle.graphs.specs.declared.names.Level.TheVariants.{Main}
use Rattle.graph_model.specs.Answers.{order_of}
use Rattle.graph_model.specs.States.{State}
use Rattle.graph_model.specs.States as states
use Rattle.levels.specs.Levels.{HavePicks, IsWithin}
use Rattle.tx_graph.specs.Kept.{Kept, StandsFor}
use Rattle.tx_graph.specs.MainOrder.{StandInOrder, place_in}
use Rattle.tx_graph.proofs.Picked.{pick_at, pick_here, pick_is}
use Rattle.tx_graph.proofs.Standing.{graph_at, sum_kept}

-- ---- places

-- a name of a front has its place there
place_low : (front ys : List ℕ) (a : ℕ) → Contains front a → place_in (front ++ ys) a < length front
unfolding place_in
place_low [] ys a here = absurd (none_in_empty a here)
place_low (x ∷ xs) ys a here = by (nat_eq x a) refl (place_low xs ys a)
  where
    by : (b : Bool) → nat_eq x a ≡ b → (Contains xs a → place_in (xs ++ ys) a < length xs) → cond b 0 (place_in (xs ++ ys) a + 1) < length (x ∷ xs)
    by true e rest = omega arith
    by false e rest = elim (Contains-cases x a xs here) [
      | inl same ↦ absurd (true≢false (sym (eq-eqb x a same) ∙ e))
      | inr later ↦ let low = rest later in omega (arith, low)
    ]

-- and what has its place in a front is a name of it
low_place : (front ys : List ℕ) (a : ℕ) → place_in (front ++ ys) a < length front → Contains front a
unfolding place_in
low_place [] ys a low = absurd (omega (arith, low))
low_place (x ∷ xs) ys a low = by (nat_eq x a) refl low (low_place xs ys a)
  where
    by : (b : Bool) → nat_eq x a ≡ b → cond b 0 (place_in (xs ++ ys) a + 1) < length (x ∷ xs)
        → (place_in (xs ++ ys) a < length xs → Contains xs a) → Contains (x ∷ xs) a
    by true e less rest = subst (λ (y : ℕ). Contains (x ∷ xs) y) (eqb-true x a e) (Contains-head x xs)
    by false e less rest = Contains-later x a xs (rest (omega (arith, less)))

-- what isn't in a front has its place behind it
place_behind : (front ys : List ℕ) (b : ℕ) → (Contains front b → ⊥) → place_in (front ++ ys) b ≡ length front + place_in ys b
unfolding place_in
place_behind [] ys b out = omega arith
place_behind (x ∷ xs) ys b out = by (nat_eq x b) refl (place_behind xs ys b (λ here. out (Contains-later x b xs here)))
  where
    by : (t : Bool) → nat_eq x b ≡ t → place_in (xs ++ ys) b ≡ length xs + place_in ys b
        → cond t 0 (place_in (xs ++ ys) b + 1) ≡ length (x ∷ xs) + place_in ys b
    by true e rest = absurd (out (subst (λ (y : ℕ). Contains (x ∷ xs) y) (eqb-true x b e) (Contains-head x xs)))
    by false e rest = omega (arith, rest)

place_first : (b : ℕ) (rest : List ℕ) → place_in (b ∷ rest) b ≡ 0
unfolding place_in
place_first b rest = ap (λ t. cond t 0 (place_in rest b + 1)) (eq-eqb b b refl)

place_zero : (x y : ℕ) (xs : List ℕ) → place_in (x ∷ xs) y ≡ 0 → y ≡ x
unfolding place_in
place_zero x y xs none = by (nat_eq x y) refl none
  where
    by : (t : Bool) → nat_eq x y ≡ t → cond t 0 (place_in xs y + 1) ≡ 0 → y ≡ x
    by true e zero = sym (eqb-true x y e)
    by false e zero = absurd (omega (arith, zero))

-- where a name stands, split there
place_at : (order front rest : List ℕ) (b : ℕ) → AreDistinct order → order ≡ front ++ b ∷ rest → place_in order b ≡ length front
place_at order front rest b once is =
    let out : Contains front b → ⊥ = λ here. distinct_apart front (b ∷ rest) b (subst AreDistinct is once) here (Contains-head b rest) in
    let behind = place_behind front (b ∷ rest) b out in
    omega (arith, ap (λ (xs : List ℕ). place_in xs b) is, behind, place_first b rest)

module _ (order : List ℕ) (once : AreDistinct order) where
  -- the first of two stands before the other exactly where its place is less
  pub place_less : (a b : ℕ) → StandsBefore order a b → place_in order a < place_in order b
  place_less a b (front, rest, is, here) =
      let at = place_at order front rest b once is in
      let low = place_low front (b ∷ rest) a here in
      omega (arith, at, low, ap (λ (xs : List ℕ). place_in xs a) is)

  pub less_place : (a b : ℕ) → Contains order b → place_in order a < place_in order b → StandsBefore order a b
  less_place a b there less =
      let cut = Contains-splits order b there in
      let at = place_at order cut.0 cut.1 b once cut.2 in
      (cut.0, cut.1, cut.2, low_place cut.0 (b ∷ cut.1) a (omega (arith, less, at, ap (λ (xs : List ℕ). place_in xs a) cut.2)))

  -- a name of the order has a place in it, and no other has
  pub place_in_all : (a : ℕ) → Contains order a → place_in order a < length order
  place_in_all a here =
      let cut = Contains-splits order a here in
      let at = place_at order cut.0 cut.1 a once cut.2 in
      omega (arith, at, ap length cut.2, length-append cut.0 (a ∷ cut.1))

  -- two names of the order at one place are one
  pub same_place : (a b : ℕ) → Contains order a → Contains order b → place_in order a ≡ place_in order b → a ≡ b
  same_place a b here there same = elim (cases_order a b) as (λ _. a ≡ b) [
    | inl is ↦ is
    | inr (inl less) ↦ one
    | inr (inr more) ↦ one
  ]
    where
      one : a ≡ b
      one =
          let cut = Contains-splits order b there in
          let at = place_at order cut.0 cut.1 b once cut.2 in
          elim (told_number cut.0 a) as (λ _. a ≡ b) [
            | inl front ↦ absurd (
                let low = place_low cut.0 (b ∷ cut.1) a front in
                omega (arith, low, at, same, ap (λ (xs : List ℕ). place_in xs a) cut.2))
            | inr out ↦
                let behind = place_behind cut.0 (b ∷ cut.1) a out in
                let first : place_in (b ∷ cut.1) a ≡ 0 = omega (arith, behind, at, same, ap (λ (xs : List ℕ). place_in xs a) cut.2) in
                place_zero b a cut.1 first
          ]

-- what the order hasn't comes behind
pub place_out : (order : List ℕ) (a : ℕ) → (Contains order a → ⊥) → place_in order a ≡ length order
unfolding place_in
place_out [] a out = refl
place_out (x ∷ xs) a out = by (nat_eq x a) refl (place_out xs a (λ here. out (Contains-later x a xs here)))
  where
    by : (t : Bool) → nat_eq x a ≡ t → place_in xs a ≡ length xs → place_in (x ∷ xs) a ≡ length (x ∷ xs)
    by true e rest = absurd (out (subst (λ (y : ℕ). Contains (x ∷ xs) y) (eqb-true x a e) (Contains-head x xs)))
    by false e rest = ap (λ t. cond t 0 (place_in xs a + 1)) e ∙ omega (arith, rest)

-- names sorted by their places stand in the order
pub sorted_stand : (order ids : List ℕ) → AreDistinct order → IsNonDecreasingBy (place_in order) ids → StandInOrder order ids
sorted_stand order ids once sorted i j before low there =
    let rises = sorted i j 0 (omega (arith, before)) low in
    let a = slice_index ids i in
    let b = slice_index ids j in
    elim (cases_order (place_in order a) (place_in order b)) [
      | inl same ↦ inr (same_place order once a b (listed_at a b there same) there same)
      | inr (inl less) ↦ inl (less_place order once a b there less)
      | inr (inr more) ↦ absurd (omega (arith, rises, more))
    ]
  where
    -- what has the place of a name of the order is a name of it
    listed_at : (a b : ℕ) → Contains order b → place_in order a ≡ place_in order b → Contains order a
    listed_at a b there same = elim (told_number order a) [
      | inl here ↦ here
      | inr out ↦ absurd (omega (arith, place_in_all order once b there, place_out order a out, same))
    ]

-- ---- what a comparison of places answers

module _ (order : List ℕ) (once : AreDistinct order) (a b : ℕ) where
  pub less_is : StandsBefore order a b → Less ≡ nat_cmp (place_in order a) (place_in order b)
  less_is stands = nat_cmp_is (place_in order a) (place_in order b) Less (place_less order once a b stands)

  pub more_is : StandsBefore order b a → Greater ≡ nat_cmp (place_in order a) (place_in order b)
  more_is stands = nat_cmp_is (place_in order a) (place_in order b) Greater (place_less order once b a stands)

  -- where the order hasn't the second, or the first
  pub known_is : Contains order a → (Contains order b → ⊥) → Less ≡ nat_cmp (place_in order a) (place_in order b)
  known_is here out =
      nat_cmp_is (place_in order a) (place_in order b) Less
      (let low = place_in_all order once a here in let past = place_out order b out in omega (arith, low, past))

  pub unknown_is : (Contains order a → ⊥) → Contains order b → Greater ≡ nat_cmp (place_in order a) (place_in order b)
  unknown_is out here =
      nat_cmp_is (place_in order a) (place_in order b) Greater
      (let low = place_in_all order once b here in let past = place_out order a out in omega (arith, low, past))

  pub neither_is : (Contains order a → ⊥) → (Contains order b → ⊥) → Equal ≡ nat_cmp (place_in order a) (place_in order b)
  neither_is out away =
      nat_cmp_is (place_in order a) (place_in order b) Equal
      (let one = place_out order a out in let two = place_out order b away in omega (arith, one, two))

-- ---- main's order

pub main_order : (kept : Kept) → HavePicks kept.levels → IsWithin kept.levels Main → (state : State) × StandsFor kept state
    → AreDistinct (order_of kept.levels.main.parts)
    × ((id : ℕ) → Contains (order_of kept.levels.main.parts) id ↔ (is_member kept.levels.main.graph id ≡ true))
main_order kept picked within (state, stands) =
    let of = graph_at kept state.plain stands.plain Main in
    let sums = sum_kept kept.levels state.plain.table stands.plain.table Main in
    let order = pick_here kept.levels.main state.plain.main (states.rate_of state.plain.table) (pick_at kept.levels Main picked within) of sums in
    let all = order.certificate.order.topological in (
      all.once,
      λ id. (λ here. (of.closure.names id).0 ((all.names id).0 here), λ live. (all.names id).1 ((of.closure.names id).1 live)),
    )

module _ (kept : Kept) (picked : HavePicks kept.levels) (within : IsWithin kept.levels Main) (some : (state : State) × StandsFor kept state) (a b : ℕ) where
  abbrev order : List ℕ
  order = order_of kept.levels.main.parts

  once : AreDistinct order
  once = (main_order kept picked within some).0

  inside : (id : ℕ) → is_member kept.levels.main.graph id ≡ true → Contains order id
  inside id live = ((main_order kept picked within some).1 id).1 live

  outside : (id : ℕ) → is_member kept.levels.main.graph id ≡ false → Contains order id → ⊥
  outside id not_live here = true≢false (sym (((main_order kept picked within some).1 id).0 here) ∙ not_live)

  pub main_before : StandsBefore order a b → Less ≡ nat_cmp (place_in order a) (place_in order b)
  main_before = less_is order once a b

  pub main_after : StandsBefore order b a → Greater ≡ nat_cmp (place_in order a) (place_in order b)
  main_after = more_is order once a b

  pub main_known : is_member kept.levels.main.graph a ≡ true → is_member kept.levels.main.graph b ≡ false
      → Less ≡ nat_cmp (place_in order a) (place_in order b)
  main_known live not_live = known_is order once a b (inside a live) (outside b not_live)

  pub main_unknown : is_member kept.levels.main.graph a ≡ false → is_member kept.levels.main.graph b ≡ true
      → Greater ≡ nat_cmp (place_in order a) (place_in order b)
  main_unknown not_live live = unknown_is order once a b (outside a not_live) (inside b live)

  pub main_neither : is_member kept.levels.main.graph a ≡ false → is_member kept.levels.main.graph b ≡ false
      → Equal ≡ nat_cmp (place_in order a) (place_in order b)
  main_neither first second = neither_is order once a b (outside a first) (outside b second)

-- names sorted by main's order, in every state
pub main_sorted : (kept : Kept) → HavePicks kept.levels → IsWithin kept.levels Main → (ids : List ℕ)
    → IsNonDecreasingBy (place_in (order_of kept.levels.main.parts)) ids → (state : State) → StandsFor kept state
    → (pick : List Part) × (states.pick_of state.picks Main ≡ Some pick) × StandInOrder (order_of pick) ids
main_sorted kept picked within ids sorted state stands = (
  kept.levels.main.parts,
  pick_is kept state Main stands within,
  sorted_stand (order_of kept.levels.main.parts) ids (main_order kept picked within (state, stands)).0 sorted,
)
