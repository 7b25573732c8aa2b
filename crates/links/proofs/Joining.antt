-- One pair more, and two sets of links in one.
use Rattle.std.proofs.Common.{◌≡◌, ℕ, ℤ, zero, suc, ◌⊎◌, inl, inr, List, [], ◌∷◌, ◌++◌, sym, ap, subst}
use Rattle.std.specs.Prelude.{Contains}
use Rattle.std.proofs.lemmas.List.{map-append}
use Rattle.std.proofs.lemmas.List.Elements.{Contains-push, Contains-push_cases, Contains-append_left, Contains-append_right, Contains-append_cases}
use Rattle.lists.specs.Distinct.{AreDistinct}
use Rattle.lists.proofs.Distinct.{distinct_joined}
use Rattle.lists.proofs.Cases.{swap}
use Rattle.graphs.specs.Graphs.{Walk, IsAncestor, HasNoCycle}
use Rattle.graphs.specs.Certificates.{Txs}
use Rattle.graphs.proofs.PairLemmas.{no_cycle_with_pair}
use Rattle.links.specs.Links.{AreAmong, AreInRange, AreSame}
use Rattle.links.specs.Kept.{names_of}
use Rattle.links.specs.Pairs.{HasMore}

pub same_more : (old new : List (ℕ × ℕ)) (pair : ℕ × ℕ) → AreSame (old ++ pair ∷ []) new → HasMore old new pair
same_more old new pair same other = (
  (λ here. Contains-push_cases old pair other ((same other.0 other.1).0 here)),
  (λ either. (same other.0 other.1).1 (elim either [
    | inl was ↦ Contains-append_left old (pair ∷ []) other was
    | inr is ↦ subst (λ (x : ℕ × ℕ). Contains (old ++ pair ∷ []) x) is (Contains-push old pair)
  ])),
)

pub among_more : (names : List ℕ) (pairs : List (ℕ × ℕ)) (parent child : ℕ) → AreAmong names pairs → Contains names parent → Contains names child
    → AreAmong names (pairs ++ (parent, child) ∷ [])
among_more names pairs parent child among first second a b here = elim (Contains-push_cases pairs (parent, child) (a, b) here) [
  | inl was ↦ among a b was
  | inr is ↦ (
    subst (Contains names) (ap (λ (x : ℕ × ℕ). x.0) is) first,
    subst (Contains names) (ap (λ (x : ℕ × ℕ). x.1) is) second,
  )
]

pub no_cycle_more : (pairs : List (ℕ × ℕ)) (parent child : ℕ) → HasNoCycle pairs → (IsAncestor pairs child parent → ⊥)
    → HasNoCycle (pairs ++ (parent, child) ∷ [])
no_cycle_more pairs parent child none apart = (no_cycle_with_pair pairs parent child none).1 apart

-- ---- two sides

-- a walk over pairs of two sides that ends on one side stays there
walk_side : (one two : List ℕ) (first second all : List (ℕ × ℕ)) → AreAmong one first → AreAmong two second
    → ((id : ℕ) → Contains one id → Contains two id → ⊥)
    → ((x y : ℕ) → Contains {X = ℕ × ℕ} all (x, y) → Contains {X = ℕ × ℕ} first (x, y) ⊎ Contains {X = ℕ × ℕ} second (x, y))
    → (a b n : ℕ) → Contains one b → Walk all a b n → Walk first a b n × Contains one a
walk_side one two first second all p q apart split a b zero here same = (same, subst (Contains one) (sym same) here)
walk_side one two first second all p q apart split a b (suc n) here (c, walk, pair) = elim (split c b pair) [
  | inl own ↦
      let rest = walk_side one two first second all p q apart split a c n (p c b own).0 walk in
      ((c, rest.0, own), rest.1)
  | inr other ↦ absurd (apart b here (q c b other).1)
]

module _ (one two : List ℕ) (first second : List (ℕ × ℕ)) (p : AreAmong one first) (q : AreAmong two second)
    (apart : (id : ℕ) → Contains one id → Contains two id → ⊥) where
  split : (x y : ℕ) → Contains {X = ℕ × ℕ} (first ++ second) (x, y) → Contains {X = ℕ × ℕ} first (x, y) ⊎ Contains {X = ℕ × ℕ} second (x, y)
  split x y here = Contains-append_cases first second (x, y) here

  pub walk_one : (a b n : ℕ) → Contains one b → Walk (first ++ second) a b n → Walk first a b n × Contains one a
  walk_one a b n here walk = walk_side one two first second (first ++ second) p q apart split a b n here walk

  pub walk_two : (a b n : ℕ) → Contains two b → Walk (first ++ second) a b n → Walk second a b n × Contains two a
  walk_two a b n here walk = walk_side two one second first (first ++ second) q p (λ id x y. apart id y x) (λ x y pair. swap (split x y pair)) a b n here walk

  pub no_cycle_both : HasNoCycle first → HasNoCycle second → HasNoCycle (first ++ second)
  no_cycle_both none nothing a n (c, walk, pair) = elim (split c a pair) [
    | inl own ↦ none a n (walk_one a a (suc n) (p c a own).1 (c, walk, pair)).0
    | inr own ↦ nothing a n (walk_two a a (suc n) (q c a own).1 (c, walk, pair)).0
  ]

  -- nothing leads from one side to the other
  pub none_across : (parent child : ℕ) → (Contains one parent × Contains two child) ⊎ (Contains two parent × Contains one child)
      → IsAncestor (first ++ second) child parent → ⊥
  none_across parent child (inl sides) walk = apart child (walk_one child parent walk.0 sides.0 walk.1).1 sides.1
  none_across parent child (inr sides) walk = apart child sides.1 (walk_two child parent walk.0 sides.0 walk.1).1

  pub among_both : AreAmong (one ++ two) (first ++ second)
  among_both a b here = elim (split a b here) [
    | inl own ↦ let ends = p a b own in (Contains-append_left one two a ends.0, Contains-append_left one two b ends.1)
    | inr own ↦ let ends = q a b own in (Contains-append_right one two a ends.0, Contains-append_right one two b ends.1)
  ]

  pub ends_both : (parent child : ℕ) → (Contains one parent × Contains two child) ⊎ (Contains two parent × Contains one child)
      → Contains (one ++ two) parent × Contains (one ++ two) child
  ends_both parent child (inl sides) = (Contains-append_left one two parent sides.0, Contains-append_right one two child sides.1)
  ends_both parent child (inr sides) = (Contains-append_right one two parent sides.0, Contains-append_left one two child sides.1)

pub names_both : (xs ys : Txs) → names_of (xs ++ ys) ≡ names_of xs ++ names_of ys
names_both xs ys = map-append (λ (tx : ℕ × ℤ × ℕ). tx.0) xs ys

pub range_both : (xs ys : Txs) → AreInRange xs → AreInRange ys → AreInRange (xs ++ ys)
range_both xs ys first second id fee size here = elim (Contains-append_cases xs ys (id, fee, size) here) [
  | inl own ↦ first id fee size own
  | inr own ↦ second id fee size own
]

pub once_both : (xs ys : Txs) → AreDistinct (names_of xs) → AreDistinct (names_of ys)
    → ((id : ℕ) → Contains (names_of xs) id → Contains (names_of ys) id → ⊥) → AreDistinct (names_of (xs ++ ys))
once_both xs ys first second apart = subst AreDistinct (sym (names_both xs ys)) (distinct_joined (names_of xs) (names_of ys) first second apart)
