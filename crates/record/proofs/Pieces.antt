-- Lists of names that are the components of what is left of a graph, and the steps that their orders take.
use Rattle.std.proofs.Common.{◌≡◌, ◌↔◌, ℕ, ◌+◌, ◌<◌, ◌≤◌, List, [], ◌∷◌, ◌++◌, length, map, get_or, Contains, inl, inr, sym, ap, ap₂, ◌∙◌, subst, arith, suc}
use Rattle.std.specs.List.{AllPairs}
use Rattle.std.proofs.lemmas.Bool.{cases_eq, cases_lt}
use Rattle.std.proofs.lemmas.List.{get_or_default, get_or-map, length-map}
use Rattle.lists.proofs.Distinct.{distinct_within}
use Rattle.lists.specs.Distinct.{AreDistinct}
use Rattle.graphs.specs.Closures.{Closure, rate_of}
use Rattle.graph_model.specs.declared.names.Limits.{Limits}
use Rattle.cluster.specs.Changes.{AreComponents}
use Rattle.cluster.proofs.Bounds as components
use Rattle.cluster.proofs.Bounds.{AreApartLists, IsOneOf}
use Rattle.links.specs.Pairs.{AreSplit}
use Rattle.record.specs.Steps.{most_steps_fit, most_steps_fit_of, most_steps_within, total_size}

-- ---- entries of lists of which any two stand in a relation

-- two entries that stand in it neither way are one
pub one_entry : {A : Type 0} (R : A → A → Type 0) (xs : List A) → AllPairs R xs → (x y : A) → Contains xs x → Contains xs y → (R x y → ⊥) → (R y x → ⊥)
    → x ≡ y
one_entry R xs all x y (i, low, at) (j, bound, is) first second = elim (cases_lt i j) [
  | inl less ↦ absurd (first (subst (λ z. R z y) at (subst (λ z. R (get_or xs i x) z) other (all i j x less bound))))
  | inr more ↦ elim (cases_eq i j) [
    | inl same ↦ sym at ∙ ap (λ k. get_or xs k x) same ∙ other
    | inr differ ↦ absurd (second (subst (λ z. R y z) at (subst (λ z. R z (get_or xs i x)) other (all j i x (omega (arith, more, differ)) low))))
  ]
]
  where
    other : get_or xs j x ≡ y
    other = get_or_default xs j x y bound ∙ is

pub pairs_map : {A B : Type 0} (f : A → B) (R : B → B → Type 0) (xs : List A) → AllPairs (λ x y. R (f x) (f y)) xs → AllPairs R (map f xs)
pairs_map f R [] all i j d before below = absurd (omega (arith, below))
pairs_map f R (x ∷ xs) all i j d before below =
    let long : length (map f (x ∷ xs)) ≡ length (x ∷ xs) = length-map (x ∷ xs) f in
    let low : j < length (x ∷ xs) = omega (arith, below, long) in
    subst (λ z. R z (get_or (map f (x ∷ xs)) j d)) (sym (get_or-map f (x ∷ xs) i x d (omega (arith, before, low))))
    (subst (λ z. R (f (get_or (x ∷ xs) i x)) z) (sym (get_or-map f (x ∷ xs) j x d low)) (all i j x before low))

pub pairs_back : {A B : Type 0} (f : A → B) (R : B → B → Type 0) (xs : List A) → AllPairs R (map f xs) → AllPairs (λ x y. R (f x) (f y)) xs
pairs_back f R xs all i j d before below =
    let long : length (map f xs) ≡ length xs = length-map xs f in
    subst (λ z. R z (f (get_or xs j d))) (get_or-map f xs i d (f d) (omega (arith, before, below)))
    (subst (λ z. R (get_or (map f xs) i (f d)) z) (get_or-map f xs j d (f d) below) (all i j (f d) before (omega (arith, below, long))))

-- ---- lists apart

pub apart_lists : (ms : List (List ℕ)) → AllPairs AreSplit ms → AreApartLists ms
unfolding AreApartLists
apart_lists [] pairs = tt
apart_lists (m ∷ ms) pairs = (
  (λ k (at, low, is) x one two.
      pairs 0 (suc at) k (omega arith) (omega (arith, low)) x one (subst (λ (ys : List ℕ). Contains ys x) (sym is) two)),
  apart_lists ms (λ i j d before below. pairs (suc i) (suc j) d (omega (arith, before)) (omega (arith, below))),
)

-- ---- steps

-- lists of the same names cost the same
same_fit : (limits : Limits) (g : Closure) (m k : List ℕ) → AreDistinct m → AreDistinct k → ((x : ℕ) → Contains m x ↔ Contains k x)
    → most_steps_fit limits g m ≡ most_steps_fit limits g k
same_fit limits g m k once once' same =
    let up = distinct_within (λ id. (rate_of g id).size) m k once (λ x. (same x).0) in
    let down = distinct_within (λ id. (rate_of g id).size) k m once' (λ x. (same x).1) in
    let long : length m ≡ length k = omega (arith, up.0, down.0) in
    let large : total_size g m ≡ total_size g k = omega (arith, up.1, down.1) in
    ap₂ (λ (count size : ℕ). most_steps_within limits count size) long large

-- components cost no more than all of them
pub bounded : (limits : Limits) (g : Closure) (gone : List ℕ) (done lists : List (List ℕ)) → AreApartLists done
    → ((m : List ℕ) → Contains done m → IsOneOf g gone m) → AreComponents g gone lists → most_steps_fit_of limits g done ≤ most_steps_fit_of limits g lists
bounded limits g gone done lists apart each all = components.bounded (most_steps_fit limits g) (same_fit limits g) g gone done lists apart each all
