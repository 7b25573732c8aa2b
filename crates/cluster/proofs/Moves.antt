-- Certificates whose flows stand in another order.
use Rattle.std.proofs.Common.{◌≡◌, ℕ, Bool, true, false, ◌&&◌, nat_eq, List, [], ◌∷◌, map, get_or, Contains, inl, inr, refl, sym, ap, ap₂, ◌∙◌, eq-eqb, eqb-true, true≢false, pos, ◌-ℤ◌}
use Rattle.std.specs.Prelude.{◌==◌, if◌then◌else◌}
use Rattle.std.proofs.lemmas.Bool.{and_parts, false_from_ne_true}
use Rattle.std.proofs.lemmas.List.Sorted.{IsPermutation-map, IsPermutation-sym, Contains-permutation, sum_by-IsPermutation}
use Rattle.std.proofs.lemmas.Map.Keys.{IsDistinct-from_apart, IsDistinct-IsPermutation, IsDistinct-head, IsDistinct-tail}
use Rattle.std.specs.List.{IsDistinct, AllByRecursion}
use Rattle.std.specs.List.Sorted.{IsPermutation}
use Rattle.lists.proofs.Distinct.{places_apart}
use Rattle.lists.proofs.Entries.{Contains-cases, none_in_empty}
use Rattle.lists.specs.Distinct.{AreDistinct}
use Rattle.fee_rate.specs.declared.rates.Sum.{Sum}
use Rattle.graphs.specs.declared.names.Flow.{Flow}
use Rattle.graphs.specs.Certificates.{Certifies}

-- whether two links are the same
abbrev same_link : ℕ × ℕ → ℕ × ℕ → Bool
same_link x y = nat_eq x.0 y.0 && nat_eq x.1 y.1

link_is : (x y : ℕ × ℕ) → same_link x y ≡ true → x ≡ y
link_is x y e =
    let both = and_parts (nat_eq x.0 y.0) (nat_eq x.1 y.1) e in
    let first : x.0 ≡ y.0 = eqb-true x.0 y.0 both.0 in
    let second : x.1 ≡ y.1 = eqb-true x.1 y.1 both.1 in
    λ t. (first t, second t)

is_link : (x y : ℕ × ℕ) → x ≡ y → same_link x y ≡ true
is_link x y e = ap₂ (λ a b. a && b) (eq-eqb x.0 y.0 (λ t. (e t).0)) (eq-eqb x.1 y.1 (λ t. (e t).1))

flips : (x y : ℕ × ℕ) → same_link x y ≡ same_link y x
flips x y =
    Rattle.lists.proofs.Cases.same_test (same_link x y) (same_link y x) (λ e. is_link y x (sym (link_is x y e))) (λ e. is_link x y (sym (link_is y x e)))

none_same : (x : ℕ × ℕ) (ys : List (ℕ × ℕ)) → AllByRecursion (λ y. same_link x y ≡ false) ys → (y : ℕ × ℕ) → Contains ys y → same_link x y ≡ false
none_same x [] all y here = absurd (none_in_empty y here)
none_same x (z ∷ ys) all y here = elim (Contains-cases z y ys here) [
  | inl same ↦ ap (same_link x) (sym same) ∙ all.0
  | inr later ↦ none_same x ys all.1 y later
]

distinct_from : (xs : List (ℕ × ℕ)) → IsDistinct same_link xs → AreDistinct xs
distinct_from [] once = tt
distinct_from (x ∷ xs) once = (
  λ here. true≢false (sym (is_link x x refl) ∙ none_same x xs (IsDistinct-head same_link x xs once) x here),
  distinct_from xs (IsDistinct-tail same_link x xs once),
)

distinct_to : (xs : List (ℕ × ℕ)) → AreDistinct xs → IsDistinct same_link xs
distinct_to xs once = IsDistinct-from_apart same_link xs
    (λ i j d before below. false_from_ne_true (same_link (get_or xs i d) (get_or xs j d))
    (λ e. places_apart xs i j d once before below (link_is (get_or xs i d) (get_or xs j d) e)))

-- links that stand once do so in another order
pub distinct_moved : (xs ys : List (ℕ × ℕ)) → IsPermutation xs ys → AreDistinct xs → AreDistinct ys
distinct_moved xs ys moved once = distinct_from ys (IsDistinct-IsPermutation same_link flips xs ys moved (distinct_to xs once))

abbrev link_of : Flow → ℕ × ℕ
link_of flow = (flow.child, flow.parent)

-- flows certify a part in any order
pub Certifies-moved : (rate : ℕ → Sum) (IsLink : ℕ → ℕ → Type 0) (ids : List ℕ) (flows moved : List Flow)
    → IsPermutation flows moved → Certifies rate IsLink ids flows → Certifies rate IsLink ids moved
Certifies-moved rate IsLink ids flows moved move certifies = record {
  once = distinct_moved (map link_of flows) (map link_of moved) (IsPermutation-map link_of flows moved move) certifies.once;
  links = λ flow here. certifies.links flow (there flow here);
  inside = λ flow here. certifies.inside flow (there flow here);
  some = λ flow here. certifies.some flow (there flow here);
  balanced = λ id here. certifies.balanced id here
      ∙ ap₂ (λ x y. pos x -ℤ pos y)
      (sym (sum_by-IsPermutation (λ (flow : Flow). if flow.child == id then flow.amount else 0) flows moved move))
      (sym (sum_by-IsPermutation (λ (flow : Flow). if flow.parent == id then flow.amount else 0) flows moved move));
}
  where
    there : (flow : Flow) → Contains moved flow → Contains flows flow
    there flow here = Contains-permutation moved flows flow (IsPermutation-sym flows moved move) here
