-- Names in another order, and pairs between places.
use Rattle.std.proofs.Common.{◌≡◌, ◌≢◌, ◌↔◌, ℕ, ◌<◌, false, nat_eq, List, [], ◌∷◌, length, get_or, inl, inr, refl, sym, ap, ◌∙◌, subst, arith, ℤ, pos, eq-eqb, ne_eqb, eqb-true, true≢false, Option, Some}
use Rattle.std.specs.Prelude.{Contains}
use Rattle.std.specs.List.{IsDistinct, AllByRecursion}
use Rattle.std.specs.List.Sorted.{IsPermutation, IsSortedBy}
use Rattle.std.proofs.lemmas.List.{length-map, get_or_default}
use Rattle.std.proofs.lemmas.List.Sorted.{IsPermutation-map, IsPermutation-sym, Contains-permutation}
use Rattle.std.proofs.lemmas.List.Elements.{Contains-get_or}
use Rattle.std.proofs.lemmas.Map.Keys.{IsDistinct-from_apart, IsDistinct-IsPermutation, IsDistinct-head, IsDistinct-tail}
use Rattle.lists.specs.Distinct.{AreDistinct}
use Rattle.lists.proofs.Cases.{same_test}
use Rattle.lists.proofs.Distinct.{places_apart}
use Rattle.lists.proofs.Entries.{Contains-cases, none_in_empty}
use Rattle.fee_rate.specs.Limits.{IsSize}
use Rattle.graphs.specs.Certificates.{Txs}
use Rattle.links.specs.Links.{AreLinks, AreAmong}
use Rattle.links.specs.Kept.{names_of}
use Rattle.places.specs.Chains.{pair_at}
use Rattle.places.specs.Places.{ArePlaces, AreSteps}
use Rattle.places.proofs.Placing.{name_at as named}
use Rattle.trimming.specs.declared.net.Net.{Net}
use Rattle.trimming.specs.Nets.{list_at, tx_at, name_at, IsNetOf}
use Rattle.trimming.specs.Orders.{goes_before}
use Rattle.trimming.proofs.Ordering.{earlier_goes}

-- ---- names that stand once do so in another order

none_same : (x : ℕ) (ys : List ℕ) → AllByRecursion (λ y. nat_eq x y ≡ false) ys → (y : ℕ) → Contains ys y → nat_eq x y ≡ false
none_same x [] all y here = absurd (none_in_empty y here)
none_same x (z ∷ ys) all y here = elim (Contains-cases z y ys here) [
  | inl same ↦ ap (nat_eq x) (sym same) ∙ all.0
  | inr later ↦ none_same x ys all.1 y later
]

distinct_from : (xs : List ℕ) → IsDistinct nat_eq xs → AreDistinct xs
distinct_from [] once = tt
distinct_from (x ∷ xs) once = (
  λ here. true≢false (sym (eq-eqb x x refl) ∙ none_same x xs (IsDistinct-head nat_eq x xs once) x here),
  distinct_from xs (IsDistinct-tail nat_eq x xs once),
)

distinct_to : (xs : List ℕ) → AreDistinct xs → IsDistinct nat_eq xs
distinct_to xs once =
    IsDistinct-from_apart nat_eq xs (λ i j d before below. ne_eqb (get_or xs i d) (get_or xs j d) (λ e. places_apart xs i j d once before below e))

flips : (x y : ℕ) → nat_eq x y ≡ nat_eq y x
flips x y =
    same_test (nat_eq x y) (nat_eq y x) (λ e. eq-eqb y x (sym (eqb-true x y e)))
    (λ e. eq-eqb x y (sym (eqb-true y x e)))

pub distinct_moved : (xs ys : List ℕ) → IsPermutation xs ys → AreDistinct xs → AreDistinct ys
distinct_moved xs ys moved once = distinct_from ys (IsDistinct-IsPermutation nat_eq flips xs ys moved (distinct_to xs once))

abbrev name : ℕ × ℤ × ℕ → ℕ
name tx = tx.0

pub names_moved : (txs order : Txs) → IsPermutation txs order → AreDistinct (names_of txs) → AreDistinct (names_of order)
names_moved txs order moved once = distinct_moved (names_of txs) (names_of order) (IsPermutation-map name txs order moved) once

pub among_moved : (txs order : Txs) (pairs : List (ℕ × ℕ)) → IsPermutation txs order → AreAmong (names_of txs) pairs → AreAmong (names_of order) pairs
among_moved txs order pairs moved among parent child pair =
    let ends = among parent child pair in
    let names = IsPermutation-map name txs order moved in
    (Contains-permutation (names_of txs) (names_of order) parent names ends.0, Contains-permutation (names_of txs) (names_of order) child names ends.1)

-- ---- pairs and steps

module _ (txs : Txs) (find : ℕ → Option ℕ) (pairs steps : List (ℕ × ℕ)) (places : ArePlaces (names_of txs) find) (are : AreSteps find pairs steps) where
  at_place : (id place : ℕ) → find id ≡ Some place → (place < length txs) × (name_at txs place ≡ id)
  at_place id place found =
      let s = places.sound id place found in
      let long = length-map txs name in
      let low : place < length txs = omega (arith, s.0, long) in
      (low, sym (named txs place low) ∙ s.1)

  pub step_pair : (a b : ℕ) → Contains {X = ℕ × ℕ} steps (a, b)
      → (a < length txs) × (b < length txs) × Contains {X = ℕ × ℕ} pairs (name_at txs a, name_at txs b)
  step_pair a b (k, low, at) =
      let long = are.sized in
      let inside : k < length pairs = omega (arith, low, long) in
      let is : ◌≡◌ {A = ℕ × ℕ} (pair_at steps k) (a, b) = get_or_default steps k (0, 0) (a, b) low ∙ at in
      let ends = are.ends k inside in
      let one = at_place (pair_at pairs k).0 a (ends.0 ∙ ap (λ (s : ℕ × ℕ). Some s.0) is) in
      let two = at_place (pair_at pairs k).1 b (ends.1 ∙ ap (λ (s : ℕ × ℕ). Some s.1) is) in
      let pair : ◌≡◌ {A = ℕ × ℕ} (pair_at pairs k) (name_at txs a, name_at txs b) = λ i. (sym one.1 i, sym two.1 i) in
      (one.0, two.0, subst (Contains pairs) pair (Contains-get_or pairs k (0, 0) inside))

  pub pair_step : (x y : ℕ) → Contains {X = ℕ × ℕ} pairs (x, y)
      → (a b : ℕ) × Contains {X = ℕ × ℕ} steps (a, b) × (name_at txs a ≡ x) × (name_at txs b ≡ y)
  pair_step x y (k, low, at) =
      let long = are.sized in
      let inside : k < length steps = omega (arith, low, long) in
      let is : ◌≡◌ {A = ℕ × ℕ} (pair_at pairs k) (x, y) = get_or_default pairs k (0, 0) (x, y) low ∙ at in
      let ends = are.ends k low in
      let one = at_place (pair_at pairs k).0 (pair_at steps k).0 ends.0 in
      let two = at_place (pair_at pairs k).1 (pair_at steps k).1 ends.1 in
      ((pair_at steps k).0, (pair_at steps k).1, Contains-get_or steps k (0, 0) inside, one.1 ∙ ap (λ (p : ℕ × ℕ). p.0) is, two.1 ∙ ap (λ (p : ℕ × ℕ). p.1) is)

-- ---- the net

-- no two places have the same name
pub names_apart : (txs : Txs) → AreDistinct (names_of txs) → (i j : ℕ) → i < j → j < length txs → name_at txs i ≢ name_at txs j
names_apart txs once i j before low same =
    let long = length-map txs name in
    places_apart (names_of txs) i j 0 once before (omega (arith, low, long)) (named txs i (omega (arith, before, low)) ∙ same ∙ sym (named txs j low))

pub net_made : (txs : Txs) (pairs steps : List (ℕ × ℕ)) (find : ℕ → Option ℕ) (net : Net) → AreLinks (record { txs = txs; pairs = pairs })
    → IsPermutation txs net.txs.items → IsSortedBy goes_before net.txs.items → ArePlaces (names_of net.txs.items) find → AreSteps find pairs steps
    → length net.parents.items ≡ length net.txs.items → length net.children.items ≡ length net.txs.items
    → ((a b : ℕ) → Contains (list_at net.parents.items b) a ↔ Contains {X = ℕ × ℕ} steps (a, b))
    → ((a b : ℕ) → Contains (list_at net.children.items a) b ↔ Contains {X = ℕ × ℕ} steps (a, b))
    → IsNetOf txs pairs net
net_made txs pairs steps find net links moved sorted places are up_long down_long up down =
    let order : Txs = net.txs.items in
    let from : (tx : ℕ × ℤ × ℕ) → Contains order tx → Contains txs tx =
    λ tx here. Contains-permutation order txs tx (IsPermutation-sym txs order moved) here in
    let size : (tx : ℕ × ℤ × ℕ) → Contains txs tx → IsSize tx.2 = λ tx here. (links.in_range tx.0 tx.1 tx.2 here).1 in
    let once = names_moved txs order moved links.graph_is.names in
    let pair = step_pair order find pairs steps places are in
    record {
      net_is = record {
        parents_sized = up_long;
        children_sized = down_long;
        children = λ a b. ((λ here. (up a b).1 ((down a b).0 here)), (λ here. (down a b).1 ((up a b).0 here)));
        within = λ a b here. let p = pair a b ((up a b).0 here) in (p.0, p.1);
        sizes = λ place low. size (tx_at order place) (from (tx_at order place) (Contains-get_or order place (0, pos 0, 0) low));
      };
      same = moved;
      order = λ i j before low.
          earlier_goes txs order i j (0, pos 0, 0) links.graph_is.names (λ tx here. (size tx here).0) from sorted before low (names_apart order once i j before low);
      pairs_are = λ a b here. (pair a b ((up a b).0 here)).2;
      pairs_all = λ x y here.
          let s = pair_step order find pairs steps places are x y here in
          (s.0, s.1, (up s.0 s.1).1 s.2, s.3, s.4);
    }
