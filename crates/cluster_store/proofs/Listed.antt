-- Clusters that stand under numbers, one for one.
use Rattle.std.proofs.Common.{◌≡◌, ◌≢◌, ℕ, zero, suc, List, [], ◌∷◌, ◌++◌, Contains, Option, Some, is_some, IsSome, inl, inr, refl, sym, ap, ◌∙◌, subst, arith}
use Rattle.std.specs.Prelude.{slice_get, slice_index}
use Rattle.std.proofs.lemmas.List.Elements.{Contains-get_or}
use Rattle.std.proofs.lemmas.Option.{none-some, same_Some, slice_get_within}
use Rattle.lists.proofs.Entries.{Contains-head, Contains-later, Contains-cases, none_in_empty}
use Rattle.cluster.specs.Clusters.{Cluster}
use Rattle.cluster_store.specs.Tops.{AreAt}

pub only_one : (x y : ℕ) → Contains (x ∷ []) y → y ≡ x
only_one x y here = elim (Contains-cases x y [] here) [ inl same ↦ sym same | inr none ↦ absurd (none_in_empty y none) ]

pub other_one : (x y : ℕ) → (Contains (x ∷ []) y → ⊥) → y ≢ x
other_one x y none same = none (subst (Contains (x ∷ [])) (sym same) (Contains-head x []))

-- ---- none, one, and more

pub at_none : (at : ℕ → Option Cluster) → AreAt at [] []
at_none at = record { count = refl; stand = λ i c is. absurd (none-some c is) }

pub at_more : (at : ℕ → Option Cluster) (n : ℕ) (c : Cluster) (list : List ℕ) (found : List Cluster) → at n ≡ Some c → AreAt at list found
    → AreAt at (n ∷ list) (c ∷ found)
at_more at n c list found is are = record { count = ap suc are.count; stand = stand }
  where
    stand : (i : ℕ) (d : Cluster) → slice_get (c ∷ found) i ≡ Some d → at (slice_index (n ∷ list) i) ≡ Some d
    stand zero d got = is ∙ got
    stand (suc i) d got = are.stand i d got

pub at_one : (at : ℕ → Option Cluster) (n : ℕ) (c : Cluster) → at n ≡ Some c → AreAt at (n ∷ []) (c ∷ [])
at_one at n c is = at_more at n c [] [] is (at_none at)

at_rest : (at : ℕ → Option Cluster) (n : ℕ) (c : Cluster) (list : List ℕ) (found : List Cluster) → AreAt at (n ∷ list) (c ∷ found) → AreAt at list found
at_rest at n c list found are = record { count = omega (arith, are.count); stand = λ i d got. are.stand (suc i) d got }

pub at_joined : (at : ℕ → Option Cluster) (l m : List ℕ) (xs ys : List Cluster) → AreAt at l xs → AreAt at m ys → AreAt at (l ++ m) (xs ++ ys)
at_joined at [] m [] ys first second = second
at_joined at [] m (x ∷ xs) ys first second = absurd (omega (arith, first.count))
at_joined at (n ∷ l) m [] ys first second = absurd (omega (arith, first.count))
at_joined at (n ∷ l) m (x ∷ xs) ys first second =
    at_more at n x (l ++ m) (xs ++ ys) (first.stand zero x refl) (at_joined at l m xs ys (at_rest at n x l xs first) second)

-- ---- what stands under one of the numbers

pub at_some : (at : ℕ → Option Cluster) (list : List ℕ) (found : List Cluster) (n : ℕ) → AreAt at list found → Contains list n → IsSome (at n)
at_some at [] found n are here = absurd (none_in_empty n here)
at_some at (m ∷ list) [] n are here = absurd (omega (arith, are.count))
at_some at (m ∷ list) (x ∷ found) n are here = elim (Contains-cases m n list here) [
  | inl same ↦ ap is_some (ap at (sym same) ∙ are.stand zero x refl)
  | inr later ↦ at_some at list found n (at_rest at m x list found are) later
]

-- it is one of the clusters
pub at_found : (at : ℕ → Option Cluster) (list : List ℕ) (found : List Cluster) (n : ℕ) (c : Cluster) → AreAt at list found → Contains list n → at n ≡ Some c
    → Contains found c
at_found at [] found n c are here is = absurd (none_in_empty n here)
at_found at (m ∷ list) [] n c are here is = absurd (omega (arith, are.count))
at_found at (m ∷ list) (x ∷ found) n c are here is = elim (Contains-cases m n list here) [
  | inl same ↦ subst (Contains (x ∷ found)) (same_Some x c (sym (are.stand zero x refl) ∙ ap at same ∙ is)) (Contains-head x found)
  | inr later ↦ Contains-later x c found (at_found at list found n c (at_rest at m x list found are) later is)
]

pub at_same : (at at' : ℕ → Option Cluster) (list : List ℕ) (found : List Cluster) → AreAt at list found → ((n : ℕ) → Contains list n → at' n ≡ at n)
    → AreAt at' list found
at_same at at' list found are same = record {
  count = are.count;
  stand = λ i c got.
      same (slice_index list i) (Contains-get_or list i 0 (omega (arith, are.count, slice_get_within found i c got))) ∙ are.stand i c got;
}
