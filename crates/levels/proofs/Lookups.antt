-- Which names a list has, which clusters have a name, and where a number stands in a list.
use Rattle.std.proofs.Common.{◌≡◌, ℕ, ◌<◌, List, [], ◌∷◌, length, get_or, Contains, Option, Some, inl, inr, ◌⊎◌, sym, ap, ◌∙◌, subst, arith}
use Rattle.std.specs.Prelude.{slice_get, slice_index}
use Rattle.std.proofs.lemmas.Option.{same_Some, slice_get-get_or}
use Rattle.lists.proofs.Entries.{Contains-head, Contains-later, Contains-cases, none_in_empty}
use Rattle.std.proofs.lemmas.List.Elements.{Contains-get_or}
use Rattle.lists.proofs.Told.{told_number}
use Rattle.cluster.specs.Clusters.{Cluster}
use Rattle.cluster_store.proofs.Arriving.{place_of}
use Rattle.levels.specs.Changes.{AreAt, IsNamed}

-- one of some clusters has a name, or none has
pub decide_named : (cs : List Cluster) (id : ℕ) → IsNamed cs id ⊎ (IsNamed cs id → ⊥)
decide_named [] id = inr (λ named. none_in_empty named.0 named.1)
decide_named (c ∷ cs) id = elim (told_number c.names id) [
  | inl here ↦ inl (c, Contains-head c cs, here)
  | inr out ↦ elim (decide_named cs id) [
    | inl later ↦ inl (later.0, Contains-later c later.0 cs later.1, later.2)
    | inr none ↦ inr (λ named. elim (Contains-cases c named.0 cs named.1) [
      | inl same ↦ out (subst (λ (x : Cluster). Contains x.names id) (sym same) named.2)
      | inr later ↦ none (named.0, later, named.2)
    ])
  ]
]

-- where a cluster stands among some
pub record IsPlaced (at : ℕ → Option Cluster) (list : List ℕ) (found : List Cluster) (c : Cluster) : Type 0 where
  pub place : ℕ
  pub listed : slice_get found place ≡ Some c
  pub number : Contains list (slice_index list place)
  pub stands : at (slice_index list place) ≡ Some c

-- each of the clusters stands under one of the numbers
pub placed_of : (at : ℕ → Option Cluster) (list : List ℕ) (found : List Cluster) (c : Cluster)
    → AreAt at list found → Contains found c → IsPlaced at list found c
placed_of at list found c are here =
    let is : slice_get found here.0 ≡ Some c = slice_get-get_or found here.0 c here.1 ∙ ap Some here.2 in
    record { place = here.0; listed = is; number = Contains-get_or list here.0 0 (omega (arith, are.count, here.1)); stands = are.stand here.0 c is }

-- what stands under one of the numbers is one of the clusters
pub found_of : (at : ℕ → Option Cluster) (list : List ℕ) (found : List Cluster) (n : ℕ) (c : Cluster) → AreAt at list found → Contains list n → at n ≡ Some c
    → (i : ℕ) × (slice_get found i ≡ Some c) × (slice_index list i ≡ n) × Contains found c
found_of at list found n c are here is =
    let place = place_of list n here in
    let low : place.0 < length found = omega (arith, are.count, place.1) in
    let got : slice_get found place.0 ≡ Some (get_or found place.0 c) = slice_get-get_or found place.0 c low in
    let one : get_or found place.0 c ≡ c =
    same_Some (get_or found place.0 c) c (sym (are.stand place.0 (get_or found place.0 c) got) ∙ ap at place.2 ∙ is) in
    (place.0, got ∙ ap Some one, place.2, (place.0, low, one))
