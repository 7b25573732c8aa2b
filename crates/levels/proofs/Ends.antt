-- Lists with one more entry at their end.
use Rattle.std.proofs.Common.{◌≡◌, ℕ, ◌<◌, List, [], ◌∷◌, ◌++◌, length, get_or, Contains, Some, inl, inr, ◌⊎◌, refl, sym, ap, ◌∙◌, subst₂, arith, length-append}
use Rattle.std.specs.Prelude.{slice_get, slice_index}
use Rattle.std.proofs.lemmas.Bool.{cases_eq}
use Rattle.std.proofs.lemmas.List.{get_or_append_left, get_or_push}
use Rattle.std.proofs.lemmas.Option.{none-some, same_Some, slice_get-get_or, slice_get_cases}
use Rattle.std.specs.List.{AllPairs}
use Rattle.cluster.specs.Clusters.{Cluster, AreApart}

-- the entry of a place
pub got : {X : Type 0} (xs : List X) (i : ℕ) (x : X) → slice_get xs i ≡ Some x → (i < length xs) × ((d : X) → get_or xs i d ≡ x)
got xs i x is = elim (slice_get_cases xs i).1 [
  | inl at ↦ (at.1, λ d. same_Some (get_or xs i d) x (sym (slice_get-get_or xs i d at.1) ∙ is))
  | inr past ↦ absurd (none-some x (sym past.1 ∙ is))
]

-- the last entry, and one of those before it
pub place_cases : (found : List Cluster) (c : Cluster) (i : ℕ) (d : Cluster) → slice_get (found ++ c ∷ []) i ≡ Some d
    → (slice_get found i ≡ Some d) ⊎ ((i ≡ length found) × (c ≡ d))
place_cases found c i d here =
    let one = got (found ++ c ∷ []) i d here in
    elim (cases_eq i (length found)) [
      | inl last ↦ inr (last, sym (get_or_push found c d i (sym last)) ∙ one.1 d)
      | inr other ↦
          let low : i < length found = omega (arith, one.0, length-append found (c ∷ []), other) in
          inl (slice_get-get_or found i d low ∙ ap Some (sym (get_or_append_left found (c ∷ []) d i low) ∙ one.1 d))
    ]

pub index_last : (list : List ℕ) (n i : ℕ) → i ≡ length list → slice_index (list ++ n ∷ []) i ≡ n
index_last list n i is = get_or_push list n 0 i (sym is)

pub index_before : (list : List ℕ) (n i : ℕ) → i < length list → slice_index (list ++ n ∷ []) i ≡ slice_index list i
index_before list n i low = get_or_append_left list (n ∷ []) 0 i low

-- of clusters that are apart, the last and one of those before it
pub pairs_last : (rest : List Cluster) (last c : Cluster) → AllPairs AreApart (rest ++ last ∷ []) → Contains rest c → AreApart c last
pairs_last rest last c pairs here =
    let one : get_or (rest ++ last ∷ []) here.0 c ≡ c = get_or_append_left rest (last ∷ []) c here.0 here.1 ∙ here.2 in
    let two : get_or (rest ++ last ∷ []) (length rest) c ≡ last = get_or_push rest last c (length rest) refl in
    subst₂ AreApart one two (pairs here.0 (length rest) c here.1 (omega (arith, length-append rest (last ∷ []))))
