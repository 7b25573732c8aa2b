-- Which of two entries of a list stands first.
use Rattle.std.proofs.Common.{◌≡◌, ◌≢◌, ℕ, ◌+◌, ◌<◌, List, [], ◌∷◌, ◌++◌, length, take, drop, slice_index, Contains, inl, inr, sym, ap, ◌∙◌, subst}
use Rattle.std.proofs.lemmas.List.{append_assoc, drop_more, take_more, take-append-drop}
use Rattle.std.proofs.lemmas.List.Elements.{Contains-append_cases, Contains-append_right}
use Rattle.lists.proofs.Entries.{Contains-head, Contains-cases, Contains-splits, none_in_empty}
use Rattle.graphs.specs.Linearizations.{StandsBefore}

-- an entry that isn't among the first ones stands behind the next one, or is it
pub later_first : (ids : List ℕ) (at x y : ℕ) → at < length ids → slice_index ids at ≡ x → x ≢ y → Contains ids y → (Contains (take at ids) y → ⊥)
    → StandsBefore ids x y
later_first ids at x y low is other here early =
    let whole : ids ≡ take at ids ++ x ∷ drop (at + 1) ids =
    sym (take-append-drop at ids) ∙ ap (λ zs. take at ids ++ zs) (drop_more ids at 0 low ∙ ap (λ z. z ∷ drop (at + 1) ids) is) in
    elim (Contains-append_cases (take at ids) (x ∷ drop (at + 1) ids) y (subst (λ zs. Contains zs y) whole here)) [
      | inl first ↦ absurd (early first)
      | inr later ↦ elim (Contains-cases x y (drop (at + 1) ids) later) [
        | inl same ↦ absurd (other same)
        | inr behind ↦
            let cut = Contains-splits (drop (at + 1) ids) y behind in (
              take at ids ++ x ∷ cut.0,
              cut.1,
              whole ∙ ap (λ zs. take at ids ++ x ∷ zs) cut.2 ∙ sym (append_assoc (take at ids) (x ∷ cut.0) (y ∷ cut.1)),
              Contains-append_right (take at ids) (x ∷ cut.0) x (Contains-head x cut.0),
            )
      ]
    ]

-- nor among one more, which it isn't
pub not_yet : (ids : List ℕ) (at y : ℕ) → at < length ids → (slice_index ids at ≡ y → ⊥) → (Contains (take at ids) y → ⊥) → Contains (take (at + 1) ids) y → ⊥
not_yet ids at y low other early here =
    elim (Contains-append_cases (take at ids) (slice_index ids at ∷ []) y (subst (λ zs. Contains zs y) (take_more ids at 0 low) here)) [
      | inl first ↦ early first
      | inr later ↦ elim (Contains-cases (slice_index ids at) y [] later) [ inl same ↦ other same | inr none ↦ none_in_empty y none ]
    ]
