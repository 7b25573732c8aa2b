-- The first name of a list with a property, looked for one after another.
use Rattle.std.proofs.Common.{◌↔◌, ℕ, ◌+◌, ◌<◌, ◌≤◌, List, ◌∷◌, ◌++◌, length, take, take_all, drop, slice_index, Contains, Option, Some, None, inl, inr, sym, ap, ◌∙◌, subst}
use Rattle.std.proofs.lemmas.List.{drop_more, take_more, take-append-drop}
use Rattle.std.proofs.lemmas.List.Elements.{Contains-append_right, Contains-push_cases}
use Rattle.lists.proofs.Entries.{Contains-head}
use Rattle.graph_model.specs.Refusals.{IsFirst}
use Rattle.graph_model.proofs.FirstLemmas.{first_along}
use Rattle.levels.specs.Mining.{FindsFirst}

module _ (P : ℕ → Type 0) (ids : List ℕ) (at : ℕ) (none : (id : ℕ) → Contains (take at ids) id → P id → ⊥) where
  -- the next name has it
  pub first_here : at < length ids → P (slice_index ids at) → IsFirst (λ before id. P id) ids (slice_index ids at)
  first_here low has = record {
    before = take at ids;
    after = drop (at + 1) ids;
    cut = sym (take-append-drop at ids) ∙ ap (λ zs. take at ids ++ zs) (drop_more ids at 0 low);
    has = has;
    earlier = λ front rest other cut so.
        none other (subst (λ zs. Contains zs other) (sym cut) (Contains-append_right front (other ∷ rest) other (Contains-head other rest))) so;
  }

  -- the next name hasn't it
  pub none_here : at < length ids → (P (slice_index ids at) → ⊥) → (id : ℕ) → Contains (take (at + 1) ids) id → P id → ⊥
  none_here low lacks id here so =
      elim (Contains-push_cases (take at ids) (slice_index ids at) id (subst (λ zs. Contains zs id) (take_more ids at 0 low) here)) [
        | inl before ↦ none id before so
        | inr same ↦ lacks (subst P (sym same) so)
      ]

  -- there is no next name
  pub none_there : length ids ≤ at → (id : ℕ) → Contains ids id → P id → ⊥
  none_there all id here so = none id (subst (λ zs. Contains zs id) (sym (take_all at ids all)) here) so

-- other words for the property
pub finds_alike : (P Q : ℕ → Type 0) (ids : List ℕ) (found : Option ℕ) → ((id : ℕ) → P id ↔ Q id) → FindsFirst P ids found → FindsFirst Q ids found
finds_alike P Q ids None same none = λ id here so. none id here ((same id).1 so)
finds_alike P Q ids (Some id) same first =
    first_along (λ before n. P n) (λ before n. Q n) ids id (λ before n so. (same n).0 so) (λ before n so. (same n).1 so) first
