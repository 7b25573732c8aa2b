-- Places taken out of a set by their names.
use Rattle.std.proofs.Common.{◌≡◌, ℕ, ◌+◌, ◌<◌, ◌↔◌, true, not, ◌&&◌, nat_eq, List, [], ◌∷◌, ◌++◌, take, length, slice_index, Contains, inl, inr, sym, ap, ◌∙◌, subst, ne_eqb, eq-eqb, true≢false}
use Rattle.std.proofs.lemmas.Bool.{and_parts, and_from}
use Rattle.std.proofs.lemmas.List.{take_more}
use Rattle.std.proofs.lemmas.List.Elements.{Contains-append_left, Contains-push, Contains-push_cases}
use Rattle.std.specs.Ordering.{nat_cmp}
use Rattle.std.specs.FinSet as set
use Rattle.lists.proofs.Distinct.{one_place}
use Rattle.lists.proofs.Entries.{none_in_empty}
use Rattle.lists.specs.Distinct.{AreDistinct}
use Rattle.bitset.specs.Sets.{contains-remove}

-- the places of so many of the names went out of a set, and no other place that has a name
pub record AreTaken (own names : List ℕ) (at : ℕ) (old new : set.FinSet nat_cmp) : Type 0 where
  pub less : (p : ℕ) → set.contains new p ≡ true → set.contains old p ≡ true
  pub left : (p : ℕ) → p < length own → set.contains old p ≡ true → (set.contains new p ≡ true) ↔ (Contains (take at names) (slice_index own p) → ⊥)

pub none_taken : (own names : List ℕ) (s : set.FinSet nat_cmp) → AreTaken own names 0 s s
none_taken own names s = record { less = λ p here. here; left = λ p low here. (λ _ in_none. none_in_empty (slice_index own p) in_none, λ _. here) }

module _ (own names : List ℕ) (at place : ℕ) (old mid new : set.FinSet nat_cmp) (once : AreDistinct own) (low : at < length names) (within : place < length own)
    (is : slice_index own place ≡ slice_index names at) (less : new ≡ set.remove mid place) (taken : AreTaken own names at old mid) where
  tells : (p : ℕ) → set.contains new p ≡ (not (nat_eq p place) && set.contains mid p)
  tells p = ap (λ s. set.contains s p) less ∙ contains-remove mid place p

  more : take (at + 1) names ≡ take at names ++ slice_index names at ∷ []
  more = take_more names at 0 low

  left_more : (p : ℕ) → p < length own → set.contains old p ≡ true → set.contains new p ≡ true → Contains (take (at + 1) names) (slice_index own p) → ⊥
  left_more p inside there here named =
      let both = and_parts (not (nat_eq p place)) (set.contains mid p) (sym (tells p) ∙ here) in
      elim (Contains-push_cases (take at names) (slice_index names at) (slice_index own p)
      (subst (λ (xs : List ℕ). Contains xs (slice_index own p)) more named)) [
        | inl earlier ↦ (taken.left p inside there).0 both.1 earlier
        | inr now ↦ true≢false (sym both.0 ∙ ap not (eq-eqb p place (one_place own p place 0 once inside within (sym now ∙ sym is))))
      ]

  here_more : (p : ℕ) → p < length own → set.contains old p ≡ true → (Contains (take (at + 1) names) (slice_index own p) → ⊥) → set.contains new p ≡ true
  here_more p inside there absent =
      tells p ∙ and_from (not (nat_eq p place)) (set.contains mid p)
      (ap not (ne_eqb p place (λ same. absent (subst (λ (xs : List ℕ). Contains xs (slice_index own p)) (sym more)
      (subst (Contains (take at names ++ slice_index names at ∷ [])) (sym is ∙ ap (slice_index own) (sym same))
      (Contains-push (take at names) (slice_index names at)))))))
      ((taken.left p inside there).1 (λ earlier. absent (subst (λ (xs : List ℕ). Contains xs (slice_index own p))
      (sym more) (Contains-append_left (take at names) (slice_index names at ∷ []) (slice_index own p) earlier))))

  pub more_taken : AreTaken own names (at + 1) old new
  more_taken = record {
    less = λ p here. taken.less p (and_parts (not (nat_eq p place)) (set.contains mid p) (sym (tells p) ∙ here)).1;
    left = λ p inside there. (left_more p inside there, here_more p inside there);
  }
