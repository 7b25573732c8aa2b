-- Pairs, each once.
use Rattle.std.proofs.Common.{◌≡◌, ℕ, ◌+◌, ◌<◌, List, [], ◌∷◌, ◌++◌, length, sym, ap, ◌∙◌, subst, inl, inr, ◌⊎◌, cond, get_or, take, Bool, true, false, true≢false}
use Rattle.std.specs.Prelude.{Contains, ◌↔◌}
use Rattle.std.proofs.lemmas.List.{take_more}
use Rattle.std.proofs.lemmas.List.Elements.{Contains-push, Contains-append_left, Contains-push_cases}
use Rattle.lists.proofs.Distinct.{distinct_push}
use Rattle.lists.proofs.Cases.{put_cases, put_old}
use Rattle.lists.specs.Pairs.{same_pair}
use Rattle.lists.proofs.Pairs.{same_pair_is, pair_is_same}
use Rattle.links.specs.Pairs.{ListsSet, HasMore}

-- a new pair
pub set_more : (has has' : ℕ × ℕ → Bool) (list : List (ℕ × ℕ)) (x : ℕ × ℕ) → ListsSet has list → has x ≡ false
    → ((q : ℕ × ℕ) → has' q ≡ cond (same_pair x q) true (has q)) → ListsSet has' (list ++ x ∷ []) × HasMore list (list ++ x ∷ []) x
set_more has has' list x s fresh up =
    let more : HasMore list (list ++ x ∷ []) x = λ q. (
      (λ here. Contains-push_cases list x q here),
      (λ either. elim either [
        | inl old ↦ Contains-append_left list (x ∷ []) q old
        | inr same ↦ subst (λ (y : ℕ × ℕ). Contains (list ++ x ∷ []) y) same (Contains-push list x)
      ]),
    ) in (
      record {
        once = distinct_push list x s.once (λ there. true≢false (sym ((s.exact x).1 there) ∙ fresh));
        exact = λ q. (
          (λ h. (more q).1 (elim (put_cases (same_pair x q) (has q) (sym (up q) ∙ h)) [
            | inl same ↦ inr (same_pair_is x q same)
            | inr old ↦ inl ((s.exact q).0 old)
          ])),
          (λ here. up q ∙ elim ((more q).0 here) [
            | inl old ↦ put_old (same_pair x q) (has q) ((s.exact q).1 old)
            | inr same ↦ ap (λ b. cond b true (has q)) (pair_is_same x q same)
          ]),
        );
      },
      more,
    )

-- a pair that was there
pub set_again : (has has' : ℕ × ℕ → Bool) (list : List (ℕ × ℕ)) (x : ℕ × ℕ) → ListsSet has list → has x ≡ true
    → ((q : ℕ × ℕ) → has' q ≡ cond (same_pair x q) true (has q)) → ListsSet has' list × HasMore list list x
set_again has has' list x s old up =
    let here : Contains list x = (s.exact x).0 old in (
      record {
        once = s.once;
        exact = λ q. (
          (λ h. elim (put_cases (same_pair x q) (has q) (sym (up q) ∙ h)) [
            | inl same ↦ subst (λ (y : ℕ × ℕ). Contains list y) (same_pair_is x q same) here
            | inr was ↦ (s.exact q).0 was
          ]),
          (λ there. up q ∙ put_old (same_pair x q) (has q) ((s.exact q).1 there)),
        );
      },
      λ q. (
        (λ there. inl there),
        (λ either. elim either [
          | inl there ↦ there
          | inr same ↦ subst (λ (y : ℕ × ℕ). Contains list y) same here
        ]),
      ),
    )

-- the first pairs of a list, one more
pub first_more : (pairs old new : List (ℕ × ℕ)) (k : ℕ) → k < length pairs
    → ((q : ℕ × ℕ) → Contains old q ↔ Contains (take k pairs) q) → HasMore old new (get_or pairs k (0, 0))
    → (q : ℕ × ℕ) → Contains new q ↔ Contains (take (k + 1) pairs) q
first_more pairs old new k low same more q =
    let x = get_or pairs k (0, 0) in
    let is : take (k + 1) pairs ≡ take k pairs ++ x ∷ [] = take_more pairs k (0, 0) low in (
      (λ here. subst (λ (l : List (ℕ × ℕ)). Contains l q) (sym is) (elim ((more q).0 here) [
        | inl old ↦ Contains-append_left (take k pairs) (x ∷ []) q ((same q).0 old)
        | inr is ↦ subst (λ (y : ℕ × ℕ). Contains (take k pairs ++ x ∷ []) y) is (Contains-push (take k pairs) x)
      ])),
      (λ here. (more q).1 (elim (Contains-push_cases (take k pairs) x q (subst (λ (l : List (ℕ × ℕ)). Contains l q) is here)) [
        | inl old ↦ inl ((same q).1 old)
        | inr is ↦ inr is
      ])),
    )
