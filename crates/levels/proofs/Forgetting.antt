-- Names go out of the rings, one after another.
use Rattle.std.proofs.Common.{◌≡◌, ◌≢◌, ℕ, ◌+◌, ◌<◌, List, [], ◌∷◌, ◌++◌, length, slice_index_or, take, Contains, Option, Some, None, is_some, Bool, true, false, not, inl, inr, ◌⊎◌, ◌↔◌, refl, sym, ap, ◌∙◌, subst, true≢false}
use Rattle.std.proofs.lemmas.List.{take_more}
use Rattle.std.proofs.lemmas.List.Elements.{Contains-append_left, Contains-get_or, Contains-push, Contains-push_cases}
use Rattle.std.specs.FinMap as finmap
use Rattle.lists.specs.Distinct.{AreDistinct}
use Rattle.lists.proofs.Distinct.{repeated}
use Rattle.name_book.specs.Calls.{Drops}
use Rattle.levels.specs.Rings.{Forgets, Ringed}
use Rattle.levels.specs.Views.{Numbers}
use Rattle.levels.proofs.Righting.{AreLost}

-- other words for the names that go
pub forgets_alike : (These Those : ℕ → Type 0) (old new : Ringed) → ((x : ℕ) → These x ↔ Those x) → Forgets These old new → Forgets Those old new
forgets_alike These Those old new same forgets = record {
  names = λ x. (
    λ named. let was = (forgets.names x).0 named in (was.0, λ here. was.1 ((same x).1 here)),
    λ both. (forgets.names x).1 (both.0, λ here. both.1 ((same x).0 here)),
  );
  main = λ x y. (
    λ share. let was = (forgets.main x y).0 share in (was.0, λ here. was.1 ((same x).1 here), λ here. was.2 ((same y).1 here)),
    λ both. (forgets.main x y).1 (both.0, λ here. both.1 ((same x).0 here), λ here. both.2 ((same y).0 here)),
  );
  touched = λ x. (
    λ marked. let was = (forgets.touched x).0 marked in (was.0, λ here. was.1 ((same x).1 here)),
    λ both. (forgets.touched x).1 (both.0, λ here. both.1 ((same x).0 here)),
  );
}

-- one name more
pub forgets_one : (These : ℕ → Type 0) (id : ℕ) (old mid new : Ringed) → Forgets These old mid → Drops id mid new
    → Forgets (λ x. These x ⊎ (x ≡ id)) old new
forgets_one These id old mid new so drops = record {
  names = λ x. (
    λ named. let last = (drops.names x).0 named in let was = (so.names x).0 last.0 in (was.0, neither x was.1 last.1),
    λ both. (drops.names x).1 ((so.names x).1 (both.0, λ here. both.1 (inl here)), λ same. both.1 (inr same)),
  );
  main = λ x y. (
    λ share.
        let last = (drops.main x y).0 share in
        let was = (so.main x y).0 last.0 in
        (was.0, neither x was.1 last.1, neither y was.2 last.2),
    λ both. (drops.main x y).1 (
      (so.main x y).1 (both.0, λ here. both.1 (inl here), λ here. both.2 (inl here)),
      λ same. both.1 (inr same),
      λ same. both.2 (inr same),
    ),
  );
  touched = λ x. (
    λ marked. let last = (drops.touched x).0 marked in let was = (so.touched x).0 last.0 in (was.0, neither x was.1 last.1),
    λ both. (drops.touched x).1 ((so.touched x).1 (both.0, λ here. both.1 (inl here)), λ same. both.1 (inr same)),
  );
}
  where
    neither : (x : ℕ) → (These x → ⊥) → (x ≢ id) → These x ⊎ (x ≡ id) → ⊥
    neither x stays other either = elim either [ inl here ↦ stays here | inr same ↦ other same ]

-- whether main has a name, as a test of its number tells
pub lacks_number : (o p : Option ℕ) (b : Bool) → is_some o ≡ not b → b ≡ true → o ≡ p → p ≡ None
lacks_number None p b is holds same = sym same
lacks_number (Some n) p b is holds same = absurd (true≢false (is ∙ ap not holds))

pub has_number : (o p : Option ℕ) (b : Bool) → is_some o ≡ not b → b ≡ false → o ≡ p → p ≢ None
has_number o p b is shut same none = true≢false (sym (is ∙ ap not shut) ∙ ap is_some (same ∙ none))

-- ---- the names of a list

module _ (ids : List ℕ) (i : ℕ) (low : i < length ids) where
  abbrev next : ℕ
  next = slice_index_or ids i 0

  more : take (i + 1) ids ≡ take i ids ++ next ∷ []
  more = take_more ids i 0 low

  pub in_list : Contains ids next
  in_list = Contains-get_or ids i 0 low

  pub in_more : (x : ℕ) → (Contains (take i ids) x ⊎ (x ≡ next)) ↔ Contains (take (i + 1) ids) x
  in_more x = (
    λ either. subst (λ (xs : List ℕ). Contains xs x) (sym more) (elim either [
      | inl before ↦ Contains-append_left (take i ids) (next ∷ []) x before
      | inr same ↦ subst (Contains (take i ids ++ next ∷ [])) (sym same) (Contains-push (take i ids) next)
    ]),
    λ here. elim (Contains-push_cases (take i ids) next x (subst (λ (xs : List ℕ). Contains xs x) more here)) [
      | inl before ↦ inl before
      | inr same ↦ inr (sym same)
    ],
  )

  -- the next name isn't among those before it
  pub not_before : AreDistinct ids → Contains (take i ids) next → ⊥
  not_before once before = repeated ids i next 0 low refl before once

  -- all of them go
  pub forgets_next : (old mid new : Ringed) → Forgets (Contains (take i ids)) old mid → Drops next mid new → Forgets (Contains (take (i + 1) ids)) old new
  forgets_next old mid new so drops =
      forgets_alike (λ x. Contains (take i ids) x ⊎ (x ≡ next)) (Contains (take (i + 1) ids)) old new in_more
      (forgets_one (Contains (take i ids)) next old mid new so drops)

  -- those go that main hasn't
  module _ (main : Numbers) (old mid : Ringed) (so : Forgets (AreLost (take i ids) main) old mid) where
    pub forgets_lost : (new : Ringed) → finmap.get main next ≡ None → Drops next mid new → Forgets (AreLost (take (i + 1) ids) main) old new
    forgets_lost new lacks drops =
        forgets_alike (λ x. AreLost (take i ids) main x ⊎ (x ≡ next)) (AreLost (take (i + 1) ids) main) old new
        (λ x. (
          λ either. elim either [
            | inl before ↦ ((in_more x).0 (inl before.0), before.1)
            | inr same ↦ ((in_more x).0 (inr same), subst (λ k. finmap.get main k ≡ None) (sym same) lacks)
          ],
          λ lost. elim ((in_more x).1 lost.0) [ inl before ↦ inl (before, lost.1) | inr same ↦ inr same ],
        ))
        (forgets_one (AreLost (take i ids) main) next old mid new so drops)

    pub forgets_kept : finmap.get main next ≢ None → Forgets (AreLost (take (i + 1) ids) main) old mid
    forgets_kept has =
        forgets_alike (AreLost (take i ids) main) (AreLost (take (i + 1) ids) main) old mid
        (λ x. (
          λ lost. ((in_more x).0 (inl lost.0), lost.1),
          λ lost. elim ((in_more x).1 lost.0) [
            | inl before ↦ (before, lost.1)
            | inr same ↦ absurd (has (subst (λ k. finmap.get main k ≡ None) same lost.1))
          ],
        ))
        so
