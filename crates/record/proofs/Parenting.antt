-- Pairs of names and their covering parents, one after another.
use Rattle.std.proofs.Common.{◌≡◌, ◌↔◌, ◌⊎◌, ℕ, ◌++◌, List, [], ◌∷◌, inl, inr, sym, ap, ap₂, ◌∙◌, subst}
use Rattle.std.specs.Prelude.{Contains}
use Rattle.std.proofs.lemmas.List.{append-nil}
use Rattle.std.proofs.lemmas.List.Elements.{Contains-append_left, Contains-append_right, Contains-push_cases}
use Rattle.lists.proofs.Entries.{Contains-head, none_in_empty}
use Rattle.graphs.specs.Closures.{Closure, IsCover}
use Rattle.record.specs.Parents.{AddsParents, ArePairsAbove}

abbrev pub AreSoFar : ℕ → List (ℕ × ℕ) → List (ℕ × ℕ) → List ℕ → Type 0
AreSoFar id old new parents = (a d : ℕ) → Contains {X = ℕ × ℕ} new (a, d) ↔ (Contains {X = ℕ × ℕ} old (a, d) ⊎ ((d ≡ id) × Contains parents a))

pub none_so_far : (id : ℕ) (pairs : List (ℕ × ℕ)) → AreSoFar id pairs pairs []
none_so_far id pairs a d = ((λ here. inl here), (λ one. elim one [ inl here ↦ here | inr (e, none) ↦ absurd (none_in_empty a none) ]))

pub one_more : (id : ℕ) (old mid new : List (ℕ × ℕ)) (parents : List ℕ) (p : ℕ) → AreSoFar id old mid parents → new ≡ mid ++ (p, id) ∷ []
    → AreSoFar id old new (parents ++ p ∷ [])
one_more id old mid new parents p so is a d = (
  (λ here. elim (Contains-push_cases mid (p, id) (a, d) (subst (λ (xs : List (ℕ × ℕ)). Contains {X = ℕ × ℕ} xs (a, d)) is here)) [
    | inl before ↦ elim ((so a d).0 before) [
      | inl was ↦ inl was
      | inr (e, above) ↦ inr (e, Contains-append_left parents (p ∷ []) a above)
    ]
    | inr same ↦ inr (
      sym (ap (λ (x : ℕ × ℕ). x.1) same),
      subst (λ (x : ℕ). Contains (parents ++ p ∷ []) x) (ap (λ (x : ℕ × ℕ). x.0) same) (Contains-append_right parents (p ∷ []) p (Contains-head p [])),
    )
  ]),
  (λ one. subst (λ (xs : List (ℕ × ℕ)). Contains {X = ℕ × ℕ} xs (a, d)) (sym is) (back one)),
)
  where
    last : (x : ℕ × ℕ) → x ≡ (p, id) → Contains {X = ℕ × ℕ} (mid ++ (p, id) ∷ []) x
    last x e = subst (λ (y : ℕ × ℕ). Contains {X = ℕ × ℕ} (mid ++ (p, id) ∷ []) y) (sym e) (Contains-append_right mid ((p, id) ∷ []) (p, id) (Contains-head (p, id) []))

    back : Contains {X = ℕ × ℕ} old (a, d) ⊎ ((d ≡ id) × Contains (parents ++ p ∷ []) a) → Contains {X = ℕ × ℕ} (mid ++ (p, id) ∷ []) (a, d)
    back (inl was) = Contains-append_left mid ((p, id) ∷ []) (a, d) ((so a d).1 (inl was))
    back (inr (e, above)) = elim (Contains-push_cases parents p a above) [
      | inl before ↦ Contains-append_left mid ((p, id) ∷ []) (a, d) ((so a d).1 (inr (e, before)))
      | inr same ↦ last (a, d) (ap₂ (λ (x y : ℕ). (x, y)) (sym same) e)
    ]

pub all_so_far : (g : Closure) (id : ℕ) (old new : List (ℕ × ℕ)) (parents left : List ℕ)
    → ((a : ℕ) → Contains (parents ++ left) a ↔ IsCover g a id) → left ≡ [] → AreSoFar id old new parents → AddsParents g id old new
all_so_far g id old new parents left all none so a d = (
  (λ here. elim ((so a d).0 here) [
    | inl was ↦ inl was
    | inr (e, above) ↦ inr (e, subst (λ (x : ℕ). IsCover g a x) (sym e) ((all a).0 (Contains-append_left parents left a above)))
  ]),
  (λ one. elim one [
    | inl was ↦ (so a d).1 (inl was)
    | inr (e, cover) ↦ (so a d).1 (inr (
      e,
      subst (λ (xs : List ℕ). Contains xs a) (ap (λ (xs : List ℕ). parents ++ xs) none ∙ append-nil parents) ((all a).1 (subst (λ (x : ℕ). IsCover g a x) e cover)),
    ))
  ]),
)

pub no_pairs : (g : Closure) (pairs : List (ℕ × ℕ)) → pairs ≡ [] → ArePairsAbove g [] pairs
no_pairs g pairs none a d = (
  (λ here. absurd (none_in_empty (a, d) (subst (λ (xs : List (ℕ × ℕ)). Contains {X = ℕ × ℕ} xs (a, d)) none here))),
  (λ both. absurd (none_in_empty d both.0)),
)

pub pairs_more : (g : Closure) (names more : List ℕ) (id : ℕ) (old new : List (ℕ × ℕ)) → ArePairsAbove g names old → AddsParents g id old new
    → more ≡ names ++ id ∷ [] → ArePairsAbove g more new
pairs_more g names more id old new are adds is a d = (
  (λ here. elim ((adds a d).0 here) [
    | inl was ↦ let both = (are a d).0 was in (subst (λ (xs : List ℕ). Contains xs d) (sym is) (Contains-append_left names (id ∷ []) d both.0), both.1)
    | inr (e, cover) ↦ (
      subst (λ (xs : List ℕ). Contains xs d) (sym is)
          (subst (λ (x : ℕ). Contains (names ++ id ∷ []) x) (sym e) (Contains-append_right names (id ∷ []) id (Contains-head id []))),
      cover,
    )
  ]),
  (λ both. elim (Contains-push_cases names id d (subst (λ (xs : List ℕ). Contains xs d) is both.0)) [
    | inl before ↦ (adds a d).1 (inl ((are a d).1 (before, both.1)))
    | inr same ↦ (adds a d).1 (inr (sym same, both.1))
  ]),
)
