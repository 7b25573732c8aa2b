-- Clusters are cut out of main's rings, one after another, each into a ring of its own.
use Rattle.std.proofs.Common.{◌≡◌, ℕ, ◌+◌, ◌<◌, List, [], ◌∷◌, ◌++◌, get_or, take, Contains, Some, inl, inr, ◌⊎◌, ◌↔◌, sym, ap, ◌∙◌, subst, subst₂, arith, get_or-take, length-take}
use Rattle.std.specs.Prelude.{slice_get}
use Rattle.std.specs.List.{AllPairs}
use Rattle.std.proofs.lemmas.List.{take_more}
use Rattle.std.proofs.lemmas.List.Elements.{Contains-append_left, Contains-push, Contains-push_cases}
use Rattle.cluster.specs.Clusters.{Cluster, AreApart}
use Rattle.name_book.specs.Calls.{ArePartedOff}
use Rattle.levels.specs.Changes.{IsNamed as HasName}
use Rattle.levels.specs.Rings.{Ringed, AreNamedOnce, IsMarked, ShareMain}
use Rattle.levels.proofs.Ends.{got, pairs_last}

-- main's rings, where these clusters were cut out of them
abbrev pub AreCut : Ringed → List Cluster → Ringed → Type 0
AreCut old clusters new =
    (x y : ℕ) → ShareMain new x y
    ↔ ((ShareMain old x y × (HasName clusters x → ⊥) × (HasName clusters y → ⊥)) ⊎ AreNamedOnce clusters x y)

-- what cutting some clusters out of main's rings makes of the rings
pub record Cuts (clusters : List Cluster) (old new : Ringed) : Type 0 where
  pub names : new.book.names ≡ old.book.names
  pub main : AreCut old clusters new
  pub touched : (x : ℕ) → IsMarked new x ↔ IsMarked old x

-- one of some clusters, or of one more, has a name
named_cases : (front : List Cluster) (c : Cluster) (x : ℕ) → HasName (front ++ c ∷ []) x → HasName front x ⊎ Contains c.names x
named_cases front c x named = elim (Contains-push_cases front c named.0 named.1) [
  | inl before ↦ inl (named.0, before, named.2)
  | inr same ↦ inr (subst (λ (e : Cluster). Contains e.names x) (sym same) named.2)
]

named_front : (front : List Cluster) (c : Cluster) (x : ℕ) → HasName front x → HasName (front ++ c ∷ []) x
named_front front c x named = (named.0, Contains-append_left front (c ∷ []) named.0 named.1, named.2)

named_last : (front : List Cluster) (c : Cluster) (x : ℕ) → Contains c.names x → HasName (front ++ c ∷ []) x
named_last front c x here = (c, Contains-push front c, here)

pub cut_more : (old mid new : Ringed) (front : List Cluster) (c : Cluster) → AreCut old front mid → ((d : Cluster) → Contains front d → AreApart d c)
    → ArePartedOff c.names mid new → AreCut old (front ++ c ∷ []) new
cut_more old mid new front c so apart cut x y = (
  λ share. elim ((cut x y).0 share) [
    | inl away ↦ elim ((so x y).0 away.0) [
      | inl was ↦ inl (was.0, neither x was.1 away.1, neither y was.2 away.2)
      | inr once ↦ inr (once.0, Contains-append_left front (c ∷ []) once.0 once.1, once.2, once.3)
    ]
    | inr both ↦ inr (c, Contains-push front c, both.0, both.1)
  ],
  λ either. (cut x y).1 (elim either [
    | inl was ↦ inl (
      (so x y).1 (inl (was.0, λ named. was.1 (named_front front c x named), λ named. was.2 (named_front front c y named))),
      λ here. was.1 (named_last front c x here),
      λ here. was.2 (named_last front c y here),
    )
    | inr once ↦ elim (Contains-push_cases front c once.0 once.1) [
      | inl before ↦ inl (
        (so x y).1 (inr (once.0, before, once.2, once.3)),
        λ here. apart once.0 before x once.2 here,
        λ here. apart once.0 before y once.3 here,
      )
      | inr same ↦ inr (
        subst (λ (e : Cluster). Contains e.names x) (sym same) once.2,
        subst (λ (e : Cluster). Contains e.names y) (sym same) once.3,
      )
    ]
  ]),
)
  where
    neither : (z : ℕ) → (HasName front z → ⊥) → (Contains c.names z → ⊥) → HasName (front ++ c ∷ []) z → ⊥
    neither z none out named = elim (named_cases front c z named) [ inl before ↦ none before | inr here ↦ out here ]

-- ---- the clusters of the numbers of a list

pairs_taken : (n : ℕ) (cs : List Cluster) → AllPairs AreApart cs → AllPairs AreApart (take n cs)
pairs_taken n cs pairs i j d before low =
    let few = length-take n cs in
    let inside : j < n = omega (arith, low, few) in
    let one : get_or (take n cs) i d ≡ get_or cs i d = get_or-take n cs i d (omega (arith, before, inside)) in
    let two : get_or (take n cs) j d ≡ get_or cs j d = get_or-take n cs j d inside in
    subst₂ AreApart (sym one) (sym two) (pairs i j d before (omega (arith, low, few)))

module _ (cs : List Cluster) (i : ℕ) (c : Cluster) (is : slice_get cs i ≡ Some c) where
  one_more : take (i + 1) cs ≡ take i cs ++ c ∷ []
  one_more =
      let at = got cs i c is in
      take_more cs i c at.0 ∙ ap (λ (e : Cluster). take i cs ++ e ∷ []) (at.1 c)

  pub listed : Contains cs c
  listed = let at = got cs i c is in (i, at.0, at.1 c)

  -- the cluster of the next number is cut out
  pub cut_next : (old mid new : Ringed) → AllPairs AreApart cs → AreCut old (take i cs) mid → ArePartedOff c.names mid new → AreCut old (take (i + 1) cs) new
  cut_next old mid new pairs so cut =
      let apart : (d : Cluster) → Contains (take i cs) d → AreApart d c = λ d here.
      pairs_last (take i cs) c d (subst (AllPairs AreApart) one_more (pairs_taken (i + 1) cs pairs)) here in
      subst (λ (xs : List Cluster). AreCut old xs new) (sym one_more) (cut_more old mid new (take i cs) c so apart cut)
