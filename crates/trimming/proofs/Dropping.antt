-- Names of places that aren't kept.
use Rattle.std.proofs.Common.{◌≡◌, ◌↔◌, ℕ, ◌+◌, ◌<◌, ◌≤◌, Bool, true, false, cond, eqb, List, [], ◌∷◌, ◌++◌, length, get_or, inl, inr, sym, ap, ◌∙◌, subst, arith, true≢false, ne_eqb}
use Rattle.std.specs.Prelude.{Contains}
use Rattle.std.specs.List.Sorted.{IsPermutation, IsNonDecreasing}
use Rattle.std.proofs.lemmas.Bool.{cases_eq}
use Rattle.std.proofs.lemmas.List.Sorted.{Contains-permutation, IsPermutation-sym}
use Rattle.std.proofs.lemmas.List.Elements.{Contains-append_left, Contains-push, Contains-push_cases}
use Rattle.std.proofs.lemmas.Map.Keys.{IsDistinct-from_apart, IsStrictlyIncreasing-from_distinct}
use Rattle.lists.specs.Distinct.{AreDistinct}
use Rattle.lists.proofs.Distinct.{distinct_push, places_apart}
use Rattle.graphs.specs.Graphs.{Lists}
use Rattle.graphs.specs.Certificates.{Txs}
use Rattle.links.specs.Kept.{names_of}
use Rattle.links.specs.Walkers.{mark_at}
use Rattle.trimming.specs.Nets.{name_at}
use Rattle.trimming.specs.Counts.{IsUnkept}
use Rattle.trimming.proofs.Netting.{distinct_moved, names_apart}

-- the name of one of the first places that aren't kept
abbrev pub IsEarly : Txs → List Bool → ℕ → ℕ → Type 0
IsEarly txs kept k id = (p : ℕ) × (p < k) × (mark_at kept p ≡ false) × (name_at txs p ≡ id)

module _ (txs : Txs) (kept : List Bool) (once : AreDistinct (names_of txs)) (k : ℕ) (low : k < length txs) where
  -- no earlier place has this name
  early_apart : (ids : List ℕ) → ((id : ℕ) → Contains ids id ↔ IsEarly txs kept k id) → Contains ids (name_at txs k) → ⊥
  early_apart ids exact here =
      let early = (exact (name_at txs k)).0 here in names_apart txs once early.0 k early.1 low early.3

  pub early_once : (ids new : List ℕ) (b : Bool) → AreDistinct ids → ((id : ℕ) → Contains ids id ↔ IsEarly txs kept k id)
      → new ≡ cond b ids (ids ++ name_at txs k ∷ []) → AreDistinct new
  early_once ids new true distinct exact e = subst AreDistinct (sym e) distinct
  early_once ids new false distinct exact e = subst AreDistinct (sym e) (distinct_push ids (name_at txs k) distinct (early_apart ids exact))

  pub early_next : (ids new : List ℕ) (b : Bool) → b ≡ mark_at kept k → ((id : ℕ) → Contains ids id ↔ IsEarly txs kept k id)
      → new ≡ cond b ids (ids ++ name_at txs k ∷ []) → (id : ℕ) → Contains new id ↔ IsEarly txs kept (k + 1) id
  early_next ids new true is exact e id = (
    λ here. let early = (exact id).0 (subst (λ (l : List ℕ). Contains l id) e here) in (early.0, omega (arith, early.1), early.2, early.3),
    λ early. subst (λ (l : List ℕ). Contains l id) (sym e) (elim (cases_eq early.0 k) [
      | inl same ↦ absurd (true≢false (is ∙ ap (mark_at kept) (sym same) ∙ early.2))
      | inr other ↦ (exact id).1 (early.0, omega (arith, early.1, other), early.2, early.3)
    ]),
  )
  early_next ids new false is exact e id = (
    λ here. elim (Contains-push_cases ids (name_at txs k) id (subst (λ (l : List ℕ). Contains l id) e here)) [
      | inl before ↦ let early = (exact id).0 before in (early.0, omega (arith, early.1), early.2, early.3)
      | inr same ↦ (k, omega arith, sym is, same)
    ],
    λ early. subst (λ (l : List ℕ). Contains l id) (sym e) (elim (cases_eq early.0 k) [
      | inl same ↦ subst (Contains (ids ++ name_at txs k ∷ [])) (ap (name_at txs) (sym same) ∙ early.3) (Contains-push ids (name_at txs k))
      | inr other ↦ Contains-append_left ids (name_at txs k ∷ []) id ((exact id).1 (early.0, omega (arith, early.1, other), early.2, early.3))
    ]),
  )

-- sorted, they rise
pub unkept_rise : (txs : Txs) (kept : List Bool) (k : ℕ) (ids sorted : List ℕ) → AreDistinct ids → ((id : ℕ) → Contains ids id ↔ IsEarly txs kept k id)
    → length txs ≤ k → k ≤ length txs → IsPermutation ids sorted → IsNonDecreasing sorted → Lists (IsUnkept txs kept) sorted
unkept_rise txs kept k ids sorted once exact past low moved rises = record {
  rising = IsStrictlyIncreasing-from_distinct sorted rises
      (IsDistinct-from_apart eqb sorted (λ i j d before below. ne_eqb (get_or sorted i d) (get_or sorted j d)
      (λ e. places_apart sorted i j d (distinct_moved ids sorted moved once) before below e)));
  exact = λ id. (
    λ here.
        let early = (exact id).0 (Contains-permutation sorted ids id (IsPermutation-sym ids sorted moved) here) in
        (early.0, omega (arith, early.1, low), early.2, early.3),
    λ is. Contains-permutation ids sorted id moved ((exact id).1 (is.0, omega (arith, is.1, past), is.2, is.3)),
  );
}
