-- Keys of a set of places, and sizes of places.
use Rattle.std.proofs.Common.{◌≡◌, ◌⊎◌, ◌↔◌, ℕ, ◌+◌, ◌<◌, List, [], ◌∷◌, length, take, get_or, inl, inr, refl, sym, ap, ◌∙◌, subst, arith}
use Rattle.std.specs.Prelude.{Contains, sum_by}
use Rattle.std.specs.Ordering.{nat_cmp, match_ordering}
use Rattle.std.specs.declared.cmp.Ordering.{Ordering}
use Rattle.std.specs.declared.cmp.Ordering.TheVariants.{Less, Equal, Greater}
use Rattle.std.specs.BTreeSet.{insert_key}
use Rattle.std.proofs.lemmas.Cmp.{ranked}
use Rattle.std.proofs.lemmas.List.{take_more}
use Rattle.std.proofs.lemmas.List.Sums.{sum_by_push}
use Rattle.lists.proofs.Entries.{Contains-head, Contains-later, Contains-cases, Contains-one}

insert_case : (y k x : ℕ) (ys more : List ℕ) (o : Ordering) → o ≡ nat_cmp k y → (Contains more x ↔ (Contains ys x ⊎ (x ≡ k)))
    → Contains (match_ordering o (k ∷ y ∷ ys) (y ∷ ys) (y ∷ more)) x ↔ (Contains (y ∷ ys) x ⊎ (x ≡ k))
insert_case y k x ys more Less is rest = (
  λ here. elim (Contains-cases k x (y ∷ ys) here) [ inl same ↦ inr (sym same) | inr later ↦ inl later ],
  λ has. elim has [
    | inl before ↦ Contains-later k x (y ∷ ys) before
    | inr same ↦ subst (Contains (k ∷ y ∷ ys)) (sym same) (Contains-head k (y ∷ ys))
  ],
)
insert_case y k x ys more Equal is rest =
    let tie : k ≡ y = ranked k y Equal is in (
      λ here. inl here,
      λ has. elim has [ inl before ↦ before | inr same ↦ subst (Contains (y ∷ ys)) (sym (same ∙ tie)) (Contains-head y ys) ],
    )
insert_case y k x ys more Greater is rest = (
  λ here. elim (Contains-cases y x more here) [
    | inl same ↦ inl (subst (Contains (y ∷ ys)) same (Contains-head y ys))
    | inr later ↦ elim (rest.0 later) [ inl before ↦ inl (Contains-later y x ys before) | inr same ↦ inr same ]
  ],
  λ has. elim has [
    | inl before ↦ elim (Contains-cases y x ys before) [
      | inl same ↦ subst (Contains (y ∷ more)) same (Contains-head y more)
      | inr later ↦ Contains-later y x more (rest.1 (inl later))
    ]
    | inr same ↦ Contains-later y x more (rest.1 (inr same))
  ],
)

-- a set with one more key has that key and those that it had
pub insert_has : (keys : List ℕ) (k x : ℕ) → Contains (insert_key nat_cmp keys k) x ↔ (Contains keys x ⊎ (x ≡ k))
insert_has [] k x = (
  λ here. inr (sym (Contains-one k x here)),
  λ has. elim has [ inl none ↦ absurd (omega (arith, none.1)) | inr same ↦ subst (Contains (k ∷ [])) (sym same) (Contains-head k []) ],
)
insert_has (y ∷ ys) k x = insert_case y k x ys (insert_key nat_cmp ys k) (nat_cmp k y) refl (insert_has ys k x)

-- the total with one more entry
pub sum_next : (f : ℕ → ℕ) (xs : List ℕ) (k : ℕ) → k < length xs → sum_by f (take (k + 1) xs) ≡ sum_by f (take k xs) + f (get_or xs k 0)
sum_next f xs k low = ap (sum_by f) (take_more xs k 0 low) ∙ sum_by_push f (take k xs) (get_or xs k 0)
