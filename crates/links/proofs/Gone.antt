-- Names that go, told by a test, and lists without what they are of.
use Rattle.std.proofs.Common.{◌≡◌, ℕ, zero, suc, ◌+◌, ◌<◌, ◌⊎◌, inl, inr, Bool, true, cond, nat_eq, eq-eqb, List, [], ◌∷◌, ◌++◌, length, get_or, take, sym, ap, ◌∙◌, subst, arith}
use Rattle.std.specs.Prelude.{Contains}
use Rattle.std.specs.List.{filter, list_any}
use Rattle.std.proofs.lemmas.Bool.{eqb-true, or_left, or_right}
use Rattle.std.proofs.lemmas.List.{take_more}
use Rattle.std.proofs.lemmas.List.Elements.{Contains-push, Contains-push_cases, Contains-append_left, filter-append}
use Rattle.std.proofs.lemmas.Map.Views.{Contains-from_any}
use Rattle.lists.proofs.Cases.{same_test, put_cases, put_old}
use Rattle.links.specs.Leaving.{goes, Tells}

-- one more name
pub tells_next : (has has' : ℕ → Bool) (names : List ℕ) (k x : ℕ) → k < length names → get_or names k 0 ≡ x → Tells has (take k names)
    → ((q : ℕ) → has' q ≡ cond (nat_eq x q) true (has q)) → Tells has' (take (k + 1) names)
tells_next has has' names k x low at tells up q =
    let is : take (k + 1) names ≡ take k names ++ x ∷ [] = take_more names k 0 low ∙ ap (λ y. take k names ++ y ∷ []) at in (
      (λ h. subst (λ (l : List ℕ). Contains l q) (sym is) (elim (put_cases (nat_eq x q) (has q) (sym (up q) ∙ h)) [
        | inl same ↦ subst (λ (y : ℕ). Contains (take k names ++ x ∷ []) y) (eqb-true x q same) (Contains-push (take k names) x)
        | inr old ↦ Contains-append_left (take k names) (x ∷ []) q ((tells q).0 old)
      ])),
      (λ here. up q ∙ elim (Contains-push_cases (take k names) x q (subst (λ (l : List ℕ). Contains l q) is here)) [
        | inl old ↦ put_old (nat_eq x q) (has q) ((tells q).1 old)
        | inr same ↦ ap (λ b. cond b true (has q)) (eq-eqb x q same)
      ]),
    )

-- ---- the names as a list

any_has : (q : ℕ) (xs : List ℕ) → Contains xs q → list_any (nat_eq q) xs ≡ true
any_has q [] h = absurd (omega (arith, h.1))
any_has q (x ∷ xs) (zero, low, e) = or_left (nat_eq q x) (list_any (nat_eq q) xs) (eq-eqb q x (sym e))
any_has q (x ∷ xs) (suc k, low, e) = or_right (nat_eq q x) (list_any (nat_eq q) xs) (any_has q xs (k, omega arith, e))

pub goes_tells : (gone : List ℕ) → Tells (goes gone) gone
goes_tells gone id = (
  (λ h. Contains-from_any {eq = nat_eq} (λ x y e. eqb-true x y e) id gone h),
  (λ here. any_has id gone here),
)

-- two tests of the same names are one
pub one_test : (f g : ℕ → Bool) (gone : List ℕ) → Tells f gone → Tells g gone → f ≡ g
one_test f g gone first second = λ i id. same_test (f id) (g id) (λ h. (second id).1 ((first id).0 h)) (λ h. (first id).1 ((second id).0 h)) i

-- ---- what passes of the first entries, one more
pub filter_more : {A : Type 0} (p : A → Bool) (xs : List A) (k : ℕ) (d : A) → k < length xs
    → filter p (take (k + 1) xs) ≡ filter p (take k xs) ++ cond (p (get_or xs k d)) (get_or xs k d ∷ []) []
filter_more p xs k d low = ap (filter p) (take_more xs k d low) ∙ filter-append p (take k xs) (get_or xs k d ∷ [])
