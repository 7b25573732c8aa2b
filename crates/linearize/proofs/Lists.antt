-- Distinct lists, and sums that pick one entry.
use Rattle.std.proofs.Common.{◌≡◌, ℕ, inl, inr, true, cond, nat_eq, List, [], ◌∷◌, sum_by, ℤ, pos}
use Rattle.std.proofs.Common.{refl, sym, ap, ◌∙◌, subst, arith, eq-eqb, ne_eqb}
use Rattle.std.specs.Prelude.{Contains, ◌↔◌}
use Rattle.std.proofs.lemmas.Int.{ints}
use Rattle.std.proofs.lemmas.Bool.{cases_eq, false_from_ne_true}
use Rattle.std.proofs.lemmas.List.Sums.{sum_by-cons}
use Rattle.std.specs.Ordering.{nat_cmp}
use Rattle.std.specs.FinSet as fin
use Rattle.arithmetic.proofs.Sums.{total-pos}
use Rattle.bitset.specs.Members.{from_remove, to_remove}
use Rattle.lists.proofs.Rising.{distinct_rising}
use Rattle.lists.proofs.Entries.{Contains-head, Contains-later, Contains-cases, none_in_empty}
use Rattle.lists.specs.Distinct.{AreDistinct}
use Rattle.arithmetic.specs.Sums.{total}
use Rattle.bitset.specs.Places.{places, IsWithin}
use Rattle.bitset.specs.Sets.{IsRising-places, places-empty, same_members, contains-empty}
use Rattle.linearize.proofs.Sets.{total_remove}

pub distinct_places : (n : ℕ) (s : fin.FinSet nat_cmp) → AreDistinct (places n s)
distinct_places n s = distinct_rising (places n s) (IsRising-places n s)

-- ---- a sum that picks one entry
abbrev pub pick : ℕ → (ℕ → ℕ) → ℕ → ℕ
pick id f x = cond (nat_eq x id) (f x) 0

pub pick_out : (id : ℕ) (f : ℕ → ℕ) (xs : List ℕ) → (Contains xs id → ⊥) → sum_by (pick id f) xs ≡ 0
pick_out id f [] out = refl
pick_out id f (x ∷ xs) out =
    let first : cond (nat_eq x id) (f x) 0 ≡ 0 =
    ap (λ b. cond b (f x) 0) (ne_eqb x id (λ e. out (subst (λ (k : ℕ). Contains (x ∷ xs) k) e (Contains-head x xs)))) in
    let rest = pick_out id f xs (λ h. out (Contains-later x id xs h)) in
    omega (arith, sum_by-cons (λ y. cond (nat_eq y id) (f y) 0) x xs, rest, first)

pub pick_in : (id : ℕ) (f : ℕ → ℕ) (xs : List ℕ) → AreDistinct xs → Contains xs id → sum_by (pick id f) xs ≡ f id
pick_in id f [] d h = absurd (none_in_empty id h)
pick_in id f (x ∷ xs) d h = elim (cases_eq x id) [
  | inl same ↦
      let first : cond (nat_eq x id) (f x) 0 ≡ f id = ap (λ b. cond b (f x) 0) (eq-eqb x id same) ∙ ap f same in
      let rest : sum_by (λ y. cond (nat_eq y id) (f y) 0) xs ≡ 0 = pick_out id f xs (λ there. d.0 (subst (λ (k : ℕ). Contains xs k) (sym same) there)) in
      omega (arith, sum_by-cons (λ y. cond (nat_eq y id) (f y) 0) x xs, rest, first)
  | inr other ↦
      let first : cond (nat_eq x id) (f x) 0 ≡ 0 = ap (λ b. cond b (f x) 0) (ne_eqb x id other) in
      let rest : sum_by (λ y. cond (nat_eq y id) (f y) 0) xs ≡ f id =
      pick_in id f xs d.1 (elim (Contains-cases x id xs h) [ inl same ↦ absurd (other same) | inr later ↦ later ]) in
      omega (arith, sum_by-cons (λ y. cond (nat_eq y id) (f y) 0) x xs, rest, first)
]

-- ---- a sum over the members of a set in any order
pub total_any_order : (f : ℕ → ℤ) (n : ℕ) (xs : List ℕ) (s : fin.FinSet nat_cmp) → IsWithin n s → AreDistinct xs
    → ((k : ℕ) → Contains xs k ↔ (fin.contains s k ≡ true)) → total f xs ≡ total f (places n s)
total_any_order f n [] s within d exact =
    sym (ap (λ t. total f (places n t)) (same_members s fin.empty
    (λ q. false_from_ne_true _ (λ m. none_in_empty q ((exact q).1 m)) ∙ sym (contains-empty q))) ∙ ap (total f) (places-empty n))
total_any_order f n (x ∷ xs) s within d exact =
    let here : fin.contains s x ≡ true = (exact x).0 (Contains-head x xs) in
    let rest : total f xs ≡ total f (places n (fin.remove s x)) =
    total_any_order f n xs (fin.remove s x) (λ k m. within k (from_remove s x k m).1) d.1 (λ k. (
      λ h. to_remove s x k (λ e. d.0 (subst (λ (j : ℕ). Contains xs j) e h)) ((exact k).0 (Contains-later x k xs h)),
      λ m. elim (Contains-cases x k xs ((exact k).1 (from_remove s x k m).1)) [ inl same ↦ absurd ((from_remove s x k m).0 (sym same)) | inr later ↦ later ],
    )) in
    omega (arith, ints, rest, total_remove f n s x (within x here) here)

pub sum_any_order : (f : ℕ → ℕ) (n : ℕ) (xs : List ℕ) (s : fin.FinSet nat_cmp) → IsWithin n s → AreDistinct xs
    → ((k : ℕ) → Contains xs k ↔ (fin.contains s k ≡ true)) → sum_by f xs ≡ sum_by f (places n s)
sum_any_order f n xs s within d exact =
    omega (arith, ints, total_any_order (λ k. pos (f k)) n xs s within d exact, total-pos f xs, total-pos f (places n s))
