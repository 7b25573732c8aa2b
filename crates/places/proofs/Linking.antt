-- Chains of pairs, one pair after the other.
use Rattle.std.proofs.Common.{◌≡◌, ◌≢◌, ℕ, ◌+◌, ◌-◌, ◌<◌, List, [], ◌∷◌, ◌++◌, length, inl, inr, refl, sym, ap, ◌∙◌, subst, arith, get_or, set, replicate}
use Rattle.std.proofs.lemmas.Bool.{cases_eq}
use Rattle.std.proofs.lemmas.List.{get_or-set_same, get_or-set_other, length-set, get_or_append_left, get_or_push, length_push, get_or-replicate, length-replicate}
use Rattle.places.specs.Chains.{pair_at, IsLast, AreChains}

-- chains of the first pairs
pub record AreLinked (pairs : List (ℕ × ℕ)) (n : ℕ) (last before : List ℕ) : Type 0 where
  pub sized : length before ≡ n
  pub ends : (place : ℕ) → place < length last → IsLast pairs place n (get_or last place 0)
  pub links : (k : ℕ) → k < n → IsLast pairs (pair_at pairs k).1 k (get_or before k 0)

nothing : (pairs : List (ℕ × ℕ)) (place last : ℕ) → last ≡ 0 → IsLast pairs place 0 last
nothing pairs place last e = record { below = omega arith; into = λ h. absurd (omega arith); later = λ k a b. absurd (omega arith) }

pub none_linked : (pairs : List (ℕ × ℕ)) (count : ℕ) → AreLinked pairs 0 (replicate count 0) []
none_linked pairs count = record {
  sized = refl;
  ends = λ place in'. nothing pairs place _ (get_or-replicate count place 0 0 (subst (λ n. place < n) (length-replicate {A = ℕ} count 0) in'));
  links = λ k h. absurd (omega arith);
}

here : (pairs : List (ℕ × ℕ)) (n child : ℕ) → (pair_at pairs n).1 ≡ child → IsLast pairs child (n + 1) (n + 1)
here pairs n child e = record {
  below = omega arith;
  into = λ h. let same : (n + 1) - 1 ≡ n = omega arith in ap (λ k. (pair_at pairs k).1) same ∙ e;
  later = λ k a b. absurd (omega arith);
}

kept : (pairs : List (ℕ × ℕ)) (n child place last : ℕ) → (pair_at pairs n).1 ≡ child
    → place ≢ child → IsLast pairs place n last → IsLast pairs place (n + 1) last
kept pairs n child place last e other h = record {
  below = (let b = h.below in omega arith);
  into = h.into;
  later =
      λ k a b.
      elim (cases_eq k n) [
        | inl same ↦ (λ into. other (sym into ∙ ap (λ x. (pair_at pairs x).1) same ∙ e))
        | inr less ↦ h.later k a (omega arith)
      ];
}

pub one_linked : (pairs : List (ℕ × ℕ)) (n : ℕ) (last before : List ℕ) (child : ℕ)
    → AreLinked pairs n last before → (pair_at pairs n).1 ≡ child → child < length last
    → AreLinked pairs (n + 1) (set last child (n + 1)) (before ++ (get_or last child 0 ∷ []))
one_linked pairs n last before child h e in' = record {
  sized = (let s = h.sized in let l = length_push before (get_or last child 0) in omega arith);
  ends =
      λ place k.
      elim (cases_eq place child) [
        | inl same ↦
            subst (λ x. IsLast pairs x (n + 1) (get_or (set last child (n + 1)) x 0)) (sym same)
            (subst (λ v. IsLast pairs child (n + 1) v) (sym (get_or-set_same last child (n + 1) 0 in')) (here pairs n child e))
        | inr other ↦
            subst (λ v. IsLast pairs place (n + 1) v) (sym (get_or-set_other last child place (n + 1) 0 other))
            (kept pairs n child place _ e other (h.ends place (let s = length-set last child (n + 1) in omega arith)))
      ];
  links =
      λ k less.
      let s = h.sized in
      elim (cases_eq k n) [
        | inl same ↦
            subst (λ x. IsLast pairs (pair_at pairs x).1 x (get_or (before ++ (get_or last child 0 ∷ [])) x 0)) (sym same)
            (subst (λ v. IsLast pairs (pair_at pairs n).1 n v) (sym (get_or_push before (get_or last child 0) 0 n s))
            (subst (λ x. IsLast pairs x n (get_or last child 0)) (sym e) (h.ends child in')))
        | inr other ↦
            subst (λ v. IsLast pairs (pair_at pairs k).1 k v)
            (sym (get_or_append_left before (get_or last child 0 ∷ []) 0 k (omega arith))) (h.links k (omega arith))
      ];
}

pub all_linked : (pairs : List (ℕ × ℕ)) (n : ℕ) (last before : List ℕ) → AreLinked pairs n last before → n ≡ length pairs → AreChains pairs last before
all_linked pairs n last before h e = record {
  sized = h.sized ∙ e;
  ends = λ place k. subst (λ m. IsLast pairs place m (get_or last place 0)) e (h.ends place k);
  links = λ k less. h.links k (omega arith);
}
