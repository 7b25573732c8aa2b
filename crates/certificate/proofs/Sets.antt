-- Sets of pairs of numbers.
use Rattle.std.proofs.Common.{◌≡◌, ℕ, zero, suc, ◌+◌, ◌<◌, List, [], ◌∷◌, ◌++◌, length, refl, sym, ap, inl, inr, ◌⊎◌, cond, ◌∙◌, subst, arith, get_or, take, Bool, true, false}
use Rattle.std.specs.Prelude.{Contains, ◌&&◌, not}
use Rattle.std.specs.List.{list_any}
use Rattle.std.proofs.lemmas.Map.Views.{Contains-from_any}
use Rattle.std.proofs.lemmas.Bool.{or_left, or_right, true≢false}
use Rattle.std.proofs.lemmas.List.{take_more}
use Rattle.std.proofs.lemmas.List.Elements.{Contains-push, Contains-append_left, Contains-push_cases}
use Rattle.lists.proofs.Cases.{same_test, false_from_not, true_from_not, put_cases, put_old}
use Rattle.lists.proofs.Distinct.{distinct_push, repeated}
use Rattle.lists.specs.Distinct.{AreDistinct}
use Rattle.lists.specs.Pairs.{same_pair}
use Rattle.lists.proofs.Pairs.{same_pair_is, pair_is_same}

pub any_contains : (q : ℕ × ℕ) (xs : List (ℕ × ℕ)) → list_any (same_pair q) xs ≡ true → Contains xs q
any_contains q xs h = Contains-from_any {eq = same_pair} same_pair_is q xs h

pub contains_any : (q : ℕ × ℕ) (xs : List (ℕ × ℕ)) → Contains xs q → list_any (same_pair q) xs ≡ true
contains_any q [] (k, in', e) = absurd (omega arith)
contains_any q (x ∷ xs) (zero, in', e) = or_left (same_pair q x) (list_any (same_pair q) xs) (pair_is_same q x (sym e))
contains_any q (x ∷ xs) (suc k, in', e) = or_right (same_pair q x) (list_any (same_pair q) xs) (contains_any q xs (k, omega arith, e))

-- what a set holds is what stands in a list
pub record Holds (has : ℕ × ℕ → Bool) (xs : List (ℕ × ℕ)) : Type 0 where
  pub exact : (q : ℕ × ℕ) → has q ≡ list_any (same_pair q) xs

pub held : (has : ℕ × ℕ → Bool) (xs : List (ℕ × ℕ)) (q : ℕ × ℕ) → Holds has xs → has q ≡ true → Contains xs q
held has xs q h e = any_contains q xs (sym (h.exact q) ∙ e)

pub holding : (has : ℕ × ℕ → Bool) (xs : List (ℕ × ℕ)) (q : ℕ × ℕ) → Holds has xs → Contains xs q → has q ≡ true
holding has xs q h e = h.exact q ∙ contains_any q xs e

pub holds_more : (has has' : ℕ × ℕ → Bool) (xs : List (ℕ × ℕ)) (x : ℕ × ℕ) → Holds has xs
    → ((q : ℕ × ℕ) → has' q ≡ cond (same_pair x q) true (has q)) → Holds has' (xs ++ (x ∷ []))
holds_more has has' xs x h up = record {
  exact =
      λ q.
      same_test (has' q) (list_any (same_pair q) (xs ++ (x ∷ [])))
      (λ t.
      contains_any q (xs ++ (x ∷ []))
      (elim (put_cases (same_pair x q) (has q) (sym (up q) ∙ t)) [
        | inl same ↦ subst (λ (y : ℕ × ℕ). Contains (xs ++ (x ∷ [])) y) (same_pair_is x q same) (Contains-push xs x)
        | inr old ↦ Contains-append_left xs (x ∷ []) q (held has xs q h old)
      ]))
      (λ t.
      up q
      ∙ elim (Contains-push_cases xs x q (any_contains q (xs ++ (x ∷ [])) t)) [
        | inl old ↦ put_old (same_pair x q) (has q) (holding has xs q h old)
        | inr same ↦ ap (λ b. cond b true (has q)) (pair_is_same x q same)
      ]);
}

pub fresh : (has : ℕ × ℕ → Bool) (xs : List (ℕ × ℕ)) (x : ℕ × ℕ) → Holds has xs → has x ≡ false → AreDistinct xs → AreDistinct (xs ++ (x ∷ []))
fresh has xs x h none d = distinct_push xs x d (λ there. true≢false (sym (holding has xs x h there) ∙ none))

-- ---- a list of pairs put in, one after the other
pub record IsUpto (has : ℕ × ℕ → Bool) (xs : List (ℕ × ℕ)) (k : ℕ) : Type 0 where
  pub distinct : AreDistinct (take k xs)
  pub holds : Holds has (take k xs)

pub upto_more : (has has' : ℕ × ℕ → Bool) (xs : List (ℕ × ℕ)) (k : ℕ) (new : Bool)
    → k < length xs → IsUpto has xs k → new ≡ not (has (get_or xs k (0, 0))) → new ≡ true
    → ((q : ℕ × ℕ) → has' q ≡ cond (same_pair (get_or xs k (0, 0)) q) true (has q)) → IsUpto has' xs (k + 1)
upto_more has has' xs k new in' u added is up =
    let none = false_from_not (has (get_or xs k (0, 0))) (sym added ∙ is) in
    let e = take_more xs k (0, 0) in' in
    record {
      distinct = subst (λ l. AreDistinct l) (sym e) (fresh has (take k xs) (get_or xs k (0, 0)) u.holds none u.distinct);
      holds = subst (λ l. Holds has' l) (sym e) (holds_more has has' (take k xs) (get_or xs k (0, 0)) u.holds up);
    }

pub upto_again : (has : ℕ × ℕ → Bool) (xs : List (ℕ × ℕ)) (k : ℕ) (new : Bool) → k < length xs
    → IsUpto has xs k → new ≡ not (has (get_or xs k (0, 0))) → new ≡ false → AreDistinct xs → ⊥
upto_again has xs k new in' u added is d =
    let old = true_from_not (has (get_or xs k (0, 0))) (sym added ∙ is) in
    repeated xs k (get_or xs k (0, 0)) (0, 0) in' refl (held has (take k xs) _ u.holds old) d

-- the same, where the pair is known by another name
pub put_next : (has has' : ℕ × ℕ → Bool) (xs : List (ℕ × ℕ)) (k : ℕ) (x : ℕ × ℕ) (new : Bool)
    → ◌≡◌ {A = ℕ × ℕ} (get_or xs k (0, 0)) x → k < length xs → IsUpto has xs k → new ≡ not (has x) → new ≡ true
    → ((q : ℕ × ℕ) → has' q ≡ cond (same_pair x q) true (has q)) → IsUpto has' xs (k + 1)
put_next has has' xs k x new e in' u added is up =
    upto_more has has' xs k new in' u (added ∙ ap (λ (y : ℕ × ℕ). not (has y)) (sym e)) is
    (λ q. up q ∙ ap (λ (y : ℕ × ℕ). cond (same_pair y q) true (has q)) (sym e))

pub put_again : (has : ℕ × ℕ → Bool) (xs : List (ℕ × ℕ)) (k : ℕ) (x : ℕ × ℕ) (new : Bool) → ◌≡◌ {A = ℕ × ℕ} (get_or xs k (0, 0)) x
    → k < length xs → IsUpto has xs k → new ≡ not (has x) → new ≡ false → AreDistinct xs → ⊥
put_again has xs k x new e in' u added is d = upto_again has xs k new in' u (added ∙ ap (λ (y : ℕ × ℕ). not (has y)) (sym e)) is d
