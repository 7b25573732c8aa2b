-- The numbers from one on, and which of them pass a test.
use Rattle.std.proofs.Common.{◌≡◌, ℕ, zero, suc, ◌+◌, ◌<◌, ◌≤◌, [], ◌∷◌, length, get_or, Bool, false, cond, nat_lt, Contains, refl, ap, ◌∙◌, arith, lt-ltb, le-ltb}
use Rattle.std.proofs.lemmas.List.FromFn.{length-range_with_len, get_or-range_with_len}
use Rattle.std.specs.List.{filter, range_with_len}

pub Contains-range : (n k : ℕ) → k < n → Contains (range_with_len 0 n) k
Contains-range n k below = (
  k,
  (let long : length (range_with_len 0 n) ≡ n = length-range_with_len 0 n in omega arith),
  (let at : get_or (range_with_len 0 n) k k ≡ 0 + k = get_or-range_with_len 0 n k k below in omega arith),
)

-- where none passes
pub none_pass : (p : ℕ → Bool) (a n : ℕ) → ((k : ℕ) → a ≤ k → p k ≡ false) → filter p (range_with_len a n) ≡ []
none_pass p a zero none = refl
none_pass p a (suc n) none =
    ap (λ (b : Bool). cond b (a ∷ filter p (range_with_len (a + 1) n)) (filter p (range_with_len (a + 1) n))) (none a (omega arith))
    ∙ none_pass p (a + 1) n (λ k low. none k (omega arith))

-- where those below an end pass
pub first_pass : (p : ℕ → Bool) (a k n end : ℕ) → a + k ≡ end → k ≤ n → ((m : ℕ) → a ≤ m → p m ≡ nat_lt m end)
    → filter p (range_with_len a n) ≡ range_with_len a k
first_pass p a zero n end e few tells = none_pass p a n (λ m low. tells m low ∙ le-ltb m end (omega arith))
first_pass p a (suc k) zero end e few tells = absurd (omega arith)
first_pass p a (suc k) (suc n) end e few tells =
    ap (λ (b : Bool). cond b (a ∷ filter p (range_with_len (a + 1) n)) (filter p (range_with_len (a + 1) n)))
    (tells a (omega arith) ∙ lt-ltb a end (omega arith))
    ∙ ap (λ xs. a ∷ xs) (first_pass p (a + 1) k n end (omega arith) (omega arith) (λ m low. tells m (omega arith)))
