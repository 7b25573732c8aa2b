-- Cycles of a permutation: a walk comes back, two cycles are joined, and one number is cut out of its cycle.
use Rattle.std.proofs.Common.{◌≡◌, ◌≢◌, ◌⊎◌, ℕ, zero, suc, ◌+◌, ◌-◌, ◌<◌, ◌≤◌, refl, sym, ap, subst, ◌∙◌, inl, inr, arith}
use Rattle.std.proofs.lemmas.Bool.{cases_eq}
use Rattle.std.proofs.lemmas.Bool.Decides.{leb_tells}
use Rattle.node_pool.specs.Cycles.{walked, Reaches, IsMutual}

module _ (p : ℕ → ℕ) where
  pub walked-suc : (k s : ℕ) → walked p (suc k) s ≡ p (walked p k s)
  walked-suc zero s = refl
  walked-suc (suc k) s = walked-suc k (p s)

  pub walked-add : (j k s : ℕ) → walked p (j + k) s ≡ walked p k (walked p j s)
  walked-add zero k s = let e : 0 + k ≡ k = omega arith in ap (λ m. walked p m s) e
  walked-add (suc j) k s = let e : suc j + k ≡ suc (j + k) = omega arith in ap (λ m. walked p m s) e ∙ walked-add j k (p s)

  pub Reaches-step : (s t : ℕ) → Reaches p s t → Reaches p s (p t)
  Reaches-step s t (k, e) = (suc k, walked-suc k s ∙ ap p e)

  pub Reaches-before : (s t : ℕ) → Reaches p (p s) t → Reaches p s t
  Reaches-before s t (k, e) = (suc k, e)

  pub Reaches-trans : (s t u : ℕ) → Reaches p s t → Reaches p t u → Reaches p s u
  Reaches-trans s t u (j, e) (k, f) = (j + k, walked-add j k s ∙ ap (walked p k) e ∙ f)

  -- where a walk comes back to its start, it also comes back there from each number on its way
  pub Reaches-sym : (s t : ℕ) → Reaches p (p s) s → Reaches p s t → Reaches p t s
  Reaches-sym s t (m, back) (k, e) = subst (λ x. Reaches p x s) e (along k)
    where
      after : (x : ℕ) → Reaches p x s → Reaches p (p x) s
      after x (zero, here) = subst (λ y. Reaches p (p y) s) (sym here) (m, back)
      after x (suc j, more) = (j, more)

      along : (k : ℕ) → Reaches p (walked p k s) s
      along zero = (0, refl)
      along (suc k) = subst (λ x. Reaches p x s) (sym (walked-suc k s)) (after (walked p k s) (along k))

-- among the values at 0 to n, all below n, two are equal
pub two_equal : (n : ℕ) (f : ℕ → ℕ) → ((i : ℕ) → i ≤ n → f i < n) → (i : ℕ) × (j : ℕ) × (i < j) × (j ≤ n) × (f i ≡ f j)
two_equal zero f below = absurd (omega (arith, below 0 (omega arith)))
two_equal (suc n) f below =
    elim (found (suc n)) [
      | inl hit ↦ (hit.0, suc n, hit.1, omega arith, hit.2)
      | inr none ↦ lift none (two_equal n (λ i. pick i (cases_eq (f i) n)) (λ i within. low none i within (cases_eq (f i) n)))
    ]
  where
    found : (m : ℕ) → ((i : ℕ) × (i < m) × (f i ≡ f (suc n))) ⊎ ((i : ℕ) → i < m → f i ≡ f (suc n) → ⊥)
    found zero = inr (λ i below _. absurd (omega arith))
    found (suc m) =
        elim (cases_eq (f m) (f (suc n))) [
          | inl same ↦ inl (m, omega arith, same)
          | inr differs ↦ elim (found m) [
            | inl hit ↦ inl (hit.0, omega (arith, hit.1), hit.2)
            | inr none ↦ inr (λ i below same. elim (cases_eq i m) [
              | inl e ↦ differs (ap f (sym e) ∙ same)
              | inr apart ↦ none i (omega arith) same
            ])
          ]
        ]

    -- n is left out: where f has it, the last value stands
    pick : (i : ℕ) → (f i ≡ n) ⊎ (f i ≢ n) → ℕ
    pick i (inl _) = f (suc n)
    pick i (inr _) = f i

    low : ((i : ℕ) → i < suc n → f i ≡ f (suc n) → ⊥) → (i : ℕ) → i ≤ n → (d : (f i ≡ n) ⊎ (f i ≢ n)) → pick i d < n
    low none i within (inl top) =
        let apart : f (suc n) ≢ n = λ e. none i (omega arith) (top ∙ sym e) in
        let bound = below (suc n) (omega arith) in
        omega arith
    low none i within (inr other) = let bound = below i (omega arith) in omega arith

    equal : ((i : ℕ) → i < suc n → f i ≡ f (suc n) → ⊥) → (i j : ℕ) → i < suc n → j < suc n
        → (d : (f i ≡ n) ⊎ (f i ≢ n)) (e : (f j ≡ n) ⊎ (f j ≢ n)) → pick i d ≡ pick j e → f i ≡ f j
    equal none i j wi wj (inl ti) (inl tj) same = ti ∙ sym tj
    equal none i j wi wj (inl ti) (inr oj) same = absurd (none j wj (sym same))
    equal none i j wi wj (inr oi) (inl tj) same = absurd (none i wi same)
    equal none i j wi wj (inr oi) (inr oj) same = same

    lift : ((i : ℕ) → i < suc n → f i ≡ f (suc n) → ⊥) → (i : ℕ) × (j : ℕ) × (i < j) × (j ≤ n) × (pick i (cases_eq (f i) n) ≡ pick j (cases_eq (f j) n))
        → (i : ℕ) × (j : ℕ) × (i < j) × (j ≤ suc n) × (f i ≡ f j)
    lift none hit = (
      hit.0,
      hit.1,
      hit.2,
      omega (arith, hit.3),
      equal none hit.0 hit.1 (omega (arith, hit.2, hit.3)) (omega (arith, hit.3)) (cases_eq (f hit.0) n) (cases_eq (f hit.1) n) hit.4,
    )

module _ (p q : ℕ → ℕ) (mutual-pq : IsMutual p q) where
  pub next-one_to_one : (s t : ℕ) → p s ≡ p t → s ≡ t
  next-one_to_one s t same = sym (mutual-pq s).0 ∙ ap q same ∙ (mutual-pq t).0

  -- a walk of as many steps from two numbers to one begins at one number
  walked-back : (k s t : ℕ) → walked p k s ≡ walked p k t → s ≡ t
  walked-back zero s t same = same
  walked-back (suc k) s t same = next-one_to_one s t (walked-back k (p s) (p t) same)

  -- outside the numbers below n nothing moves, so below n a walk stays there
  pub next-below : (n s : ℕ) → ((s : ℕ) → n ≤ s → p s ≡ s) → s < n → p s < n
  next-below n s still within =
      let stays : n ≤ p s → p s ≡ s = λ past. next-one_to_one (p s) s (still (p s) past) in
      grind arith

  walked-below : (n k s : ℕ) → ((s : ℕ) → n ≤ s → p s ≡ s) → s < n → walked p k s < n
  walked-below n zero s still within = within
  walked-below n (suc k) s still within = walked-below n k (p s) still (next-below n s still within)

  -- a walk comes back to its start
  pub comes_back_within : (n : ℕ) → ((s : ℕ) → n ≤ s → p s ≡ s) → (s : ℕ) → s < n → (k : ℕ) × (k < n) × (walked p (suc k) s ≡ s)
  comes_back_within n still s within =
      let hit = two_equal n (λ i. walked p i s) (λ i _. walked-below n i s still within) in
      let i = hit.0 in let j = hit.1 in let below = hit.2 in let top = hit.3 in
      let k = j - i - 1 in
      let split : suc k + i ≡ j = omega arith in
      (k, omega arith, sym (walked-back i s (walked p (suc k) s) (hit.4 ∙ ap (λ m. walked p m s) (sym split) ∙ walked-add p (suc k) i s)))

  pub comes_back : (n : ℕ) → ((s : ℕ) → n ≤ s → p s ≡ s) → (s : ℕ) → Reaches p (p s) s
  comes_back n still s =
      elim (leb_tells n s) [
        | inl past ↦ (0, still s past.1)
        | inr within ↦ let hit = comes_back_within n still s within.1 in (hit.0, hit.2)
      ]
