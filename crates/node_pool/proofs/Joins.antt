-- What exchanging two steps, and cutting out one number, do to the cycles of a permutation.
use Rattle.std.proofs.Common.{◌≡◌, ◌≢◌, ◌⊎◌, ℕ, zero, suc, ◌≤◌, refl, sym, ap, subst, ◌∙◌, inl, inr, arith}
use Rattle.std.proofs.lemmas.Bool.{cases_eq}
use Rattle.node_pool.specs.Cycles.{walked, Reaches, IsMutual, Splices, Cuts}
use Rattle.node_pool.proofs.Cycles.{walked-suc, Reaches-step, Reaches-before, Reaches-trans, next-one_to_one}

-- x leads to y, or the one leads to a and b to the other, or the one to b and a to the other
abbrev pub Unites : (ℕ → ℕ) → ℕ → ℕ → ℕ → ℕ → Type 0
Unites p a b x y = Reaches p x y ⊎ (Reaches p x a × Reaches p b y) ⊎ (Reaches p x b × Reaches p a y)

module _ (p r : ℕ → ℕ) (a b : ℕ) (spliced : Splices p r a b) where
  -- a step of the new function stays within the union
  united_step : (x y : ℕ) → Unites p a b x y → Unites p a b x (r y)
  united_step x y united =
      elim (cases_eq y a) [
        | inl at_a ↦ subst (Unites p a b x) (sym (ap r at_a ∙ spliced.at_a)) (from_a (subst (Unites p a b x) at_a united))
        | inr not_a ↦ elim (cases_eq y b) [
          | inl at_b ↦ subst (Unites p a b x) (sym (ap r at_b ∙ spliced.at_b)) (from_b (subst (Unites p a b x) at_b united))
          | inr not_b ↦ subst (Unites p a b x) (sym (spliced.others y not_a not_b)) (along united)
        ]
      ]
    where
      from_a : Unites p a b x a → Unites p a b x (p b)
      from_a (inl direct) = inr (inl (direct, (1, refl)))
      from_a (inr (inl over)) = inr (inl (over.0, (1, refl)))
      from_a (inr (inr over)) = inl (Reaches-step p x b over.0)

      from_b : Unites p a b x b → Unites p a b x (p a)
      from_b (inl direct) = inr (inr (direct, (1, refl)))
      from_b (inr (inl over)) = inl (Reaches-step p x a over.0)
      from_b (inr (inr over)) = inr (inr (over.0, (1, refl)))

      along : Unites p a b x y → Unites p a b x (p y)
      along (inl direct) = inl (Reaches-step p x y direct)
      along (inr (inl over)) = inr (inl (over.0, Reaches-step p b y over.1))
      along (inr (inr over)) = inr (inr (over.0, Reaches-step p a y over.1))

  pub Unites-from_joined : (x y : ℕ) → Reaches r x y → Unites p a b x y
  Unites-from_joined x y (k, e) = subst (Unites p a b x) e (along k)
    where
      along : (k : ℕ) → Unites p a b x (walked r k x)
      along zero = inl (0, refl)
      along (suc k) = subst (Unites p a b x) (sym (walked-suc r k x)) (united_step x (walked r k x) (along k))

  -- a walk to b that never meets a is a walk of the new function
  avoids_a : (k z : ℕ) → walked p k z ≡ b → (Reaches p z a → ⊥) → Reaches r z b
  avoids_a zero z e apart = (0, e)
  avoids_a (suc k) z e apart =
      elim (cases_eq z b) [
        | inl here ↦ (0, here)
        | inr before ↦
            let not_a : z ≢ a = λ same. apart (0, same) in
            let step : r z ≡ p z = spliced.others z not_a before in
            let rest : Reaches r (p z) b = avoids_a k (p z) e (λ more. apart (Reaches-before p z a more)) in
            Reaches-before r z b (subst (λ w. Reaches r w b) (sym step) rest)
      ]

  avoids_b : (k z : ℕ) → walked p k z ≡ a → (Reaches p z b → ⊥) → Reaches r z a
  avoids_b zero z e apart = (0, e)
  avoids_b (suc k) z e apart =
      elim (cases_eq z a) [
        | inl here ↦ (0, here)
        | inr before ↦
            let not_b : z ≢ b = λ same. apart (0, same) in
            let step : r z ≡ p z = spliced.others z before not_b in
            let rest : Reaches r (p z) a = avoids_b k (p z) e (λ more. apart (Reaches-before p z b more)) in
            Reaches-before r z a (subst (λ w. Reaches r w a) (sym step) rest)
      ]

  module _ (a_back : Reaches p (p a) a) (b_back : Reaches p (p b) b) (a_to_b : Reaches p a b → ⊥) (b_to_a : Reaches p b a → ⊥) where
    joined_a_b : Reaches r a b
    joined_a_b =
        let round : Reaches r (p b) b = avoids_a b_back.0 (p b) b_back.1 (λ more. b_to_a (Reaches-before p b a more)) in
        Reaches-before r a b (subst (λ w. Reaches r w b) (sym spliced.at_a) round)

    joined_b_a : Reaches r b a
    joined_b_a =
        let round : Reaches r (p a) a = avoids_b a_back.0 (p a) a_back.1 (λ more. a_to_b (Reaches-before p a b more)) in
        Reaches-before r b a (subst (λ w. Reaches r w a) (sym spliced.at_b) round)

    -- each step of the old function is a walk of the new one
    step_joined : (s : ℕ) → Reaches r s (p s)
    step_joined s =
        elim (cases_eq s a) [
          | inl at_a ↦ subst (λ w. Reaches r w (p w)) (sym at_a) (Reaches-trans r a b (p a) joined_a_b (1, spliced.at_b))
          | inr not_a ↦ elim (cases_eq s b) [
            | inl at_b ↦ subst (λ w. Reaches r w (p w)) (sym at_b) (Reaches-trans r b a (p b) joined_b_a (1, spliced.at_a))
            | inr not_b ↦ (1, spliced.others s not_a not_b)
          ]
        ]

    walk_joined : (k s : ℕ) → Reaches r s (walked p k s)
    walk_joined zero s = (0, refl)
    walk_joined (suc k) s = Reaches-trans r s (p s) (walked p k (p s)) (step_joined s) (walk_joined k (p s))

    reach_joined : (x y : ℕ) → Reaches p x y → Reaches r x y
    reach_joined x y (k, e) = subst (Reaches r x) e (walk_joined k x)

    pub joined-from_Unites : (x y : ℕ) → Unites p a b x y → Reaches r x y
    joined-from_Unites x y (inl direct) = reach_joined x y direct
    joined-from_Unites x y (inr (inl over)) =
        Reaches-trans r x a y (reach_joined x a over.0) (Reaches-trans r a b y joined_a_b (reach_joined b y over.1))
    joined-from_Unites x y (inr (inr over)) =
        Reaches-trans r x b y (reach_joined x b over.0) (Reaches-trans r b a y joined_b_a (reach_joined a y over.1))

module _ (p q r : ℕ → ℕ) (mutual-pq : IsMutual p q) (a : ℕ) (cut : Cuts p r q a) where
  -- a walk from another number never meets a, and is a walk of the old function
  cut_step : (x y : ℕ) → (y ≢ a) × Reaches p x y → (r y ≢ a) × Reaches p x (r y)
  cut_step x y (apart, reached) =
      elim (cases_eq y (q a)) [
        | inl before ↦
            let alone : q a ≢ a = λ e. apart (before ∙ e) in
            let step : r y ≡ p a = ap r before ∙ cut.past alone in
            let at_a : p y ≡ a = ap p before ∙ (mutual-pq a).1 in
            let off : p a ≢ a = λ e. alone (ap q (sym e) ∙ (mutual-pq a).0) in
            (λ e. off (sym step ∙ e), subst (Reaches p x) (ap p at_a ∙ sym step) (Reaches-step p x (p y) (Reaches-step p x y reached)))
        | inr other ↦
            let step : r y ≡ p y = cut.others y apart other in
            (λ e. other (sym (mutual-pq y).0 ∙ ap q (sym step ∙ e)), subst (Reaches p x) (sym step) (Reaches-step p x y reached))
      ]

  pub uncut : (x y : ℕ) → x ≢ a → Reaches r x y → (y ≢ a) × Reaches p x y
  uncut x y apart (k, e) = subst (λ w. (w ≢ a) × Reaches p x w) e (along k)
    where
      along : (k : ℕ) → (walked r k x ≢ a) × Reaches p x (walked r k x)
      along zero = (apart, (0, refl))
      along (suc k) = subst (λ w. (w ≢ a) × Reaches p x w) (sym (walked-suc r k x)) (cut_step x (walked r k x) (along k))

  pub cut_alone : (y : ℕ) → Reaches r a y → y ≡ a
  cut_alone y (k, e) = sym e ∙ along k
    where
      along : (k : ℕ) → walked r k a ≡ a
      along zero = refl
      along (suc k) = ap (walked r k) cut.at_a ∙ along k

  -- a walk past a is a walk of the new function
  recut_within : (n k x y : ℕ) → k ≤ n → x ≢ a → y ≢ a → walked p k x ≡ y → Reaches r x y
  recut_within n zero x y few xa ya e = (0, e)
  recut_within zero (suc k) x y few xa ya e = absurd (omega arith)
  recut_within (suc n) (suc zero) x y few xa ya e =
      elim (cases_eq x (q a)) [
        | inl before ↦ absurd (ya (sym e ∙ ap p before ∙ (mutual-pq a).1))
        | inr other ↦ (1, cut.others x xa other ∙ e)
      ]
  recut_within (suc n) (suc (suc k)) x y few xa ya e =
      elim (cases_eq x (q a)) [
        | inl before ↦
            let alone : q a ≢ a = λ same. xa (before ∙ same) in
            let step : r x ≡ p a = ap r before ∙ cut.past alone in
            let at_a : p x ≡ a = ap p before ∙ (mutual-pq a).1 in
            let off : p a ≢ a = λ same. alone (ap q (sym same) ∙ (mutual-pq a).0) in
            let rest : Reaches r (p a) y = recut_within n k (p a) y (omega arith) off ya (ap (λ w. walked p k (p w)) (sym at_a) ∙ e) in
            Reaches-before r x y (subst (λ w. Reaches r w y) (sym step) rest)
        | inr other ↦
            let step : r x ≡ p x = cut.others x xa other in
            let off : p x ≢ a = λ same. other (sym (mutual-pq x).0 ∙ ap q same) in
            let rest : Reaches r (p x) y = recut_within n (suc k) (p x) y (omega arith) off ya e in
            Reaches-before r x y (subst (λ w. Reaches r w y) (sym step) rest)
      ]

  pub recut : (x y : ℕ) → x ≢ a → y ≢ a → Reaches p x y → Reaches r x y
  recut x y xa ya (k, e) = recut_within k k x y (omega arith) xa ya e

-- exchanging the steps from a and b, and those back from where they led, keeps two functions mutual
pub mutual_spliced : (p q r s : ℕ → ℕ) (a b : ℕ) → IsMutual p q → a ≢ b → Splices p r a b → Splices q s (p a) (p b) → IsMutual r s
mutual_spliced p q r s a b m apart forth back x = (forward, backward)
  where
    forward : s (r x) ≡ x
    forward = elim (cases_eq x a) [
      | inl at_a ↦ ap (λ w. s (r w)) at_a ∙ ap s forth.at_a ∙ back.at_b ∙ (m a).0 ∙ sym at_a
      | inr not_a ↦ elim (cases_eq x b) [
        | inl at_b ↦ ap (λ w. s (r w)) at_b ∙ ap s forth.at_b ∙ back.at_a ∙ (m b).0 ∙ sym at_b
        | inr not_b ↦
            ap s (forth.others x not_a not_b)
            ∙ back.others (p x) (λ e. not_a (next-one_to_one p q m x a e)) (λ e. not_b (next-one_to_one p q m x b e))
            ∙ (m x).0
      ]
    ]

    backward : r (s x) ≡ x
    backward = elim (cases_eq x (p a)) [
      | inl at_a ↦ ap (λ w. r (s w)) at_a ∙ ap r (back.at_a ∙ (m b).0) ∙ forth.at_b ∙ sym at_a
      | inr not_a ↦ elim (cases_eq x (p b)) [
        | inl at_b ↦ ap (λ w. r (s w)) at_b ∙ ap r (back.at_b ∙ (m a).0) ∙ forth.at_a ∙ sym at_b
        | inr not_b ↦
            ap r (back.others x not_a not_b)
            ∙ forth.others (q x) (λ e. not_a (sym (m x).1 ∙ ap p e)) (λ e. not_b (sym (m x).1 ∙ ap p e))
            ∙ (m x).1
      ]
    ]

-- cutting a out of the steps and of the steps back keeps two functions mutual
pub mutual_cut : (p q r s : ℕ → ℕ) (a : ℕ) → IsMutual p q → Cuts p r q a → Cuts q s p a → IsMutual r s
mutual_cut p q r s a m forth back x =
    (half p q r s m forth back x, half q p s r (λ w. ((m w).1, (m w).0)) back forth x)
  where
    half : (p q r s : ℕ → ℕ) → IsMutual p q → Cuts p r q a → Cuts q s p a → (x : ℕ) → s (r x) ≡ x
    half p q r s m forth back x =
        elim (cases_eq x a) [
          | inl at_a ↦ ap (λ w. s (r w)) at_a ∙ ap s forth.at_a ∙ back.at_a ∙ sym at_a
          | inr not_a ↦ elim (cases_eq x (q a)) [
            | inl before ↦
                let alone : q a ≢ a = λ e. not_a (before ∙ e) in
                let off : p a ≢ a = λ e. alone (ap q (sym e) ∙ (m a).0) in
                ap (λ w. s (r w)) before ∙ ap s (forth.past alone) ∙ back.past off ∙ sym before
            | inr other ↦
                ap s (forth.others x not_a other)
                ∙ back.others (p x) (λ e. other (sym (m x).0 ∙ ap q e)) (λ e. not_a (next-one_to_one p q m x a e))
                ∙ (m x).0
          ]
        ]
