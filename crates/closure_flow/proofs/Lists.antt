-- Sums over a rising list of which one or two terms change.
use Rattle.std.proofs.Common.{◌≡◌, ℕ, ◌+◌, ◌-◌, ◌<◌, ◌≤◌, inl, inr, List, [], ◌∷◌, Bool, cond, nat_eq, ℤ, pos, negsuc}
use Rattle.std.proofs.Common.{◌+ℤ◌, ◌-ℤ◌, neg_ℤ, ◌≤ℤ◌, refl, sym, ap, ◌∙◌, subst, arith, eq-eqb, ne_eqb}
use Rattle.std.proofs.lemmas.Int.{ints}
use Rattle.std.proofs.lemmas.Bool.{cases_eq}
use Rattle.lists.specs.Rising.{AllAbove, IsRising}
use Rattle.arithmetic.specs.Sums.{total}
use Rattle.closure_flow.specs.Flows.{Among, net, surplus, shortage, only_at}
use borrow.Author.Differences.{up, down}

pub above_among : (x y : ℕ) (xs : List ℕ) → AllAbove x xs → Among y xs → x < y
above_among x y [] a h = absurd h
above_among x y (z ∷ zs) a (inl e) = subst (λ (n : ℕ). x < n) (sym e) a.0
above_among x y (z ∷ zs) a (inr h) = above_among x y zs a.1 h

pub only_at-here : (k : ℕ) (x : ℤ) → only_at k x k ≡ x
only_at-here k x = ap (λ (b : Bool). cond b x (pos 0)) (eq-eqb k k refl)

pub only_at-else : (k t : ℕ) (x : ℤ) → (t ≡ k → ⊥) → only_at k x t ≡ pos 0
only_at-else k t x ne = ap (λ (b : Bool). cond b x (pos 0)) (ne_eqb t k ne)

-- terms that agree on the list have one sum
pub total_along : (f g : ℕ → ℤ) (ts : List ℕ) → ((s : ℕ) → Among s ts → g s ≡ f s) → total g ts ≡ total f ts
total_along f g [] e = refl
total_along f g (x ∷ xs) e = omega (arith, ints, e x (inl refl), total_along f g xs (λ s h. e s (inr h)))

-- one term is larger by d
pub total_bump : (f g : ℕ → ℤ) (k : ℕ) (d : ℤ) (ts : List ℕ) → IsRising ts → Among k ts → ((s : ℕ) → Among s ts → (s ≡ k → ⊥) → g s ≡ f s)
    → g k ≡ f k +ℤ d → total g ts ≡ total f ts +ℤ d
total_bump f g k d [] r h same here = absurd h
total_bump f g k d (x ∷ xs) r (inl e) same here =
    let tail : total g xs ≡ total f xs =
    total_along f g xs (λ s m. same s (inr m) (λ q. let above : x < s = above_among x s xs r.0 m in omega (arith, e, q))) in
    let head : g x ≡ f x +ℤ d = subst (λ (n : ℕ). g n ≡ f n +ℤ d) e here in
    omega (arith, ints)
total_bump f g k d (x ∷ xs) r (inr h) same here =
    let other : x ≡ k → ⊥ = λ q. (let above : x < k = above_among x k xs r.0 h in omega arith) in
    let head : g x ≡ f x = same x (inl refl) other in
    let tail : total g xs ≡ total f xs +ℤ d = total_bump f g k d xs r.1 h (λ s m. same s (inr m)) here in
    omega (arith, ints)

-- one pair's flow is larger by d: its child sends more, its parent has more coming in
pub net_bump : (ts : List ℕ) (F G : ℕ → ℕ → ℕ) (a b : ℕ) (d : ℤ) → IsRising ts → Among a ts → Among b ts → (a ≡ b → ⊥)
    → pos (G a b) ≡ pos (F a b) +ℤ d
    → ((c p : ℕ) → Among c ts → Among p ts → ((c ≡ a) × (p ≡ b) → ⊥) → G c p ≡ F c p)
    → (t : ℕ) → Among t ts → net ts G t ≡ (net ts F t +ℤ only_at a d t) -ℤ only_at b d t
unfolding net
net_bump ts F G a b d r ha hb apart here same t ht =
    elim (cases_eq t a) as (λ _. total (λ s. pos (G t s) -ℤ pos (G s t)) ts ≡ (total (λ s. pos (F t s) -ℤ pos (F s t)) ts +ℤ only_at a d t) -ℤ only_at b d t) [
      | inl e ↦
          let from_a : (t ≡ b → ⊥) = λ q. apart (sym e ∙ q) in
          let moved : total (λ s. pos (G t s) -ℤ pos (G s t)) ts ≡ total (λ s. pos (F t s) -ℤ pos (F s t)) ts +ℤ d =
          total_bump (λ s. pos (F t s) -ℤ pos (F s t)) (λ s. pos (G t s) -ℤ pos (G s t)) b d ts r hb
          (λ s m ne. ap (λ (n : ℕ). pos n -ℤ pos (G s t)) (same t s ht m (λ q. ne q.1))
          ∙ ap (λ (n : ℕ). pos (F t s) -ℤ pos n) (same s t m ht (λ q. from_a q.1)))
          (let up_ : pos (G t b) ≡ pos (F t b) +ℤ d = subst (λ (n : ℕ). pos (G n b) ≡ pos (F n b) +ℤ d) (sym e) here in
          let back : G b t ≡ F b t = same b t hb ht (λ q. from_a q.1) in
          omega (arith, ints)) in
          let at_a : only_at a d t ≡ d = subst (λ (n : ℕ). only_at a d n ≡ d) (sym e) (only_at-here a d) in
          let at_b : only_at b d t ≡ pos 0 = only_at-else b t d from_a in
          omega (arith, ints)
      | inr ne_a ↦ elim (cases_eq t b) as (λ _. total (λ s. pos (G t s) -ℤ pos (G s t)) ts ≡
          (total (λ s. pos (F t s) -ℤ pos (F s t)) ts +ℤ only_at a d t) -ℤ only_at b d t) [
            | inl e ↦
                let moved : total (λ s. pos (G t s) -ℤ pos (G s t)) ts ≡ total (λ s. pos (F t s) -ℤ pos (F s t)) ts +ℤ neg_ℤ d =
                total_bump (λ s. pos (F t s) -ℤ pos (F s t)) (λ s. pos (G t s) -ℤ pos (G s t)) a (neg_ℤ d) ts r ha
                (λ s m ne. ap (λ (n : ℕ). pos n -ℤ pos (G s t)) (same t s ht m (λ q. ne_a q.0))
                ∙ ap (λ (n : ℕ). pos (F t s) -ℤ pos n) (same s t m ht (λ q. ne q.0)))
                (let up_ : pos (G a t) ≡ pos (F a t) +ℤ d = subst (λ (n : ℕ). pos (G a n) ≡ pos (F a n) +ℤ d) (sym e) here in
                let back : G t a ≡ F t a = same t a ht ha (λ q. ne_a q.0) in
                omega (arith, ints)) in
                let at_a : only_at a d t ≡ pos 0 = only_at-else a t d ne_a in
                let at_b : only_at b d t ≡ d = subst (λ (n : ℕ). only_at b d n ≡ d) (sym e) (only_at-here b d) in
                omega (arith, ints)
            | inr ne_b ↦
                let moved : total (λ s. pos (G t s) -ℤ pos (G s t)) ts ≡ total (λ s. pos (F t s) -ℤ pos (F s t)) ts =
                total_along (λ s. pos (F t s) -ℤ pos (F s t)) (λ s. pos (G t s) -ℤ pos (G s t)) ts
                (λ s m. ap (λ (n : ℕ). pos n -ℤ pos (G s t)) (same t s ht m (λ q. ne_a q.0))
                ∙ ap (λ (n : ℕ). pos (F t s) -ℤ pos n) (same s t m ht (λ q. ne_b q.1))) in
                let at_a : only_at a d t ≡ pos 0 = only_at-else a t d ne_a in
                let at_b : only_at b d t ≡ pos 0 = only_at-else b t d ne_b in
                omega (arith, ints)
          ]
    ]

-- ---- what is above and below 0
pub rests_split : (rest : ℕ → ℤ) (ts : List ℕ) → total rest ts ≡ pos (surplus rest ts) -ℤ pos (shortage rest ts)
unfolding surplus shortage
rests_split rest [] = refl
rests_split rest (t ∷ ts) = omega (arith, ints, rests_split rest ts)

pub up_within : (rest : ℕ → ℤ) (t : ℕ) (ts : List ℕ) → Among t ts → up (rest t) ≤ surplus rest ts
unfolding surplus
up_within rest t [] h = absurd h
up_within rest t (x ∷ xs) (inl e) = omega (arith, ap (λ (n : ℕ). up (rest n)) e)
up_within rest t (x ∷ xs) (inr h) = omega (arith, up_within rest t xs h)

pub down_within : (rest : ℕ → ℤ) (t : ℕ) (ts : List ℕ) → Among t ts → down (rest t) ≤ shortage rest ts
unfolding shortage
down_within rest t [] h = absurd h
down_within rest t (x ∷ xs) (inl e) = omega (arith, ap (λ (n : ℕ). down (rest n)) e)
down_within rest t (x ∷ xs) (inr h) = omega (arith, down_within rest t xs h)

pub surplus_along : (f g : ℕ → ℤ) (ts : List ℕ) → ((s : ℕ) → Among s ts → g s ≡ f s) → surplus g ts ≡ surplus f ts
unfolding surplus
surplus_along f g [] e = refl
surplus_along f g (x ∷ xs) e = omega (arith, ap up (e x (inl refl)), surplus_along f g xs (λ s h. e s (inr h)))

pub surplus_bump : (f g : ℕ → ℤ) (k : ℕ) (ts : List ℕ) → IsRising ts → Among k ts → ((s : ℕ) → Among s ts → (s ≡ k → ⊥) → g s ≡ f s)
    → surplus g ts + up (f k) ≡ surplus f ts + up (g k)
unfolding surplus
surplus_bump f g k [] r h same = absurd h
surplus_bump f g k (x ∷ xs) r (inl e) same =
    let tail : surplus g xs ≡ surplus f xs =
    surplus_along f g xs (λ s m. same s (inr m) (λ q. let above : x < s = above_among x s xs r.0 m in omega (arith, e, q))) in
    omega (arith, ap (λ (n : ℕ). up (f n)) e, ap (λ (n : ℕ). up (g n)) e)
surplus_bump f g k (x ∷ xs) r (inr h) same =
    let other : x ≡ k → ⊥ = λ q. (let above : x < k = above_among x k xs r.0 h in omega arith) in
    let head : up (g x) ≡ up (f x) = ap up (same x (inl refl) other) in
    let tail : surplus g xs + up (f k) ≡ surplus f xs + up (g k) = surplus_bump f g k xs r.1 h (λ s m. same s (inr m)) in
    omega arith

-- two entries change
pub surplus_two : (f g : ℕ → ℤ) (a b : ℕ) (ts : List ℕ) → IsRising ts → Among a ts → Among b ts → (b ≡ a → ⊥)
    → ((s : ℕ) → Among s ts → (s ≡ a → ⊥) → (s ≡ b → ⊥) → g s ≡ f s)
    → surplus g ts + up (f a) + up (f b) ≡ surplus f ts + up (g a) + up (g b)
surplus_two f g a b ts r ha hb apart same =
    let h : ℕ → ℤ = λ s. cond (nat_eq s a) (g a) (f s) in
    let here : h a ≡ g a = ap (λ (t : Bool). cond t (g a) (f a)) (eq-eqb a a refl) in
    let elsewhere : (s : ℕ) → (s ≡ a → ⊥) → h s ≡ f s = λ s ne. ap (λ (t : Bool). cond t (g a) (f s)) (ne_eqb s a ne) in
    let first : surplus h ts + up (f a) ≡ surplus f ts + up (h a) = surplus_bump f h a ts r ha (λ s m ne. elsewhere s ne) in
    let second : surplus g ts + up (h b) ≡ surplus h ts + up (g b) =
    surplus_bump h g b ts r hb (λ s m ne.
    elim (cases_eq s a) as (λ _. g s ≡ h s) [
      | inl e ↦ subst (λ (n : ℕ). g n ≡ h n) (sym e) (sym here)
      | inr other ↦ same s m other ne ∙ sym (elsewhere s other)
    ]) in
    omega (arith, first, second, ap up here, ap up (elsewhere b apart))

up_less : (z : ℤ) (x : ℕ) → pos x ≤ℤ z → up (z -ℤ pos x) + x ≡ up z
up_less (pos n) x h =
    let is : pos n -ℤ pos x ≡ pos (n - x) = omega (arith, ints, h) in
    omega (arith, ints, h, ap up is)
up_less (negsuc n) x h = absurd (omega (arith, ints, h))

up_none : (z : ℤ) → z ≤ℤ pos 0 → up z ≡ 0
up_none (pos n) h = omega (arith, ints, h)
up_none (negsuc n) h = refl

-- x goes from a place that has as much to a place that lacks as much: the surplus falls by x
pub surplus_moved : (f g : ℕ → ℤ) (a b : ℕ) (x : ℕ) (ts : List ℕ) → IsRising ts → Among a ts → Among b ts
    → pos x ≤ℤ f a → f b ≤ℤ neg_ℤ (pos x) → 0 < x → g a ≡ f a -ℤ pos x → g b ≡ f b +ℤ pos x
    → ((s : ℕ) → Among s ts → (s ≡ a → ⊥) → (s ≡ b → ⊥) → g s ≡ f s)
    → surplus g ts + x ≡ surplus f ts
surplus_moved f g a b x ts r ha hb enough lacking some ga gb same =
    let apart : b ≡ a → ⊥ = λ q. omega (arith, ints, enough, lacking, some, ap f q) in
    let both = surplus_two f g a b ts r ha hb apart same in
    let less : up (g a) + x ≡ up (f a) = ap (λ (z : ℤ). up z + x) ga ∙ up_less (f a) x enough in
    let none : up (f b) ≡ 0 = up_none (f b) (omega (arith, ints, lacking)) in
    let still : up (g b) ≡ 0 = up_none (g b) (omega (arith, ints, lacking, gb)) in
    omega (arith, both, less, none, still)
