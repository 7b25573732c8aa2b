-- What a set that no search leaves says of all closed sets.
use Rattle.std.proofs.Common.{◌≡◌, ℕ, zero, suc, ◌<◌, inl, inr, List, [], ◌∷◌, Bool, true, false, cond, ℤ, pos}
use Rattle.std.proofs.Common.{negsuc, ◌-ℤ◌, ◌≤ℤ◌, ◌<ℤ◌, refl, sym, ap, ◌∙◌, subst, arith}
use Rattle.std.proofs.lemmas.Int.{ints}
use Rattle.arithmetic.specs.Sums.{total}
use Rattle.arithmetic.proofs.Sums.{total_same, total-sub, total_swap, total-zero}
use Rattle.closure_flow.specs.Flows.{Among, net, surplus}
use Rattle.closure_flow.proofs.Lists.{total_along}
use borrow.Author.Differences.{up}

-- a sum over the entries that a test passes, 0 at the others
abbrev pub inside : (ℕ → Bool) → (ℕ → ℤ) → ℕ → ℤ
inside m f t = cond (m t) (f t) (pos 0)

pub total_along_le : (f g : ℕ → ℤ) (ts : List ℕ) → ((s : ℕ) → Among s ts → g s ≤ℤ f s) → total g ts ≤ℤ total f ts
total_along_le f g [] e = omega (arith, ints)
total_along_le f g (x ∷ xs) e = omega (arith, ints, e x (inl refl), total_along_le f g xs (λ s h. e s (inr h)))

inside_total : (b : Bool) (f : ℕ → ℤ) (ts : List ℕ) → cond b (total f ts) (pos 0) ≡ total (λ s. cond b (f s) (pos 0)) ts
inside_total true f ts = refl
inside_total false f ts = sym (total-zero ts)

inside_sub : (b : Bool) (x y : ℤ) → cond b (x -ℤ y) (pos 0) ≡ cond b x (pos 0) -ℤ cond b y (pos 0)
inside_sub true x y = refl
inside_sub false x y = refl

-- the net flow out of a set, as one double sum: what its members send, less what its members receive
pub net_inside : (ts : List ℕ) (F : ℕ → ℕ → ℕ) (m : ℕ → Bool)
    → total (inside m (net ts F)) ts ≡ total (λ t. total (λ s. cond (m t) (pos (F t s)) (pos 0) -ℤ cond (m s) (pos (F t s)) (pos 0)) ts) ts
unfolding net
net_inside ts F m =
    let split : total (inside m (net ts F)) ts ≡ total (λ t. total (λ s. cond (m t) (pos (F t s)) (pos 0)) ts) ts -ℤ total
    (λ t. total (λ s. cond (m t) (pos (F s t)) (pos 0)) ts) ts =
    total_same (inside m (net ts F)) (λ t. total (λ s. cond (m t) (pos (F t s)) (pos 0)) ts -ℤ total (λ s. cond (m t) (pos (F s t)) (pos 0)) ts) ts
    (λ t. inside_total (m t) (λ s. pos (F t s) -ℤ pos (F s t)) ts
    ∙ total_same (λ s. cond (m t) (pos (F t s) -ℤ pos (F s t)) (pos 0)) (λ s. cond (m t) (pos (F t s)) (pos 0) -ℤ cond (m t) (pos (F s t)) (pos 0))
    ts (λ s. inside_sub (m t) (pos (F t s)) (pos (F s t)))
    ∙ total-sub (λ s. cond (m t) (pos (F t s)) (pos 0)) (λ s. cond (m t) (pos (F s t)) (pos 0)) ts)
    ∙ total-sub (λ t. total (λ s. cond (m t) (pos (F t s)) (pos 0)) ts) (λ t. total (λ s. cond (m t) (pos (F s t)) (pos 0)) ts) ts in
    let swap : total (λ t. total (λ s. cond (m t) (pos (F s t)) (pos 0)) ts) ts ≡ total (λ t. total (λ s. cond (m s) (pos (F t s)) (pos 0)) ts) ts =
    total_swap (λ t s. cond (m t) (pos (F s t)) (pos 0)) ts ts in
    let join : total (λ t. total (λ s. cond (m t) (pos (F t s)) (pos 0) -ℤ cond (m s) (pos (F t s)) (pos 0)) ts) ts ≡ total
    (λ t. total (λ s. cond (m t) (pos (F t s)) (pos 0)) ts) ts -ℤ total (λ t. total (λ s. cond (m s) (pos (F t s)) (pos 0)) ts) ts =
    total_same (λ t. total (λ s. cond (m t) (pos (F t s)) (pos 0) -ℤ cond (m s) (pos (F t s)) (pos 0)) ts)
    (λ t. total (λ s. cond (m t) (pos (F t s)) (pos 0)) ts -ℤ total (λ s. cond (m s) (pos (F t s)) (pos 0)) ts) ts
    (λ t. total-sub (λ s. cond (m t) (pos (F t s)) (pos 0)) (λ s. cond (m s) (pos (F t s)) (pos 0)) ts)
    ∙ total-sub (λ t. total (λ s. cond (m t) (pos (F t s)) (pos 0)) ts) (λ t. total (λ s. cond (m s) (pos (F t s)) (pos 0)) ts) ts in
    split ∙ ap (λ (z : ℤ). total (λ t. total (λ s. cond (m t) (pos (F t s)) (pos 0)) ts) ts -ℤ z) swap ∙ sym join

-- a pair's part in that sum
pair_low : (a b : Bool) (n : ℕ) → (0 < n → a ≡ true → b ≡ true) → (cond a (pos n) (pos 0) -ℤ cond b (pos n) (pos 0)) ≤ℤ pos 0
pair_low true true n h = omega (arith, ints)
pair_low false true n h = omega (arith, ints)
pair_low false false n h = omega (arith, ints)
pair_low true false zero h = omega (arith, ints)
pair_low true false (suc n) h = absurd (let k : false ≡ true = h (omega arith) refl in cc)

pair_none : (a b : Bool) (n : ℕ) → (0 < n → a ≡ true → b ≡ true) → (0 < n → b ≡ true → a ≡ true) → (cond a (pos n) (pos 0) -ℤ cond b (pos n) (pos 0)) ≡ pos 0
pair_none true true n h k = omega (arith, ints)
pair_none false false n h k = omega (arith, ints)
pair_none true false zero h k = refl
pair_none false true zero h k = refl
pair_none true false (suc n) h k = absurd (let e : false ≡ true = h (omega arith) refl in cc)
pair_none false true (suc n) h k = absurd (let e : false ≡ true = k (omega arith) refl in cc)

-- no flow leaves a closed set on balance
pub net_of_closed : (ts : List ℕ) (F : ℕ → ℕ → ℕ) (m : ℕ → Bool) → ((c p : ℕ) → Among c ts → Among p ts → 0 < F c p → m c ≡ true → m p ≡ true)
    → total (inside m (net ts F)) ts ≤ℤ pos 0
net_of_closed ts F m closed =
    let low : total (λ t. total (λ s. cond (m t) (pos (F t s)) (pos 0) -ℤ cond (m s) (pos (F t s)) (pos 0)) ts) ts ≤ℤ total {A = ℕ} (λ s. pos 0) ts =
    total_along_le (λ s. pos 0) (λ t. total (λ s. cond (m t) (pos (F t s)) (pos 0) -ℤ cond (m s) (pos (F t s)) (pos 0)) ts) ts
    (λ t ht.
    let inner : total (λ s. cond (m t) (pos (F t s)) (pos 0) -ℤ cond (m s) (pos (F t s)) (pos 0)) ts ≤ℤ total {A = ℕ} (λ s. pos 0) ts =
    total_along_le (λ s. pos 0) (λ s. cond (m t) (pos (F t s)) (pos 0) -ℤ cond (m s) (pos (F t s)) (pos 0)) ts
    (λ s hs. pair_low (m t) (m s) (F t s) (closed t s ht hs)) in
    omega (arith, ints, inner, total-zero ts)) in
    omega (arith, ints, low, total-zero ts, net_inside ts F m)

-- none at all where none enters either
pub net_of_sealed : (ts : List ℕ) (F : ℕ → ℕ → ℕ) (m : ℕ → Bool)
    → ((c p : ℕ) → Among c ts → Among p ts → 0 < F c p → m c ≡ true → m p ≡ true)
    → ((c p : ℕ) → Among c ts → Among p ts → 0 < F c p → m p ≡ true → m c ≡ true)
    → total (inside m (net ts F)) ts ≡ pos 0
net_of_sealed ts F m closed sealed =
    net_inside ts F m
    ∙ total_along (λ s. pos 0) (λ t. total (λ s. cond (m t) (pos (F t s)) (pos 0) -ℤ cond (m s) (pos (F t s)) (pos 0)) ts) ts
    (λ t ht.
    total_along (λ s. pos 0) (λ s. cond (m t) (pos (F t s)) (pos 0) -ℤ cond (m s) (pos (F t s)) (pos 0)) ts
    (λ s hs. pair_none (m t) (m s) (F t s) (closed t s ht hs) (sealed t s ht hs))
    ∙ total-zero ts)
    ∙ total-zero ts

-- a sum of terms that aren't above 0 isn't, and where one is below 0 it is
total_low : (f : ℕ → ℤ) (ts : List ℕ) → ((s : ℕ) → Among s ts → f s ≤ℤ pos 0) → total f ts ≤ℤ pos 0
total_low f [] low = omega (arith, ints)
total_low f (x ∷ xs) low = omega (arith, ints, low x (inl refl), total_low f xs (λ s h. low s (inr h)))

total_below : (f : ℕ → ℤ) (k : ℕ) (ts : List ℕ) → ((s : ℕ) → Among s ts → f s ≤ℤ pos 0) → Among k ts → f k <ℤ pos 0
    → total f ts <ℤ pos 0
total_below f k [] low h less = absurd h
total_below f k (x ∷ xs) low (inl e) less =
    let head : f x <ℤ pos 0 = subst (λ (n : ℕ). f n <ℤ pos 0) e less in
    omega (arith, ints, head, total_low f xs (λ s h. low s (inr h)))
total_below f k (x ∷ xs) low (inr h) less =
    omega (arith, ints, low x (inl refl), total_below f k xs (λ s m. low s (inr m)) h less)

pair_below : (a b : Bool) (n : ℕ) → a ≡ false → b ≡ true → 0 < n → (cond a (pos n) (pos 0) -ℤ cond b (pos n) (pos 0)) <ℤ pos 0
pair_below false true n e f h = omega (arith, ints, h)
pair_below true b n e f h = absurd (let k : true ≡ false = e in cc)
pair_below false false n e f h = absurd (let k : false ≡ true = f in cc)

-- less than none leaves a closed set that some enters
pub net_of_entered : (ts : List ℕ) (F : ℕ → ℕ → ℕ) (m : ℕ → Bool) (c p : ℕ)
    → ((c p : ℕ) → Among c ts → Among p ts → 0 < F c p → m c ≡ true → m p ≡ true)
    → Among c ts → Among p ts → 0 < F c p → m p ≡ true → m c ≡ false
    → total (inside m (net ts F)) ts <ℤ pos 0
net_of_entered ts F m c p closed hc hp some p_in c_out =
    let term : ℕ → ℕ → ℤ = λ t s. cond (m t) (pos (F t s)) (pos 0) -ℤ cond (m s) (pos (F t s)) (pos 0) in
    let each : (t s : ℕ) → Among t ts → Among s ts → term t s ≤ℤ pos 0 =
    λ t s ht hs. pair_low (m t) (m s) (F t s) (closed t s ht hs) in
    let here : total (term c) ts <ℤ pos 0 =
    total_below (term c) p ts (λ s hs. each c s hc hs) hp (pair_below (m c) (m p) (F c p) c_out p_in some) in
    let all : total (λ t. total (term t) ts) ts <ℤ pos 0 =
    total_below (λ t. total (term t) ts) c ts (λ t ht. total_low (term t) ts (λ s hs. each t s ht hs)) hc here in
    omega (arith, ints, all, net_inside ts F m)

-- the rests of a set are at most all that is above 0, and just that where the set has all of it and nothing below 0
pub rests_low : (rest : ℕ → ℤ) (m : ℕ → Bool) (ts : List ℕ) → total (inside m rest) ts ≤ℤ pos (surplus rest ts)
unfolding surplus
rests_low rest m [] = omega (arith, ints)
rests_low rest m (t ∷ ts) = omega (arith, ints, here (m t) (rest t), rests_low rest m ts)
  where
    here : (b : Bool) (z : ℤ) → cond b z (pos 0) ≤ℤ pos (up z)
    here true z = omega (arith, ints)
    here false z = omega (arith, ints)

pub rests_all : (rest : ℕ → ℤ) (m : ℕ → Bool) (ts : List ℕ)
    → ((t : ℕ) → Among t ts → m t ≡ true → pos 0 ≤ℤ rest t)
    → ((t : ℕ) → Among t ts → pos 0 <ℤ rest t → m t ≡ true)
    → total (inside m rest) ts ≡ pos (surplus rest ts)
unfolding surplus
rests_all rest m [] none all = refl
rests_all rest m (t ∷ ts) none all =
    omega (arith, ints, here (m t) (rest t) (none t (inl refl)) (all t (inl refl)), rests_all rest m ts (λ s h. none s (inr h)) (λ s h. all s (inr h)))
  where
    here : (b : Bool) (z : ℤ) → (b ≡ true → pos 0 ≤ℤ z) → (pos 0 <ℤ z → b ≡ true) → cond b z (pos 0) ≡ pos (up z)
    here true (pos n) h k = refl
    here true (negsuc n) h k = absurd (omega (arith, ints, h refl))
    here false (pos zero) h k = refl
    here false (pos (suc n)) h k = absurd (let e : false ≡ true = k (omega (arith, ints)) in cc)
    here false (negsuc n) h k = refl
