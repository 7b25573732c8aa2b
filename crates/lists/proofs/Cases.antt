-- The cases of tests, of options and of results, beside those of std.
use Rattle.std.proofs.Common.{◌≡◌, ℕ, ◌≢◌, Bool, true, false, cond, not, ◌&&◌, ◌||◌, nat_eq, ◌⊎◌, inl, inr, Option, Some, None, is_some, Result, Ok, Err, OnErr, refl, sym, ap, ◌∙◌, eq-eqb}

-- two tests that follow from each other are the same
pub same_test : (a b : Bool) → (a ≡ true → b ≡ true) → (b ≡ true → a ≡ true) → a ≡ b
same_test true b f g = sym (f refl)
same_test false true f g = g refl
same_test false false f g = refl

-- a test doesn't answer both ways
pub clash : {A : Type 0} (b : Bool) → b ≡ true → b ≡ false → A
clash true t f = absurd (cc)
clash false t f = absurd (cc)

pub false_from_not : (b : Bool) → not b ≡ true → b ≡ false
false_from_not true e = cc
false_from_not false e = refl

pub true_from_not : (b : Bool) → not b ≡ false → b ≡ true
true_from_not true e = refl
true_from_not false e = cc

pub or_false : (b : Bool) → (b || false) ≡ b
or_false true = refl
or_false false = refl

pub or_true : (b : Bool) → (b || true) ≡ true
or_true true = refl
or_true false = refl

pub and_true : (b : Bool) → (b && true) ≡ b
and_true true = refl
and_true false = refl

pub and_false : (b : Bool) → (b && false) ≡ false
and_false true = refl
and_false false = refl

pub or_swap : (a b c : Bool) → (a || (b || c)) ≡ (b || (a || c))
or_swap true true c = refl
or_swap true false c = refl
or_swap false b c = refl

pub differs : (x y : ℕ) → not (nat_eq x y) ≡ true → x ≢ y
differs x y e same = let f : false ≡ true = sym (ap not (eq-eqb x y same)) ∙ e in cc

pub some_none : {A : Type 0} (x : A) → Some x ≡ None → ⊥
some_none x e = cc

pub none_of : {A : Type 0} (o : Option A) → is_some o ≡ false → o ≡ None
none_of None e = refl
none_of (Some x) e = cc

pub swap : {A B : Type 0} → A ⊎ B → B ⊎ A
swap (inl a) = inr a
swap (inr b) = inl b

pub on_err : {T E P : Type 0} (r : Result T E) → P → OnErr r P
on_err (Ok x) p = tt
on_err (Err e) p = p

-- what a set has with one entry more
pub put_cases : (e h : Bool) → cond e true h ≡ true → (e ≡ true) ⊎ (h ≡ true)
put_cases true h k = inl refl
put_cases false h k = inr k

pub put_old : (e h : Bool) → h ≡ true → cond e true h ≡ true
put_old true h k = refl
put_old false h k = k
