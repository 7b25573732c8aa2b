-- Lists of falling integers, as the slopes of a diagram at each unit of size: what one more number changes in the sums of the first ones.
use Rattle.std.proofs.Common.{◌≡◌, ℕ, zero, suc, ◌+◌, ◌≤◌, ◌↔◌, ◌⊎◌, Bool, true, false, cond, List, [], ◌∷◌, length, inl, inr, ℤ, pos, ◌+ℤ◌, ◌≤ℤ◌, ◌<ℤ◌, refl, sym, ap, subst, arith}
use Rattle.std.specs.Prelude.{Contains, count_by, sum_by}
use Rattle.std.specs.Int.Signed.{lt_z}
use Rattle.std.proofs.lemmas.Bool.{cases_lt}
use Rattle.std.proofs.lemmas.Int.{ints, by_lt_z}
use Rattle.std.proofs.lemmas.List.Sums.{sum_by-cons, count_by-le-length}
use Rattle.lists.proofs.Entries.{Contains-head, Contains-later}

-- the sum of the first ones
abbrev pub rise : ℕ → List ℤ → ℤ
rise zero xs = pos 0
rise (suc x) [] = pos 0
rise (suc x) (a ∷ xs) = a +ℤ rise x xs

-- no number is above the one before it, nor the first above a top
abbrev pub Descends : ℤ → List ℤ → Type 0
Descends top [] = Unit {0}
Descends top (a ∷ xs) = (a ≤ℤ top) × Descends a xs

-- a number put in front of the first that isn't above it
abbrev pub inserted : ℤ → List ℤ → List ℤ
inserted m [] = m ∷ []
inserted m (a ∷ xs) = cond (lt_z m a) (a ∷ inserted m xs) (m ∷ a ∷ xs)

abbrev pub all_inserted : List ℤ → List ℤ → List ℤ
all_inserted [] xs = xs
all_inserted (m ∷ ms) xs = inserted m (all_inserted ms xs)

-- how many stand in front of it
abbrev place : ℤ → List ℤ → ℕ
place m [] = 0
place m (a ∷ xs) = cond (lt_z m a) (suc (place m xs)) 0

-- how many are above a number
abbrev pub above : ℤ → List ℤ → ℕ
above m xs = count_by (lt_z m) xs

-- ---- whether a number is above another
is_above : (m a : ℤ) → m <ℤ a → lt_z m a ≡ true
is_above m a less = grind (arith, ints)

pub not_above : (m a : ℤ) → a ≤ℤ m → lt_z m a ≡ false
not_above m a most = grind (arith, ints)

by_place : (m a : ℤ) (P : Bool → Type 0) → (m <ℤ a → P true) → (a ≤ℤ m → P false) → P (lt_z m a)
by_place m a P high low =
    by_lt_z m a (λ less. subst P (sym (is_above m a less)) (high less)) (λ most. subst P (sym (not_above m a most)) (low most))

-- ---- falling numbers
pub descends_more : (low high : ℤ) (xs : List ℤ) → low ≤ℤ high → Descends low xs → Descends high xs
descends_more low high [] up falls = tt
descends_more low high (a ∷ xs) up falls = (omega (arith, ints, up, falls.0), falls.1)

inserted_descends : (m top : ℤ) (xs : List ℤ) → m ≤ℤ top → Descends top xs → Descends top (inserted m xs)
inserted_descends m top [] low falls = (low, tt)
inserted_descends m top (a ∷ xs) low falls =
    by_place m a (λ b. Descends top (cond b (a ∷ inserted m xs) (m ∷ a ∷ xs)))
    (λ less. (falls.0, inserted_descends m a xs (omega (arith, ints, less)) falls.1))
    (λ most. (low, (most, falls.1)))

-- numbers that fall from some top
abbrev pub AreFalling : List ℤ → Type 0
AreFalling xs = (top : ℤ) × Descends top xs

inserted_falls : (m : ℤ) (xs : List ℤ) → AreFalling xs → AreFalling (inserted m xs)
inserted_falls m xs falls =
    by_lt_z m falls.0 (λ less. (falls.0, inserted_descends m falls.0 xs (omega (arith, ints, less)) falls.1))
    (λ most. (m, inserted_descends m m xs (omega (arith, ints)) (descends_more falls.0 m xs most falls.1)))

pub all_inserted_falls : (ms xs : List ℤ) → AreFalling xs → AreFalling (all_inserted ms xs)
all_inserted_falls [] xs falls = falls
all_inserted_falls (m ∷ ms) xs falls = inserted_falls m (all_inserted ms xs) (all_inserted_falls ms xs falls)

-- ---- sums over all
inserted_sum : (f : ℤ → ℕ) (m : ℤ) (xs : List ℤ) → sum_by f (inserted m xs) ≡ f m + sum_by f xs
inserted_sum f m [] = sum_by-cons f m []
inserted_sum f m (a ∷ xs) =
    by_place m a (λ b. sum_by f (cond b (a ∷ inserted m xs) (m ∷ a ∷ xs)) ≡ f m + sum_by f (a ∷ xs))
    (λ less. omega (arith, sum_by-cons f a (inserted m xs), inserted_sum f m xs, sum_by-cons f a xs))
    (λ most. sum_by-cons f m (a ∷ xs))

pub all_inserted_sum : (f : ℤ → ℕ) (ms xs : List ℤ) → sum_by f (all_inserted ms xs) ≡ sum_by f ms + sum_by f xs
all_inserted_sum f [] xs = omega arith
all_inserted_sum f (m ∷ ms) xs = omega (arith, inserted_sum f m (all_inserted ms xs), all_inserted_sum f ms xs, sum_by-cons f m ms)

inserted_length : (m : ℤ) (xs : List ℤ) → length (inserted m xs) ≡ suc (length xs)
inserted_length m [] = refl
inserted_length m (a ∷ xs) =
    by_place m a (λ b. length (cond b (a ∷ inserted m xs) (m ∷ a ∷ xs)) ≡ suc (length (a ∷ xs)))
    (λ less. ap suc (inserted_length m xs)) (λ most. refl)

all_inserted_length : (ms xs : List ℤ) → length (all_inserted ms xs) ≡ length ms + length xs
all_inserted_length [] xs = omega arith
all_inserted_length (m ∷ ms) xs = omega (arith, inserted_length m (all_inserted ms xs), all_inserted_length ms xs)

place_most : (m : ℤ) (xs : List ℤ) → place m xs ≤ above m xs
place_most m [] = omega arith
place_most m (a ∷ xs) =
    let counted : above m (a ∷ xs) ≡ cond (lt_z m a) 1 0 + above m xs = sum_by-cons (λ x. cond (lt_z m x) 1 0) a xs in
    let least : place m (a ∷ xs) ≤ cond (lt_z m a) 1 0 + above m xs =
    by_place m a (λ b. cond b (suc (place m xs)) 0 ≤ cond b 1 0 + above m xs) (λ less. omega (arith, place_most m xs)) (λ most. omega arith) in
    omega (arith, counted, least)

-- ---- sums of the first ones, with one more number
pub rise_none : (x : ℕ) → rise x [] ≡ pos 0
rise_none zero = refl
rise_none (suc x) = refl

-- a size is within the list, or the number is at least 0
abbrev Reaches : ℤ → ℕ → List ℤ → Type 0
Reaches m x xs = (x ≤ length xs) ⊎ (pos 0 ≤ℤ m)

-- up to its place nothing changes
rise_before : (m : ℤ) (x : ℕ) (xs : List ℤ) → x ≤ place m xs → rise x (inserted m xs) ≡ rise x xs
rise_before m zero xs within = refl
rise_before m (suc x) [] within = absurd (omega (arith, within))
rise_before m (suc x) (a ∷ xs) within =
    by_place m a (λ b. suc x ≤ cond b (suc (place m xs)) 0 → rise (suc x) (cond b (a ∷ inserted m xs) (m ∷ a ∷ xs)) ≡ a +ℤ rise x xs)
    (λ less h. ap (λ (z : ℤ). a +ℤ z) (rise_before m x xs (omega (arith, h)))) (λ most h. absurd (omega (arith, h))) within

-- from there on it is in the sums, which have one more term
rise_behind : (m : ℤ) (x : ℕ) (xs : List ℤ) → place m xs ≤ x → rise (suc x) (inserted m xs) ≡ rise x xs +ℤ m
rise_behind m x [] from = omega (arith, ints, rise_none x)
rise_behind m zero (a ∷ xs) from =
    by_place m a (λ b. cond b (suc (place m xs)) 0 ≤ zero → rise 1 (cond b (a ∷ inserted m xs) (m ∷ a ∷ xs)) ≡ pos 0 +ℤ m)
    (λ less h. absurd (omega (arith, h))) (λ most h. omega (arith, ints)) from
rise_behind m (suc x) (a ∷ xs) from =
    by_place m a (λ b. cond b (suc (place m xs)) 0 ≤ suc x → rise (suc (suc x)) (cond b (a ∷ inserted m xs) (m ∷ a ∷ xs)) ≡ (a +ℤ rise x xs) +ℤ m)
    (λ less h. omega (arith, ints, rise_behind m x xs (omega (arith, h)))) (λ most h. omega (arith, ints)) from

-- one more term than without it is at least as high as with it at the end
rise_with : (m : ℤ) (x : ℕ) (xs : List ℤ) → (rise x xs +ℤ m) ≤ℤ rise (suc x) (inserted m xs)
rise_with m x [] = omega (arith, ints, rise_none x)
rise_with m zero (a ∷ xs) =
    by_place m a (λ b. (pos 0 +ℤ m) ≤ℤ rise 1 (cond b (a ∷ inserted m xs) (m ∷ a ∷ xs)))
    (λ less. omega (arith, ints, less)) (λ most. omega (arith, ints))
rise_with m (suc x) (a ∷ xs) =
    by_place m a (λ b. ((a +ℤ rise x xs) +ℤ m) ≤ℤ rise (suc (suc x)) (cond b (a ∷ inserted m xs) (m ∷ a ∷ xs)))
    (λ less. omega (arith, ints, rise_with m x xs)) (λ most. omega (arith, ints))

-- numbers of at most m add at most m each
rise_gently : (m : ℤ) (x : ℕ) (xs : List ℤ) → Descends m xs → Reaches m (suc x) xs → rise (suc x) xs ≤ℤ (rise x xs +ℤ m)
rise_gently m x [] falls (inl within) = absurd (omega (arith, within))
rise_gently m x [] falls (inr pays) = omega (arith, ints, pays, rise_none x)
rise_gently m zero (a ∷ xs) falls reaches = omega (arith, ints, falls.0)
rise_gently m (suc x) (a ∷ xs) falls reaches =
    let behind = rise_gently m x xs (descends_more a m xs falls.0 falls.1) (less m x a xs reaches) in
    omega (arith, ints, behind)
  where
    less : (n : ℤ) (y : ℕ) (b : ℤ) (ys : List ℤ) → Reaches n (suc (suc y)) (b ∷ ys) → Reaches n (suc y) ys
    less n y b ys (inl within) = inl (omega (arith, within))
    less n y b ys (inr pays) = inr pays

-- it lifts every sum that the list reaches
rise_more : (m top : ℤ) (x : ℕ) (xs : List ℤ) → Descends top xs → Reaches m x xs → rise x xs ≤ℤ rise x (inserted m xs)
rise_more m top zero xs falls reaches = omega (arith, ints)
rise_more m top (suc x) [] falls (inl within) = absurd (omega (arith, within))
rise_more m top (suc x) [] falls (inr pays) = omega (arith, ints, pays, rise_none x)
rise_more m top (suc x) (a ∷ xs) falls reaches =
    by_place m a (λ b. (a +ℤ rise x xs) ≤ℤ rise (suc x) (cond b (a ∷ inserted m xs) (m ∷ a ∷ xs)))
    (λ less. omega (arith, ints, rise_more m a x xs falls.1 (fewer m x a xs reaches)))
    (λ most. omega (arith, ints, rise_gently m x (a ∷ xs) (most, falls.1) reaches))
  where
    fewer : (n : ℤ) (y : ℕ) (b : ℤ) (ys : List ℤ) → Reaches n (suc y) (b ∷ ys) → Reaches n y ys
    fewer n y b ys (inl within) = inl (omega (arith, within))
    fewer n y b ys (inr pays) = inr pays

-- ---- two lists
-- no sum of the first's is above the second's
abbrev pub AreBelow : List ℤ → List ℤ → Type 0
AreBelow xs ys = (x : ℕ) → rise x xs ≤ℤ rise x ys

-- a number is at least 0, or those of the first list that are above it are no more than the second's
abbrev Fits : ℤ → List ℤ → List ℤ → Type 0
Fits m xs ys = (above m xs ≤ length ys) ⊎ (pos 0 ≤ℤ m)

to_reach : (m : ℤ) (x : ℕ) (xs ys : List ℤ) → Fits m xs ys → x ≤ place m xs → Reaches m x ys
to_reach m x xs ys (inl few) within = inl (omega (arith, few, within, place_most m xs))
to_reach m x xs ys (inr pays) within = inr pays

with_more : (m : ℤ) (xs ys : List ℤ) → AreFalling ys → Fits m xs ys → AreBelow xs ys → AreBelow (inserted m xs) (inserted m ys)
with_more m xs ys falls fits below zero = omega (arith, ints)
with_more m xs ys falls fits below (suc x) = elim (cases_lt x (place m xs)) [
  | inl early ↦
      let within : suc x ≤ place m xs = omega (arith, early) in
      omega (arith, ints, rise_before m (suc x) xs within, below (suc x), rise_more m falls.0 (suc x) ys falls.1 (to_reach m (suc x) xs ys fits within))
  | inr late ↦ omega (arith, ints, rise_behind m x xs late, below x, rise_with m x ys)
]

without_more : (m : ℤ) (xs ys : List ℤ) → AreFalling xs → Fits m ys xs → AreBelow (inserted m xs) (inserted m ys) → AreBelow xs ys
without_more m xs ys falls fits below x = elim (cases_lt x (place m ys)) [
  | inl early ↦
      let within : x ≤ place m ys = omega (arith, early) in
      omega (arith, ints, rise_before m x ys within, below x, rise_more m falls.0 x xs falls.1 (to_reach m x ys xs fits within))
  | inr late ↦ omega (arith, ints, rise_behind m x ys late, below (suc x), rise_with m x xs)
]

-- each number is at least 0, or those of each list that are above it are no more than the other's
abbrev pub AllFit : List ℤ → List ℤ → List ℤ → Type 0
AllFit ms xs ys = (m : ℤ) → Contains ms m → ((above m xs ≤ length ys) × (above m ys ≤ length xs)) ⊎ (pos 0 ≤ℤ m)

fits_among : (m : ℤ) (ms xs ys : List ℤ) → ((above m xs ≤ length ys) × (above m ys ≤ length xs)) ⊎ (pos 0 ≤ℤ m)
    → Fits m (all_inserted ms xs) (all_inserted ms ys) × Fits m (all_inserted ms ys) (all_inserted ms xs)
fits_among m ms xs ys (inl few) =
    let some = count_by-le-length (lt_z m) ms in
    let one = all_inserted_sum (λ a. cond (lt_z m a) 1 0) ms xs in
    let other = all_inserted_sum (λ a. cond (lt_z m a) 1 0) ms ys in
    (inl (omega (arith, few.0, some, one, all_inserted_length ms ys)), inl (omega (arith, few.1, some, other, all_inserted_length ms xs)))
fits_among m ms xs ys (inr pays) = (inr pays, inr pays)

-- the same numbers in both lists change nothing
pub same_with_all : (ms xs ys : List ℤ) → AreFalling xs → AreFalling ys → AllFit ms xs ys
    → AreBelow xs ys ↔ AreBelow (all_inserted ms xs) (all_inserted ms ys)
same_with_all [] xs ys falls_xs falls_ys fit = (λ below. below, λ below. below)
same_with_all (m ∷ ms) xs ys falls_xs falls_ys fit =
    let rest = same_with_all ms xs ys falls_xs falls_ys (λ n h. fit n (Contains-later m n ms h)) in
    let fits = fits_among m ms xs ys (fit m (Contains-head m ms)) in (
      λ below. with_more m (all_inserted ms xs) (all_inserted ms ys) (all_inserted_falls ms ys falls_ys) fits.0 (rest.0 below),
      λ below. rest.1 (without_more m (all_inserted ms xs) (all_inserted ms ys) (all_inserted_falls ms xs falls_xs) fits.1 below),
    )

-- ---- falling lists of the same numbers
-- sums over all are the same, whatever is added up
abbrev pub AddUpAlike : List ℤ → List ℤ → Type 0
AddUpAlike xs ys = (f : ℤ → ℕ) → sum_by f xs ≡ sum_by f ys

none_above : (top : ℤ) (xs : List ℤ) → Descends top xs → above top xs ≡ 0
none_above top [] falls = refl
none_above top (a ∷ xs) falls =
    let here : ◌≡◌ {A = ℕ} (cond (lt_z top a) 1 0) 0 = ap (λ (b : Bool). cond b 1 0) (not_above top a falls.0) in
    omega (arith, here, none_above top xs (descends_more a top xs falls.0 falls.1), sum_by-cons (λ x. cond (lt_z top x) 1 0) a xs)

first_most : (a b : ℤ) (xs ys : List ℤ) → Descends a xs → AddUpAlike (a ∷ xs) (b ∷ ys) → b ≤ℤ a
first_most a b xs ys falls alike =
    by_lt_z a b
    (λ less.
    let none : above a (a ∷ xs) ≡ 0 = none_above a (a ∷ xs) (omega (arith, ints), falls) in
    let one : ◌≡◌ {A = ℕ} (cond (lt_z a b) 1 0) 1 = ap (λ (c : Bool). cond c 1 0) (is_above a b less) in
    absurd (omega (arith, none, one, alike (λ x. cond (lt_z a x) 1 0), sum_by-cons (λ x. cond (lt_z a x) 1 0) b ys)))
    (λ most. most)

pub same_falling : (xs ys : List ℤ) → AreFalling xs → AreFalling ys → AddUpAlike xs ys → xs ≡ ys
same_falling xs ys falls_xs falls_ys alike = same falls_xs.0 falls_ys.0 xs ys falls_xs.1 falls_ys.1 alike
  where
    same : (s t : ℤ) (vs ws : List ℤ) → Descends s vs → Descends t ws → AddUpAlike vs ws → vs ≡ ws
    same s t [] [] one other h = refl
    same s t [] (w ∷ ws) one other h = absurd (omega (arith, h (λ v. 1), sum_by-cons (λ v. 1) w ws))
    same s t (v ∷ vs) [] one other h = absurd (omega (arith, h (λ z. 1), sum_by-cons (λ z. 1) v vs))
    same s t (v ∷ vs) (w ∷ ws) one other h =
        let first : v ≡ w = omega (arith, ints, first_most v w vs ws one.1 h, first_most w v ws vs other.1 (λ f. sym (h f))) in
        let rest = same v w vs ws one.1 other.1
        (λ f. omega (arith, h f, ap f first, sum_by-cons f v vs, sum_by-cons f w ws)) in
        λ i. first i ∷ rest i
