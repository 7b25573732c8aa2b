-- How many corners a level has at most, and the last of them.
use Rattle.std.proofs.Common.{◌≡◌, ℕ, ℤ, ◌+◌, ◌*◌, ◌<◌, ◌≤◌, List, [], ◌∷◌, ◌++◌, length, Option, Some, refl, sym, subst, arith}
use Rattle.std.specs.Prelude.{Contains}
use Rattle.std.specs.Iterator.{AlwaysYields, Yields}
use Rattle.lists.proofs.Entries.{Contains-head, Contains-later}
use Rattle.fee_rate.specs.declared.limits.TheConstants.{MAX_SIZE, MAX_TOTAL}
use Rattle.diagram.specs.Points.{Rises, AreLevelCorners}
use Rattle.replay.specs.Generations.{last_sum}

pub last_push : (points : List (ℕ × ℤ)) (point : ℕ × ℤ) → last_sum (points ++ point ∷ []) ≡ record { fee = point.1; size = point.0 }
last_push [] point = refl
last_push (p ∷ []) point = refl
last_push (p ∷ q ∷ points) point = last_push (q ∷ points) point

-- sizes rise by one at least, so there are no more corners than the greatest size and one
rising_few : (p : ℕ × ℤ) (points : List (ℕ × ℤ)) (most : ℕ) → Rises (p ∷ points) → ((point : ℕ × ℤ) → Contains (p ∷ points) point → point.0 ≤ most)
    → p.0 + length points ≤ most
rising_few p [] most rises within = let here = within p (Contains-head p []) in omega (arith, here)
rising_few p (q ∷ points) most rises within =
    let rest = rising_few q points most rises.1 (λ point here. within point (Contains-later p point (q ∷ points) here)) in omega (arith, rest, rises.0)

pub corners_few : (points : List (ℕ × ℤ)) → AreLevelCorners points → length points ≤ MAX_SIZE * MAX_TOTAL + 1
corners_few [] level = omega arith
corners_few (p ∷ points) level =
    let all = rising_few p points (MAX_SIZE * MAX_TOTAL) level.rising (λ point here. (level.ranged point here).size) in omega (arith, all)

-- what an iterator gave before one more is less than all that it gives
pub fewer_given : {S A : Type 0} (steps : S → Option A → S → Type 0) (s t u : S) (xs list : List A) (x : A) → AlwaysYields steps (λ x. x) s list
    → Yields steps s xs t → steps t (Some x) u → length xs < length list
fewer_given steps s t u [] [] x always yields more = absurd (always x u (subst (λ k. steps k (Some x) u) (sym yields) more))
fewer_given steps s t u [] (y ∷ list) x always yields more = omega arith
fewer_given steps s t u (y ∷ xs) [] x always yields more = absurd (always y yields.0 yields.1)
fewer_given steps s t u (y ∷ xs) (z ∷ list) x always yields more =
    let first = always.1 y yields.0 yields.1 in
    let rest = fewer_given steps yields.0 t u xs list x first.1 yields.2 more in omega (arith, rest)
