-- Lists of numbers: what is the same about lists with the same numbers.
use Rattle.std.proofs.Common.{◌≡◌, ℕ, suc, ◌<◌, ◌≤◌, List, [], ◌∷◌, length, subst, arith}
use Rattle.std.specs.Prelude.{Contains, nat_eq}
use Rattle.std.specs.List.{IsDistinct, AllPairs}
use Rattle.std.specs.Cmp.{nat_eq_equiv}
use Rattle.std.proofs.lemmas.Bool.Decides.{Decides-eqb}
use Rattle.std.proofs.lemmas.Map.Made.{is_member-Decides, length-le_from_is_member}
use Rattle.std.proofs.lemmas.List.Kept.{AllPairs-from_increasing}
use Rattle.lists.proofs.Follows.{Follow, follow_once}
use Rattle.graphs.specs.Graphs.{Lists}

-- a list of numbers that differ, all of them among others, isn't longer than those
pub length-within : (xs ys : List ℕ) → IsDistinct nat_eq xs → ((x : ℕ) → Contains xs x → Contains ys x) → length xs ≤ length ys
length-within xs ys apart inside =
    length-le_from_is_member nat_eq_equiv xs ys apart (λ q is. (is_member-Decides Decides-eqb ys q).1 (inside q ((is_member-Decides Decides-eqb xs q).0 is)))

-- in a list whose numbers all rise, the first is below the others, and those rise too
head_below : (x : ℕ) (xs : List ℕ) → AllPairs (λ a b. a < b) (x ∷ xs) → (y : ℕ) → Contains xs y → x < y
head_below x xs rising y h = subst (λ (n : ℕ). x < n) h.2 (rising 0 (suc h.0) y (omega arith) (omega (arith, h.1)))

tail_rises : (x : ℕ) (xs : List ℕ) → AllPairs (λ a b. a < b) (x ∷ xs) → AllPairs (λ a b. a < b) xs
tail_rises x xs rising i j d before below = rising (suc i) (suc j) d (omega arith) (omega arith)

rising_follow : (xs : List ℕ) → AllPairs (λ a b. a < b) xs → Follow (λ a b. a < b) xs
rising_follow [] rising = tt
rising_follow (x ∷ xs) rising = (head_below x xs rising, rising_follow xs (tail_rises x xs rising))

-- a property has one list of its numbers in rising order
pub Lists-same : (P : ℕ → Type 0) (xs ys : List ℕ) → Lists P xs → Lists P ys → xs ≡ ys
Lists-same P xs ys one other =
    follow_once (λ a b. a < b) (λ x y one other. omega (arith, one, other)) xs ys
    (rising_follow xs (AllPairs-from_increasing xs one.rising)) (rising_follow ys (AllPairs-from_increasing ys other.rising))
    (λ q h. (other.exact q).1 ((one.exact q).0 h)) (λ q h. (one.exact q).1 ((other.exact q).0 h))

-- it lists every property that the same numbers have
pub Lists-for : (P Q : ℕ → Type 0) (xs : List ℕ) → ((q : ℕ) → P q → Q q) → ((q : ℕ) → Q q → P q) → Lists P xs → Lists Q xs
Lists-for P Q xs there here lists = record { rising = lists.rising; exact = λ q. (λ h. there q ((lists.exact q).0 h), λ h. (lists.exact q).1 (here q h)) }
