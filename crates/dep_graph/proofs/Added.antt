-- Room for one more member.
use Rattle.std.proofs.Common.{◌≡◌, ℕ, zero, suc, ◌+◌, ◌<◌, ◌≤◌, Bool, true, cond, ◌||◌, nat_eq, ◌∷◌, length, filter, inl, inr, refl}
use Rattle.std.proofs.Common.{ap, ◌∙◌, arith}
use Rattle.std.proofs.lemmas.Bool.{cases_lt}
use Rattle.std.specs.List.{range_with_len}
use Rattle.std.specs.Ordering.{nat_cmp}
use Rattle.std.specs.FinSet as fin
use Rattle.lists.proofs.Cases.{or_false}
use Rattle.bitset.specs.Places.{IsWithin}
use Rattle.bitset.specs.Sets.{len-places, contains-insert, contains-empty}

all_pass : (f : ℕ → Bool) (a n : ℕ) → ((k : ℕ) → k < a + n → f k ≡ true) → length (filter f (range_with_len a n)) ≡ n
all_pass f a zero each = refl
all_pass f a (suc n) each =
    ap (λ b. length (cond b (a ∷ filter f (range_with_len (a + 1) n)) (filter f (range_with_len (a + 1) n)))) (each a (omega arith))
    ∙ ap suc (all_pass f (a + 1) n (λ k h. each k (omega arith)))

-- where fewer than n are members, the least free place is below n
pub free_low : (n place used : ℕ) (members all : fin.FinSet nat_cmp) → IsWithin n members → members ≡ all → fin.len all < n
    → ((p : ℕ) → p < place → fin.contains members p ≡ true) → place ≤ used → used ≤ n → place < n
free_low n place used members all within same fewer least low room =
    elim (cases_lt place n) as (λ _. place < n) [
      | inl h ↦ h
      | inr h ↦ absurd (
          let many : fin.len members ≡ n = len-places n members within ∙ all_pass (fin.contains members) 0 n (λ k b. least k (omega arith)) in
          let few : fin.len members < n = rw same fewer in
          omega arith)
    ]

-- what is kept of all members reaches up to the least free place
pub reached : (place : ℕ) (members : fin.FinSet nat_cmp) (len k : ℕ) → ((p : ℕ) → p < place → fin.contains members p ≡ true)
    → IsWithin k members → len ≡ k → place ≤ len
reached zero members len k least within e = omega arith
reached (suc q) members len k least within e = let low : q < k = within q (least q (omega arith)) in omega arith

-- the set of one place
pub contains-only : (place q : ℕ) → fin.contains {R = nat_cmp} (fin.insert fin.empty place) q ≡ nat_eq q place
contains-only place q = contains-insert fin.empty place q ∙ ap (λ b. nat_eq q place || b) (contains-empty q) ∙ or_false (nat_eq q place)
