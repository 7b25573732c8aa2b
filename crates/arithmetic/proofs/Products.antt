-- Laws of products of integers that std lacks. An integer z is read as `up z - down z`, so each is a fact about products of naturals.
use Rattle.std.proofs.Common.{◌≡◌, ℕ, ◌*◌, ◌<◌, ℤ, pos, ◌+ℤ◌, ◌-ℤ◌, ◌*ℤ◌, neg_ℤ, ◌≤ℤ◌, ◌<ℤ◌, sym, ap, ap₂, ◌∙◌, arith}
use Rattle.std.proofs.lemmas.Int.{ints, by_lt_z}
use Rattle.std.proofs.Math.IntN.{*ℤ_comm}
use Rattle.std.proofs.Math.Nat.{mul-le-mul_left, mul-lt-mul_of_pos_right}
use Rattle.std.specs.Int.Signed.{clash_ℤ}
use borrow.Author.Differences.{up, down, sum_is_lem, product_is, neg_is, le_out, lt_out}

pub mul_assoc_ℤ : (a b c : ℤ) → (a *ℤ b) *ℤ c ≡ a *ℤ (b *ℤ c)
mul_assoc_ℤ a b c =
    let p = product_is a b in
    let q = product_is b c in
    omega (
      arith,
      ints,
      ap (λ (n : ℕ). n * up c) p.0,
      ap (λ (n : ℕ). n * down c) p.0,
      ap (λ (n : ℕ). n * up c) p.1,
      ap (λ (n : ℕ). n * down c) p.1,
      ap (λ (n : ℕ). up a * n) q.0,
      ap (λ (n : ℕ). down a * n) q.0,
      ap (λ (n : ℕ). up a * n) q.1,
      ap (λ (n : ℕ). down a * n) q.1,
    )

pub mul-add_left : (a b c : ℤ) → (a +ℤ b) *ℤ c ≡ (a *ℤ c) +ℤ (b *ℤ c)
mul-add_left a b c =
    let s = sum_is_lem a b in
    omega (arith, ints, ap (λ (n : ℕ). n * up c) s, ap (λ (n : ℕ). n * down c) s)

pub mul-add_right : (a b c : ℤ) → a *ℤ (b +ℤ c) ≡ (a *ℤ b) +ℤ (a *ℤ c)
mul-add_right a b c = *ℤ_comm a (b +ℤ c) ∙ mul-add_left b c a ∙ ap₂ (λ (m n : ℤ). m +ℤ n) (*ℤ_comm b a) (*ℤ_comm c a)

pub mul_swap_ℤ : (a b c : ℤ) → (a *ℤ b) *ℤ c ≡ (a *ℤ c) *ℤ b
mul_swap_ℤ a b c = mul_assoc_ℤ a b c ∙ ap (λ (n : ℤ). a *ℤ n) (*ℤ_comm b c) ∙ sym (mul_assoc_ℤ a c b)

pub neg-mul : (a c : ℤ) → neg_ℤ a *ℤ c ≡ neg_ℤ (a *ℤ c)
neg-mul a c =
    let s = neg_is a in
    omega (
      arith,
      ints,
      ap (λ (n : ℕ). n * up c) s.0,
      ap (λ (n : ℕ). n * down c) s.0,
      ap (λ (n : ℕ). n * up c) s.1,
      ap (λ (n : ℕ). n * down c) s.1,
    )

pub mul-neg : (a c : ℤ) → a *ℤ neg_ℤ c ≡ neg_ℤ (a *ℤ c)
mul-neg a c = *ℤ_comm a (neg_ℤ c) ∙ neg-mul c a ∙ ap neg_ℤ (*ℤ_comm c a)

pub mul-sub_left : (a b c : ℤ) → (a -ℤ b) *ℤ c ≡ (a *ℤ c) -ℤ (b *ℤ c)
mul-sub_left a b c = mul-add_left a (neg_ℤ b) c ∙ ap (λ (n : ℤ). (a *ℤ c) +ℤ n) (neg-mul b c)

pub mul-sub_right : (a b c : ℤ) → a *ℤ (b -ℤ c) ≡ (a *ℤ b) -ℤ (a *ℤ c)
mul-sub_right a b c = mul-add_right a b (neg_ℤ c) ∙ ap (λ (n : ℤ). (a *ℤ b) +ℤ n) (mul-neg a c)

-- a product by a natural keeps order
pub scale_keeps : (n : ℕ) (a b : ℤ) → a ≤ℤ b → (a *ℤ pos n) ≤ℤ (b *ℤ pos n)
scale_keeps n a b h = omega (arith, ints, mul-le-mul_left n (le_out a b h))

-- a product by a positive number keeps strict order
pub scale_keeps_strict : (n : ℕ) (a b : ℤ) → 0 < n → a <ℤ b → (a *ℤ pos n) <ℤ (b *ℤ pos n)
scale_keeps_strict n a b p h = omega (arith, ints, mul-lt-mul_of_pos_right (lt_out a b h) p)

-- a product by a positive number reflects order
pub scale_reflects : (n : ℕ) (a b : ℤ) → 0 < n → (a *ℤ pos n) ≤ℤ (b *ℤ pos n) → a ≤ℤ b
scale_reflects n a b p h = by_lt_z b a (λ less. clash_ℤ (scale_keeps_strict n b a p less) h) (λ le. le)

-- a product by any natural reflects strict order
pub scale_reflects_strict : (n : ℕ) (a b : ℤ) → (a *ℤ pos n) <ℤ (b *ℤ pos n) → a <ℤ b
scale_reflects_strict n a b h = by_lt_z a b (λ less. less) (λ le. clash_ℤ h (scale_keeps n b a le))
