-- Pairs of numbers: when two are the same, and in which order they stand.
use Rattle.std.proofs.Common.{◌≡◌, ℕ, ◌<◌, ◌≤◌, Bool, true, false, cond, nat_eq, inl, inr, ◌⊎◌, refl, sym, ap, ◌∙◌, subst, arith, lt-ltb, le-ltb, eq-eqb, true≢false}
use Rattle.std.proofs.lemmas.Bool.{cases_order, cases_lt, eqb-true, and_parts, and_from}
use Rattle.std.proofs.lemmas.Cmp.{on_total, then_total}
use Rattle.std.specs.declared.cmp.Ordering.{Ordering}
use Rattle.std.specs.declared.cmp.Ordering.TheVariants.{Less, Equal, Greater}
use Rattle.std.specs.Cmp.{nat_cmp_total, IsTotalOrder}
use Rattle.std.specs.Ordering.{nat_cmp, ordering_then, is_lt}
use Rattle.lists.specs.Pairs.{same_pair}

pub same_pair_is : (x y : ℕ × ℕ) → same_pair x y ≡ true → ◌≡◌ {A = ℕ × ℕ} x y
same_pair_is x y h =
    let (a, b) = and_parts (nat_eq x.0 y.0) (nat_eq x.1 y.1) h in
    ap (λ z. let p : ℕ × ℕ = (z, x.1) in p) (eqb-true x.0 y.0 a) ∙ ap (λ z. let p : ℕ × ℕ = (y.0, z) in p) (eqb-true x.1 y.1 b)

pub pair_is_same : (x y : ℕ × ℕ) → ◌≡◌ {A = ℕ × ℕ} x y → same_pair x y ≡ true
pair_is_same x y e = subst (λ (z : ℕ × ℕ). same_pair x z ≡ true) e (and_from (nat_eq x.0 x.0) (nat_eq x.1 x.1) (eq-eqb x.0 x.0 refl) (eq-eqb x.1 x.1 refl))

-- ---- by their first numbers, then by their second ones

abbrev pub pair_cmp : ℕ × ℕ → ℕ × ℕ → Ordering
pair_cmp x y = ordering_then (nat_cmp x.0 y.0) (nat_cmp x.1 y.1)

pub pair_total : IsTotalOrder pair_cmp
pair_total = then_total (on_total (λ (p : ℕ × ℕ). p.0) nat_cmp_total) (on_total (λ (p : ℕ × ℕ). p.1) nat_cmp_total)

cmp_less : (x y : ℕ) → x < y → nat_cmp x y ≡ Less
cmp_less x y low = ap (λ b. cond b Less (cond (nat_eq x y) Equal Greater)) (lt-ltb x y low)

cmp_equal : (x y : ℕ) → x ≡ y → nat_cmp x y ≡ Equal
cmp_equal x y same =
    ap (λ b. cond b Less (cond (nat_eq x y) Equal Greater)) (le-ltb x y (omega arith)) ∙ ap (λ b. cond b Equal Greater) (eq-eqb x y same)

pub no_later : (a b p q : ℕ) → is_lt (ordering_then (nat_cmp b a) (nat_cmp q p)) ≡ false → (a < b) ⊎ ((a ≡ b) × (p ≤ q))
no_later a b p q e = elim (cases_order a b) as (λ _. (a < b) ⊎ ((a ≡ b) × (p ≤ q))) [
  | inl same ↦ elim (cases_lt q p) as (λ _. (a < b) ⊎ ((a ≡ b) × (p ≤ q))) [
    | inl low ↦ absurd (true≢false (sym (ap is_lt (ap (λ o. ordering_then o (nat_cmp q p)) (cmp_equal b a (sym same)) ∙ cmp_less q p low)) ∙ e))
    | inr high ↦ inr (same, high)
  ]
  | inr other ↦ elim other as (λ _. (a < b) ⊎ ((a ≡ b) × (p ≤ q))) [
    | inl low ↦ inl low
    | inr high ↦ absurd (true≢false (sym (ap (λ o. is_lt (ordering_then o (nat_cmp q p))) (cmp_less b a high)) ∙ e))
  ]
]
