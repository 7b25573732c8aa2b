use Rattle.std.proofs.Common.{rules, ◌≡◌, ℕ, ◌*◌, ◌^◌, ◌<◌, ◌≤◌, ℤ, pos, ◌-ℤ◌, ◌*ℤ◌, unsigned_abs, to_z, of_z, FitsSigned, ap, ◌∙◌, arith}
use Rattle.std.proofs.lemmas.Int.{ints, fits_signed_from_abs, to_z-of_z}
use Rattle.std.specs.Int.{w64, w128}
use Rattle.arithmetic.proofs.Bounds.{product_bound}
use Rattle.fee_rate.specs.declared.limits.TheConstants.{MAX_SIZE}
use Rattle.linearize.proofs.split.weight.Goals as goal

kept : (z : ℤ) → unsigned_abs z < 2 ^ 127 → to_z w128 (of_z w128 z) ≡ z
kept z small = to_z-of_z w128 z (fits_signed_from_abs w128 z (omega arith))

-- the difference of two that are small is kept
differ : (a b : ℤ) → unsigned_abs a < 2 ^ 114 → unsigned_abs b < 2 ^ 114 → to_z w128 (of_z w128 (to_z w128 (of_z w128 a) -ℤ to_z w128 (of_z w128 b))) ≡ a -ℤ b
differ a b low high =
    ap (λ (z : ℤ). to_z w128 (of_z w128 z)) (λ i. kept a (omega arith) i -ℤ kept b (omega arith) i) ∙ kept (a -ℤ b) (omega (arith, ints, low, high))

product_is : (a f g : ℤ) (s : ℕ) → a ≡ to_z w128 (of_z w128 f) *ℤ pos s → f ≡ g → unsigned_abs g < 2 ^ 64 → a ≡ g *ℤ pos s
product_is a f g s is same small = is ∙ ap (λ (z : ℤ). to_z w128 (of_z w128 z) *ℤ pos s) same ∙ ap (λ (z : ℤ). z *ℤ pos s) (kept g (omega arith))

bounded : (a f : ℤ) (s : ℕ) → a ≡ f *ℤ pos s → unsigned_abs f ≤ 2 ^ 63 → s ≤ MAX_SIZE * 4096 → unsigned_abs a ≤ 2 ^ 63 * (MAX_SIZE * 4096)
bounded a f s is fee size = omega (arith, ap unsigned_abs is, product_bound f s (2 ^ 63) (MAX_SIZE * 4096) fee size)

small : (z : ℤ) → FitsSigned w64 z → unsigned_abs z ≤ 2 ^ 63
small z fits = omega (arith, ints, fits)

pub returns-clause-is : goal.returns-clause-is
returns-clause-is c =
    let above : c.product.result ≡ c.args.own.fee *ℤ pos c.args.whole.size =
    product_is _ _ c.args.own.fee c.args.whole.size c.product.ensures.product (c.from.ensures ∙ to_z-of_z w64 c.args.own.fee (search rules))
    (omega arith) in
    let fine : FitsSigned w64 c.args.whole.fee = search rules in
    let below : c.product-2.result ≡ c.args.whole.fee *ℤ pos c.args.own.size =
    product_is _ _ c.args.whole.fee c.args.own.size c.product-2.ensures.product (c.from-2.ensures ∙ to_z-of_z w64 c.args.whole.fee fine)
    (omega (arith, small c.args.whole.fee fine)) in
    differ c.product.result c.product-2.result c.product.ensures.level c.product-2.ensures.level ∙ (λ i. above i -ℤ below i)

pub returns-clause-small : goal.returns-clause-small
returns-clause-small c =
    let above : c.product.result ≡ c.args.own.fee *ℤ pos c.args.whole.size =
    product_is _ _ c.args.own.fee c.args.whole.size c.product.ensures.product (c.from.ensures ∙ to_z-of_z w64 c.args.own.fee (search rules))
    (omega arith) in
    let fine : FitsSigned w64 c.args.whole.fee = search rules in
    let below : c.product-2.result ≡ c.args.whole.fee *ℤ pos c.args.own.size =
    product_is _ _ c.args.whole.fee c.args.own.size c.product-2.ensures.product (c.from-2.ensures ∙ to_z-of_z w64 c.args.whole.fee fine)
    (omega (arith, small c.args.whole.fee fine)) in
    let one = bounded c.product.result c.args.own.fee c.args.whole.size above (omega arith) c.requires.size in
    let two = bounded c.product-2.result c.args.whole.fee c.args.own.size below (small c.args.whole.fee fine) (omega (arith, c.requires.own.size)) in
    let is = differ c.product.result c.product-2.result c.product.ensures.level c.product-2.ensures.level in
    omega (arith, ints, ap unsigned_abs is, one, two)
