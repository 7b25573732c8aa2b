-- One more weight is summed.
use Rattle.std.proofs.Common.{rules, arith, ◌≡◌, ◌+◌, ◌<◌, [], ◌∷◌, ℕ, List, ℤ, pos, ◌+ℤ◌, SFits, to_z, length, take, get_or, sym, ap, ◌∙◌}
use Rattle.std.specs.Int.{w128}
use Rattle.std.proofs.lemmas.Int.{ints, to_z-of_z}
use Rattle.std.proofs.lemmas.List.{take_more}
use Rattle.arithmetic.specs.Sums.{total}
use Rattle.arithmetic.proofs.Sums.{total-append}
use Rattle.order_tests.proofs.closure_flow_tests.sum_of.Goals as goal

total_more : (xs : List ℤ) (i : ℕ) (d : ℤ) → i < length xs → total (λ z. z) (take (i + 1) xs) ≡ total (λ z. z) (take i xs) +ℤ get_or xs i d
total_more xs i d low =
    let one = total-append (λ (z : ℤ). z) (take i xs) (get_or xs i d ∷ []) in
    ap (total (λ (z : ℤ). z)) (take_more xs i d low) ∙ omega (arith, ints, one)

pub loop-weight-preserved : goal.loop-weight-preserved
loop-weight-preserved c =
    let i = c.loop-weight.weight-index in
    let x = get_or c.args.weights.now i (pos 0) in
    let more = total_more c.args.weights.now i (pos 0) c.loop-weight-test.true in
    let fine : SFits w128 c.in_ok-sum.sum = search rules in
    let step : c.in_ok-sum.sum ≡ c.loop-weight.sum +ℤ x = search rules in
    let same : c.loop-weight.sum ≡ to_z w128 c.loop-weight.sum-bits = (let is = c.loop-weight.sum-is in cc) in
    to_z-of_z w128 c.in_ok-sum.sum fine ∙ step ∙ ap (λ s. s +ℤ x) (same ∙ c.loop-weight.invariant) ∙ sym more
