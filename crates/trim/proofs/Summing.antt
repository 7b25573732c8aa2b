-- Fees and sizes of names, summed one by one.
use Rattle.std.proofs.Common.{◌≡◌, ℕ, ◌+◌, ◌<◌, ◌≤◌, List, [], ◌∷◌, ◌++◌, length, take, get_or, sym, ap, ◌∙◌, subst, arith, ℤ, ◌+ℤ◌}
use Rattle.std.specs.Prelude.{Contains, All, unsigned_abs}
use Rattle.std.proofs.lemmas.Int.{ints}
use Rattle.std.proofs.lemmas.List.{take_more, length-take-le}
use Rattle.std.proofs.lemmas.List.Sums.{sum_by-append, sum_by-le}
use Rattle.std.proofs.lemmas.List.Elements.{Contains-get_or, All-take}
use Rattle.arithmetic.proofs.Sums.{total-append, total_within}
use Rattle.fee_rate.specs.declared.limits.TheConstants.{MAX_FEE, MAX_SIZE, MAX_TOTAL}
use Rattle.fee_rate.specs.declared.rates.FeeRate.{FeeRate}
use Rattle.fee_rate.specs.declared.rates.Sum.{Sum}
use Rattle.fee_rate.specs.Limits.{IsRate, IsSum}
use Rattle.fee_rate.specs.Rates.{sum_from}
use Rattle.fee_rate.proofs.Orders.{same_sum}
use Rattle.graphs.specs.Rates.{sums}

module _ (rate : ℕ → FeeRate) (ids : List ℕ) (fine : (id : ℕ) → Contains ids id → IsRate (rate id)) (few : length ids ≤ MAX_TOTAL) where
  abbrev sum_at : ℕ → Sum
  sum_at id = sum_from (rate id)

  -- the sum of the first of them is in range
  pub front_in_range : (k : ℕ) (sum : Sum) → k ≤ length ids → sum ≡ sums sum_at (take k ids) → IsSum sum
  front_in_range k sum short is =
      let fees : All (λ id. unsigned_abs (sum_at id).fee ≤ MAX_FEE) (take k ids) =
      All-take (λ id. unsigned_abs (sum_at id).fee ≤ MAX_FEE) k ids (λ i d below. (fine (get_or ids i d) (Contains-get_or ids i d below)).fee) in
      let sizes : All (λ id. (sum_at id).size ≤ MAX_SIZE) (take k ids) =
      All-take (λ id. (sum_at id).size ≤ MAX_SIZE) k ids (λ i d below. (fine (get_or ids i d) (Contains-get_or ids i d below)).size) in
      let fee = total_within (λ id. (sum_at id).fee) MAX_FEE (take k ids) fees in
      let size = sum_by-le (λ id. (sum_at id).size) MAX_SIZE (take k ids) sizes in
      let long = length-take-le k ids short in
      subst IsSum (sym is) (record { fee = omega (arith, ints); size = omega (arith, ints) })

  -- the sum of one more
  pub sum_next : (k : ℕ) (sum new : Sum) (fee : ℤ) (size : ℕ) → k < length ids → sum ≡ sums sum_at (take k ids) → fee ≡ (sum_at (get_or ids k 0)).fee
      → size ≡ (sum_at (get_or ids k 0)).size → new.fee ≡ sum.fee +ℤ fee → new.size ≡ sum.size + size → new ≡ sums sum_at (take (k + 1) ids)
  sum_next k sum new fee size below is f s nf ns =
      let id : ℕ = get_or ids k 0 in
      let fees : new.fee ≡ (sums sum_at (take k ids ++ id ∷ [])).fee =
      nf ∙ (λ i. (is i).fee +ℤ f i) ∙ omega (arith, ints, total-append (λ x. (sum_at x).fee) (take k ids) (id ∷ [])) in
      let sizes : new.size ≡ (sums sum_at (take k ids ++ id ∷ [])).size =
      ns ∙ (λ i. (is i).size + s i) ∙ omega (arith, sum_by-append (λ x. (sum_at x).size) (take k ids) (id ∷ [])) in
      same_sum new (sums sum_at (take k ids ++ id ∷ [])) fees sizes ∙ ap (λ l. sums sum_at l) (sym (take_more ids k 0 below))
