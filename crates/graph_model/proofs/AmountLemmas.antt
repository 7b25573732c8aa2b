-- The amounts of a certificate are small: what a name sends is at most what the names before it lack.
use Rattle.std.proofs.Common.{◌≡◌, ℕ, ◌+◌, ◌*◌, ◌^◌, ◌≤◌, List, [], ◌∷◌, pos, ℤ, ◌-ℤ◌, ◌*ℤ◌, arith, length, unsigned_abs, sum_by}
use Rattle.std.specs.Prelude.{Contains, All}
use Rattle.std.proofs.lemmas.Int.{ints}
use Rattle.std.proofs.lemmas.List.Elements.{All-nil, All-cons}
use Rattle.lists.proofs.Entries.{Contains-head, Contains-later}
use Rattle.lists.specs.Distinct.{AreDistinct}
use Rattle.arithmetic.proofs.Sums.{total_within, sum_by_within}
use Rattle.arithmetic.proofs.Bounds.{product_bound}
use Rattle.fee_rate.specs.declared.limits.TheConstants.{MAX_FEE, MAX_SIZE}
use Rattle.fee_rate.specs.declared.rates.Sum.{Sum}
use Rattle.fee_rate.specs.Limits.{IsFee, IsSize}
use Rattle.graphs.specs.declared.names.Flow.{Flow}
use Rattle.graphs.specs.Rates.{sums}
use Rattle.graphs.specs.Certificates.{given, gotten, weight_in, Certifies}
use Rattle.graphs.proofs.FlowLemmas.{lacks, weight_of_flows}

pub all_of : {A : Type 0} (P : A → Type 0) (xs : List A) → ((x : A) → Contains xs x → P x) → All P xs
all_of P [] holds = All-nil P
all_of P (x ∷ xs) holds = All-cons P x xs (holds x (Contains-head x xs)) (all_of P xs (λ y here. holds y (Contains-later x y xs here)))

-- sums over at most 128 names whose fees and sizes are in range
pub record IsSmallSum (sum : Sum) : Type 0 where
  pub fee : unsigned_abs sum.fee ≤ MAX_FEE * 128
  pub size : sum.size ≤ MAX_SIZE * 128

pub small_sum : (rate : ℕ → Sum) (ids : List ℕ) → length ids ≤ 128
    → ((id : ℕ) → Contains ids id → IsFee (rate id).fee × IsSize (rate id).size) → IsSmallSum (sums rate ids)
small_sum rate ids few fine =
    let fees = total_within (λ id. (rate id).fee) MAX_FEE ids (all_of (λ id. unsigned_abs ((rate id).fee) ≤ MAX_FEE) ids (λ id here. (fine id here).0)) in
    let sizes = sum_by_within (λ id. (rate id).size) MAX_SIZE ids (λ id here. (fine id here).1.1) in
    record { fee = omega (arith, fees, few); size = omega (arith, sizes, few) }

apart_small : (x y : ℤ) (m : ℕ) → unsigned_abs x ≤ m → unsigned_abs y ≤ m → unsigned_abs (x -ℤ y) ≤ m + m
apart_small x y m one two = omega (arith, ints)

weight_small : (whole own : Sum) → IsSmallSum whole → IsSmallSum own → unsigned_abs (weight_in whole own) ≤ 10 ^ 30
weight_small whole own one two =
    let a = product_bound own.fee whole.size (MAX_FEE * 128) (MAX_SIZE * 128) two.fee one.size in
    let b = product_bound whole.fee own.size (MAX_FEE * 128) (MAX_SIZE * 128) one.fee two.size in
    let all = apart_small (own.fee *ℤ pos whole.size) (whole.fee *ℤ pos own.size) (MAX_FEE * 128 * (MAX_SIZE * 128)) a b in
    omega (arith, all)

lacking : (w : ℤ) (out come amount : ℕ) → w ≡ pos out -ℤ pos come → out + amount ≤ come → amount ≤ unsigned_abs w
lacking w out come amount is less = omega (arith, ints)

-- a flow into the first names of a part, from outside them
pub amount_small : (rate : ℕ → Sum) (IsLink : ℕ → ℕ → Type 0) (ids front : List ℕ) (flows : List Flow) (into : Flow)
    → Certifies rate IsLink ids flows → AreDistinct front
    → ((id : ℕ) → Contains front id → Contains ids id) → Contains flows into
    → ((flow : Flow) → Contains flows flow → Contains front flow.child → Contains front flow.parent)
    → Contains front into.parent → (Contains front into.child → ⊥)
    → IsSmallSum (sums rate ids) → IsSmallSum (sums rate front) → into.amount ≤ 10 ^ 30
amount_small rate IsLink ids front flows into certified once inside here stays parent child whole own =
    let is = weight_of_flows rate IsLink ids front flows certified inside in
    let small = weight_small (sums rate ids) (sums rate front) whole own in
    let less = lacking (weight_in (sums rate ids) (sums rate front)) (sum_by (given flows) front)
    (sum_by (gotten flows) front) into.amount is (lacks front once flows into here stays parent child) in
    omega (arith, small, less)
