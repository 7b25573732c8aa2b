-- The order of rates, on sums of lists.
use Rattle.std.proofs.Common.{◌≡◌, ◌*◌, ◌^◌, ◌≤◌, List, [], ◌∷◌, ◌++◌, refl, ap, ◌∙◌, length, arith, pos, ◌+ℤ◌, unsigned_abs}
use Rattle.std.specs.Prelude.{All, sum_by}
use Rattle.std.proofs.lemmas.Int.{ints}
use Rattle.std.proofs.lemmas.List.Sums.{sum_by-append, sum_by-cons, sum_by-le}
use Rattle.std.proofs.lemmas.List.Elements.{All-head, All-tail, All-weaker}
use Rattle.arithmetic.specs.Sums.{total}
use Rattle.arithmetic.proofs.Sums.{total-append}
use Rattle.arithmetic.proofs.Products.{mul-add_left, mul-add_right}
use Rattle.arithmetic.proofs.Rates.{cross_trans, cross_trans_strict_left, sum_above_strict, sum_below_strict, sum_above_back_strict, sum_at_most}
use Rattle.fee_rate.specs.declared.rates.FeeRate.{FeeRate}
use Rattle.fee_rate.specs.declared.rates.Sum.{Sum}
use Rattle.fee_rate.specs.Laws.{joined}
use Rattle.fee_rate.specs.Limits.{IsRate, IsSum}
use Rattle.fee_rate.specs.declared.limits.TheConstants.{MAX_FEE, MAX_SIZE}
use Rattle.fee_rate.specs.Rates.{AtMost, Below}
use Rattle.chunking.specs.Chunkings.{sum_of}

-- ---- two sums, and the two joined

pub below_joined : (a b : Sum) → Below a b → Below a (joined a b)
below_joined a b h = record { crossed = sum_above_strict a.fee b.fee a.size b.size h.crossed }

pub joined_below : (a b : Sum) → Below a b → Below (joined a b) b
joined_below a b h = record { crossed = sum_below_strict a.fee b.fee a.size b.size h.crossed }

-- what is below the two joined is below the other
pub below_rest : (a b : Sum) → Below a (joined a b) → Below a b
below_rest a b h = record { crossed = sum_above_back_strict a.fee b.fee a.size b.size h.crossed }

pub below_from_joined : (a b : Sum) → Below (joined a b) b → Below a b
below_from_joined a b h =
    let k = h.crossed in
    record { crossed = omega (arith, ints, mul-add_right b.fee (pos a.size) (pos b.size), mul-add_left a.fee b.fee (pos b.size)) }

pub joined_at_most : (a b c : Sum) → AtMost a c → AtMost b c → AtMost (joined a b) c
joined_at_most a b c h k = record { crossed = sum_at_most a.fee b.fee c.fee a.size b.size c.size h.crossed k.crossed }

-- ---- sums of lists
pub sum_of-append : (xs ys : List FeeRate) → sum_of (xs ++ ys) ≡ joined (sum_of xs) (sum_of ys)
sum_of-append xs ys =
    ap (λ f. let s : Sum = record { fee = f; size = sum_by (λ r. r.size) (xs ++ ys) } in s) (total-append (λ r. r.fee) xs ys)
    ∙ ap (λ n. let s : Sum = record { fee = total (λ r. r.fee) xs +ℤ total (λ r. r.fee) ys; size = n } in s) (sum_by-append (λ r. r.size) xs ys)

abbrev pub Sized : List FeeRate → Type 0
Sized rates = All (λ r. 1 ≤ r.size) rates

pub sized : (rates : List FeeRate) → All IsRate rates → Sized rates
sized rates h = All-weaker IsRate (λ r. 1 ≤ r.size) (λ r k. k.some) rates h

-- where sizes are at least 1, so is the sum of some
pub some_size : (rates : List FeeRate) → Sized rates → (rates ≡ [] → ⊥) → 1 ≤ (sum_of rates).size
some_size [] h n = absurd (n refl)
some_size (r ∷ rs) h n =
    let first : 1 ≤ r.size = All-head (λ r. 1 ≤ r.size) r rs h in
    let e = sum_by-cons (λ (q : FeeRate). q.size) r rs in
    omega arith

fee_within : (rates : List FeeRate) → All IsRate rates → unsigned_abs (total (λ r. r.fee) rates) ≤ MAX_FEE * length rates
fee_within [] h = omega (arith, ints)
fee_within (r ∷ rs) h =
    let first : IsRate r = All-head IsRate r rs h in
    let more = fee_within rs (All-tail IsRate r rs h) in
    let near = first.fee in
    omega (arith, ints)

size_within : (rates : List FeeRate) → All IsRate rates → sum_by (λ r. r.size) rates ≤ length rates * MAX_SIZE
size_within rates h = sum_by-le (λ r. r.size) MAX_SIZE rates (All-weaker IsRate (λ r. r.size ≤ MAX_SIZE) (λ r k. k.size) rates h)

-- at most that many rates in range have a sum in range
pub in_range : (rates : List FeeRate) → All IsRate rates → length rates ≤ 2 ^ 20 → IsSum (sum_of rates)
in_range rates h few =
    let f = fee_within rates h in
    let s = size_within rates h in
    record { fee = omega (arith, ints); size = omega (arith, ints) }
