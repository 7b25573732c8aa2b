-- Sums of fees and sizes over places, and weights.
use Rattle.std.proofs.Common.{◌≡◌, ℕ, ◌+◌, ◌*◌, ◌^◌, ◌<◌, ◌≤◌, true, List, [], ◌∷◌, ◌++◌, length, set, ℤ, pos, ◌+ℤ◌}
use Rattle.std.proofs.Common.{unsigned_abs, sym, ap, ◌∙◌, subst, arith, length-append}
use Rattle.std.specs.Prelude.{Contains}
use Rattle.std.proofs.lemmas.Int.{ints}
use Rattle.std.proofs.lemmas.List.Sums.{sum_by-cons, sum_by-append}
use Rattle.std.specs.Ordering.{nat_cmp}
use Rattle.std.specs.FinSet as fin
use Rattle.graphs.specs.Closures.{Closure, rate_of}
use Rattle.lists.proofs.Entries.{none_in_empty}
use Rattle.arithmetic.proofs.Sums.{total-append}
use Rattle.std.proofs.Math.Nat.{mul-le-mul_left}
use Rattle.bitset.specs.Places.{places, IsWithin}
use Rattle.bitset.specs.Sets.{len-places, Contains-places}
use Rattle.fee_rate.specs.declared.rates.Sum.{Sum}
use Rattle.fee_rate.specs.Limits.{IsRate}
use Rattle.fee_rate.specs.declared.limits.TheConstants.{MAX_FEE, MAX_SIZE}
use Rattle.graphs.specs.Rates.{sums}
use Rattle.graphs.specs.Certificates.{weight_in}
use Rattle.linearize.specs.Graphs.{sum_at}
use Rattle.linearize.specs.Orders.{sums_in}
use Rattle.closure_flow.specs.Closures.{weight_at}
use Rattle.linearize.proofs.Places.{Goes, goes_on, gone, rows_more}

-- ---- the loop that adds fees and sizes
pub record Summed (n : ℕ) (dep : Closure) (s : fin.FinSet nat_cmp) (ys zs : List ℕ) (fee : ℤ) (size : ℕ) : Type 0 where
  pub goes : Goes n s ys zs
  pub fee_is : fee ≡ (sums (sum_at dep) ys).fee
  pub size_is : size ≡ (sums (sum_at dep) ys).size
  pub fee_small : unsigned_abs fee ≤ MAX_FEE * length ys
  pub size_small : size ≤ MAX_SIZE * length ys

pub abs_add : (x y : ℤ) (m k : ℕ) → unsigned_abs x ≤ m → unsigned_abs y ≤ k → unsigned_abs (x +ℤ y) ≤ m + k
abs_add x y m k a b = omega (arith, ints)

pub summed_more : (n : ℕ) (dep : Closure) (s : fin.FinSet nat_cmp) (ys ws zs : List ℕ) (fee : ℤ) (size : ℕ) (p : ℕ) → IsRate (rate_of dep p)
    → Summed n dep s ys ws fee size → ws ≡ p ∷ zs
    → Summed n dep s (ys ++ p ∷ []) zs (fee +ℤ (rate_of dep p).fee) (size + (rate_of dep p).size)
summed_more n dep s ys ws zs fee size p rate h e =
    let longer : length (ys ++ p ∷ []) ≡ length ys + 1 = length-append ys (p ∷ []) in
    let more : MAX_FEE * length (ys ++ p ∷ []) ≡ MAX_FEE * length ys + MAX_FEE = ap (λ (k : ℕ). MAX_FEE * k) longer ∙ omega arith in
    let wider : MAX_SIZE * length (ys ++ p ∷ []) ≡ MAX_SIZE * length ys + MAX_SIZE = ap (λ (k : ℕ). MAX_SIZE * k) longer ∙ omega arith in
    record {
      goes = goes_on n s ys ws zs p h.goes e;
      fee_is = (let t = total-append (λ q. (sum_at dep q).fee) ys (p ∷ []) in let f = h.fee_is in omega (arith, ints, t, f));
      size_is = (let t = sum_by-append (λ q. (sum_at dep q).size) ys (p ∷ []) in let f = h.size_is in let o =
          sum_by-cons (λ q. (sum_at dep q).size) p [] in omega (arith, t, f, o));
      fee_small = subst (λ (m : ℕ). unsigned_abs (fee +ℤ (rate_of dep p).fee) ≤ m) (sym more)
          (abs_add fee (rate_of dep p).fee (MAX_FEE * length ys) MAX_FEE h.fee_small rate.fee);
      size_small = subst (λ (m : ℕ). size + (rate_of dep p).size ≤ m) (sym wider) (let a = h.size_small in let b = rate.size in omega (arith, a, b));
    }

-- what is added fits
pub fee_fits : (fee more : ℤ) (k : ℕ) → unsigned_abs fee ≤ MAX_FEE * k → k < 4096 → unsigned_abs more ≤ MAX_FEE → unsigned_abs (fee +ℤ more) < 2 ^ 63
fee_fits fee more k h few m =
    let a = abs_add fee more (MAX_FEE * k) MAX_FEE h m in
    let b : MAX_FEE * k ≤ MAX_FEE * 4095 = mul-le-mul_left MAX_FEE (let l : k ≤ 4095 = omega arith in l) in
    omega (arith, a, b)

pub size_fits : (size more k : ℕ) → size ≤ MAX_SIZE * k → k < 4096 → more ≤ MAX_SIZE → size + more < 2 ^ 64
size_fits size more k h few m =
    let b : MAX_SIZE * k ≤ MAX_SIZE * 4095 = mul-le-mul_left MAX_SIZE (let l : k ≤ 4095 = omega arith in l) in
    omega (arith, b)

pub summed_small : (n : ℕ) (dep : Closure) (s : fin.FinSet nat_cmp) (ys ws : List ℕ) (fee : ℤ) (size : ℕ) → IsWithin n s → fin.len s ≤ 4096
    → Summed n dep s ys ws fee size → ws ≡ []
    → size ≤ MAX_SIZE * 4096
summed_small n dep s ys ws fee size within few h e =
    let long : length ys ≤ 4096 = (let l = ap length (gone n s ys ws h.goes e) in let k = len-places n s within in omega arith) in
    let b : MAX_SIZE * length ys ≤ MAX_SIZE * 4096 = mul-le-mul_left MAX_SIZE long in
    let z = h.size_small in omega (arith, b, z)

pub summed_all : (n : ℕ) (dep : Closure) (s : fin.FinSet nat_cmp) (ys ws : List ℕ) (fee : ℤ) (size : ℕ) → Summed n dep s ys ws fee size → ws ≡ []
    → (let total_ : Sum = record { fee = fee; size = size } in total_ ≡ sums_in n dep s)
summed_all n dep s ys ws fee size h e =
    let all = gone n s ys ws h.goes e in
    let f : fee ≡ (sums_in n dep s).fee = h.fee_is ∙ ap (λ xs. (sums (sum_at dep) xs).fee) all in
    let z : size ≡ (sums_in n dep s).size = h.size_is ∙ ap (λ xs. (sums (sum_at dep) xs).size) all in
    λ i. record { fee = f i; size = z i }

-- ---- the loop that keeps weights
pub record IsWeight (dep : Closure) (whole : Sum) (t : ℕ) (w : ℤ) : Type 0 where
  pub is : w ≡ weight_in whole (sum_at dep t)
  pub small : unsigned_abs w < 2 ^ 99

pub record Weighed (n : ℕ) (dep : Closure) (s : fin.FinSet nat_cmp) (whole : Sum) (weights : List ℤ) (ys zs : List ℕ) : Type 0 where
  pub goes : Goes n s ys zs
  pub done : (t : ℕ) → Contains ys t → IsWeight dep whole t (weight_at weights t)

pub weighed_start : (n : ℕ) (dep : Closure) (s : fin.FinSet nat_cmp) (whole : Sum) (weights : List ℤ) (zs : List ℕ) → zs ≡ places n s
    → Weighed n dep s whole weights [] zs
weighed_start n dep s whole weights zs e = record { goes = e; done = λ t h. absurd (none_in_empty t h) }

pub weighed_more : (n : ℕ) (dep : Closure) (s : fin.FinSet nat_cmp) (whole : Sum) (weights : List ℤ) (ys ws zs : List ℕ) (t : ℕ) (w : ℤ)
    → Weighed n dep s whole weights ys ws → ws ≡ t ∷ zs → t < length weights
    → IsWeight dep whole t w → Weighed n dep s whole (set weights t w) (ys ++ t ∷ []) zs
weighed_more n dep s whole weights ys ws zs t w h e inside is = record {
  goes = goes_on n s ys ws zs t h.goes e;
  done = rows_more (pos 0) (IsWeight dep whole) weights ys t w inside h.done is;
}

pub weighed_all : (n : ℕ) (dep : Closure) (s : fin.FinSet nat_cmp) (whole : Sum) (weights : List ℤ) (ys ws : List ℕ) → IsWithin n s
    → Weighed n dep s whole weights ys ws → ws ≡ []
    → (t : ℕ) → fin.contains s t ≡ true → IsWeight dep whole t (weight_at weights t)
weighed_all n dep s whole weights ys ws within h e t m =
    h.done t (subst (λ xs. Contains xs t) (sym (gone n s ys ws h.goes e)) (Contains-places n s t (within t m) m))
