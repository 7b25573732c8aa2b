-- Weights of sets, what the solver asks of them, and what its answers say: what a set may be cut on, and that it can't be cut.
use Rattle.std.proofs.Common.{◌≡◌, ℕ, zero, suc, ◌^◌, ◌<◌, ◌≤◌, inl, inr, true, List, sum_by, ℤ, pos, ◌+ℤ◌}
use Rattle.std.proofs.Common.{◌≤ℤ◌, ◌<ℤ◌, unsigned_abs, refl, sym, ap, ◌∙◌, subst, arith, le_of_lt}
use Rattle.std.proofs.lemmas.Bool.{cases_Bool}
use Rattle.std.proofs.lemmas.Int.{ints}
use Rattle.std.specs.Ordering.{nat_cmp}
use Rattle.std.specs.FinSet as fin
use Rattle.arithmetic.specs.Sums.{total}
use Rattle.arithmetic.proofs.Sums.{total_along, sum_by_within}
use Rattle.bitset.specs.Members.{in_minus}
use Rattle.bitset.specs.Places.{places, IsWithin}
use Rattle.bitset.specs.Sets.{places-Contains, places-empty, len-places}
use Rattle.lists.proofs.Cases.{clash}
use Rattle.lists.proofs.Keys.{set_drop}
use Rattle.closure_flow.specs.Closures as closure
use Rattle.closure_flow.specs.Closures.{weight_at, weight_of, IsNoneHeavier}
use Rattle.closure_flow.specs.Tight.{IsSmallestTight}
use Rattle.fee_rate.specs.declared.rates.Sum.{Sum}
use Rattle.graphs.proofs.FlowLemmas.{weight_of_sums}
use Rattle.graphs.specs.Closures.{Closure}
use Rattle.graphs.specs.Certificates.{weight_in}
use Rattle.linearize.specs.Graphs.{sum_at}
use Rattle.linearize.specs.Orders.{AreCovers, Balances, sums_in}
use Rattle.linearize.specs.Splits.{IsCut, IsUncut, IsUpper}
use Rattle.linearize.proofs.Sets.{IsSplit, split_minus, total_split, len_split}

-- ---- weights

-- the weight of a set in a whole
abbrev pub value : ℕ → Closure → Sum → fin.FinSet nat_cmp → ℤ
value n dep whole x = weight_in whole (sums_in n dep x)

pub value_split : (n : ℕ) (dep : Closure) (whole : Sum) (s a b : fin.FinSet nat_cmp) → IsSplit s a b
    → value n dep whole s ≡ value n dep whole a +ℤ value n dep whole b
value_split n dep whole s a b split =
    sym (weight_of_sums whole (sum_at dep) (places n s))
    ∙ total_split (λ t. weight_in whole (sum_at dep t)) n s a b split
    ∙ (λ i. weight_of_sums whole (sum_at dep) (places n a) i +ℤ weight_of_sums whole (sum_at dep) (places n b) i)

value_empty : (n : ℕ) (dep : Closure) (whole : Sum) (s : fin.FinSet nat_cmp) → fin.len s ≡ 0 → value n dep whole s ≡ pos 0
value_empty n dep whole s none =
    sym (weight_of_sums whole (sum_at dep) (places n s))
    ∙ ap (λ t. total (λ p. weight_in whole (sum_at dep p)) (places n t)) (fin.empty_of_len s none)
    ∙ ap (total (λ p. weight_in whole (sum_at dep p))) (places-empty n)

-- a set whose weight isn't 0 has a place
valued_some : (n : ℕ) (dep : Closure) (whole : Sum) (x : fin.FinSet nat_cmp) → (value n dep whole x ≡ pos 0 → ⊥) → 0 < fin.len x
valued_some n dep whole x other = positive (fin.len x) refl
  where
    positive : (k : ℕ) → fin.len x ≡ k → 0 < k
    positive zero e = absurd (other (value_empty n dep whole x e))
    positive (suc k) e = omega arith

module _ (n : ℕ) (dep : Closure) (parents : List (fin.FinSet nat_cmp)) (weights : List ℤ) (s : fin.FinSet nat_cmp)
    (are : (t : ℕ) → fin.contains s t ≡ true → weight_at weights t ≡ weight_in (sums_in n dep s) (sum_at dep t)) where
  -- the weight of a set that lies in s
  valued : (x : fin.FinSet nat_cmp) → ((t : ℕ) → fin.contains x t ≡ true → fin.contains s t ≡ true)
      → weight_of n weights x ≡ value n dep (sums_in n dep s) x
  valued x inside =
      total_along (weight_at weights) (λ t. weight_in (sums_in n dep s) (sum_at dep t)) (places n x)
      (λ t h. are t (inside t (places-Contains n x t h).1))
      ∙ weight_of_sums (sums_in n dep s) (sum_at dep) (places n x)

  -- ---- what the solver asks for
  pub weights_even : weight_of n weights s ≡ pos 0
  weights_even = valued s (λ t m. m) ∙ omega (arith, ints)

  -- a balanced flow of these weights balances the set
  pub balances_of : (flow : ℕ → ℕ → ℕ) → closure.IsBalanced n weights parents s flow → Balances n dep parents s flow
  balances_of flow balanced = record { even = λ t m. sym (are t m) ∙ balanced.even t m; pair = balanced.pair }

  -- ---- what its answers say
  module _ (covers : AreCovers dep s parents) where
    to_upper : (x : fin.FinSet nat_cmp) → closure.IsClosed parents s x → IsUpper dep s x
    to_upper x closed = record {
      inside = closed.inside;
      parents = λ p d cover m p_in. closed.upward d p m ((covers.exact p d (closed.inside d m)).1 cover) p_in;
    }

    to_closed : (x : fin.FinSet nat_cmp) → IsUpper dep s x → closure.IsClosed parents s x
    to_closed x upper = record {
      inside = upper.inside;
      upward = λ t p m e p_in. upper.parents p t ((covers.exact p t (upper.inside t m)).0 e) m p_in;
    }

    greatest_of : (c : fin.FinSet nat_cmp) → closure.IsClosed parents s c → IsNoneHeavier n weights parents s (weight_of n weights c)
        → (x : fin.FinSet nat_cmp) → IsUpper dep s x
        → value n dep (sums_in n dep s) x ≤ℤ value n dep (sums_in n dep s) c
    greatest_of c closed greatest x upper =
        let most = greatest x (to_closed x upper) in
        omega (arith, ints, most, valued x upper.inside, valued c closed.inside)

    -- a closed set of positive weight than which none weighs more
    pub best_of : (c : fin.FinSet nat_cmp) → closure.IsClosed parents s c → pos 0 <ℤ weight_of n weights c
        → IsNoneHeavier n weights parents s (weight_of n weights c) → IsCut n dep s c
    best_of c closed positive greatest =
        let whole = value_split n dep (sums_in n dep s) s c (fin.difference s c) (split_minus s c closed.inside) in
        record {
          upper = to_upper c closed;
          some = valued_some n dep (sums_in n dep s) c (λ none. omega (arith, ints, none, positive, valued c closed.inside));
          others = valued_some n dep (sums_in n dep s) (fin.difference s c)
              (λ none. omega (arith, ints, none, positive, valued c closed.inside, whole));
          greatest = greatest_of c closed greatest;
        }

    -- the smallest tight set, where it isn't all
    pub cut_on : (c : fin.FinSet nat_cmp) → IsWithin n s → IsNoneHeavier n weights parents s (pos 0)
        → IsSmallestTight n weights parents s c → fin.len c < fin.len s → IsCut n dep s c
    cut_on c within none tight less = record {
      upper = to_upper c tight.tight.closed;
      some = tight.some;
      others = (let lens = len_split n s c (fin.difference s c) within (split_minus s c tight.tight.closed.inside) in omega (arith, lens, less));
      greatest = greatest_of c tight.tight.closed (subst (λ (z : ℤ). IsNoneHeavier n weights parents s z) (sym tight.tight.even) none);
    }

    -- nothing can be cut off where it is all
    pub uncut_of : (c : fin.FinSet nat_cmp) → IsWithin n s → IsSmallestTight n weights parents s c → fin.len s ≤ fin.len c → IsUncut n dep s
    uncut_of c within tight all x upper some same p m =
        let even : weight_of n weights x ≡ pos 0 = (let e = same.crossed in omega (arith, ints, e, valued x upper.inside)) in
        let most = tight.fewest x (record { closed = to_closed x upper; even = even }) some in
        elim (cases_Bool (fin.contains x p)) as (λ _. fin.contains x p ≡ true) [
          | inl here ↦ here
          | inr out ↦ absurd (
              let left = fin.difference s x in
              let p_left : fin.contains left p ≡ true = in_minus s x p m (λ here. clash (fin.contains x p) here out) in
              let lens = len_split n s x left within (split_minus s x upper.inside) in
              let one = set_drop left p p_left in
              omega (arith, lens, one, most, all))
        ]

-- ---- the sum of the weights is small
pub weights_small : (n : ℕ) (weights : List ℤ) (s : fin.FinSet nat_cmp) → IsWithin n s → fin.len s ≤ 4096
    → ((t : ℕ) → fin.contains s t ≡ true → unsigned_abs (weight_at weights t) < 2 ^ 99)
    → sum_by (λ t. unsigned_abs (weight_at weights t)) (places n s) < 2 ^ 126
weights_small n weights s within few small =
    let a = sum_by_within (λ t. unsigned_abs (weight_at weights t)) (2 ^ 99) (places n s) (λ t h. le_of_lt (small t (places-Contains n s t h).1)) in
    let long = len-places n s within in
    omega (arith, a, long, few)
