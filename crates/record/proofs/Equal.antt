-- Closures that answer the same are the same.
use Rattle.std.proofs.Common.{◌≡◌, ℕ, false, refl, sym, ap₂, true≢false}
use Rattle.std.specs.Prelude.{Option, None, Some, is_some}
use Rattle.std.specs.Ordering.{nat_cmp}
use Rattle.std.specs.Cmp.{nat_cmp_total}
use Rattle.std.specs.FinSet as set
use Rattle.std.specs.FinMap as map
use Rattle.fee_rate.specs.declared.rates.FeeRate.{FeeRate}
use Rattle.graphs.specs.Closures.{Closure, Node, no_rate, is_member, is_ancestor, rate_of, rate_in, ancestors_of, ancestors_in}

node_same : (m n : Option Node) → is_some m ≡ is_some n → rate_in m ≡ rate_in n
    → ((a : ℕ) → set.contains (ancestors_in m) a ≡ set.contains (ancestors_in n) a) → m ≡ n
node_same None None there rates above = refl
node_same None (Some n) there rates above = absurd (true≢false (sym there))
node_same (Some m) None there rates above = absurd (true≢false there)
node_same (Some m) (Some n) there rates above =
    ap₂ (λ (rate : FeeRate) (ancestors : set.FinSet nat_cmp). Some (record { rate = rate; ancestors = ancestors })) rates
    (set.same_set nat_cmp_total map.nat_cmp-IsAntisymmetric m.ancestors n.ancestors above)

pub closure_is : (g h : Closure) → ((p : ℕ) → is_member g p ≡ is_member h p) → ((p : ℕ) → rate_of g p ≡ rate_of h p)
    → ((a d : ℕ) → is_ancestor g a d ≡ is_ancestor h a d) → g ≡ h
unfolding is_member rate_of ancestors_of
closure_is g h members rates above =
    map.same_map nat_cmp_total map.nat_cmp-IsAntisymmetric g h (λ p. node_same (map.get g p) (map.get h p) (members p) (rates p) (λ a. above a p))

-- what is no member has no rate
pub no_member_rate : (g : Closure) (p : ℕ) → is_member g p ≡ false → rate_of g p ≡ no_rate
unfolding is_member rate_of
no_member_rate g p absent = cases (map.get g p) absent
  where
    cases : (o : Option Node) → is_some o ≡ false → rate_in o ≡ no_rate
    cases None e = refl
    cases (Some n) e = absurd (true≢false e)
