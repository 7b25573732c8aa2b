-- The order of rates and the full order, out of the laws of cross-multiplication.
use Rattle.std.proofs.Common.{◌≡◌, ℕ, ◌<◌, ◌≤◌, ◌⊎◌, inl, inr, ℤ, pos, ◌*ℤ◌, ◌≤ℤ◌, sym, ap, ◌∙◌, subst, nat_cmp, arith}
use Rattle.std.proofs.lemmas.Int.{ints}
use Rattle.std.specs.declared.cmp.Ordering.{Ordering}
use Rattle.std.specs.declared.cmp.Ordering.TheVariants.{Less, Equal, Greater}
use Rattle.std.specs.Cmp.{ranked}
use Rattle.std.specs.Ordering.{MatchOrdering}
use Rattle.arithmetic.proofs.Products.{scale_reflects}
use Rattle.arithmetic.proofs.Rates.{cross_total, cross_trans, cross_trans_strict_left, cross_trans_strict_right, sum_above, sum_below, sum_above_strict, sum_below_strict}
use Rattle.fee_rate.specs.declared.rates.Sum.{Sum}
use Rattle.fee_rate.specs.Rates.{AtMost, Below, Same, Before, ComparesFully}
use Rattle.fee_rate.specs.Laws.{IsRateOrder, IsFullOrder, LieBetween}

pub same_at_most : (a b : Sum) → Same a b → AtMost a b
same_at_most a b e = record { crossed = omega (arith, ints, e.crossed) }

pub same_back : (a b : Sum) → Same a b → Same b a
same_back a b e = record { crossed = sym e.crossed }

pub below_at_most : (a b : Sum) → Below a b → AtMost a b
below_at_most a b l = record { crossed = omega (arith, ints, l.crossed) }

pub total : (a b : Sum) → AtMost a b ⊎ Below b a
total a b = elim (cross_total a.fee b.fee a.size b.size) [ inl le ↦ inl (record { crossed = le }) | inr lt ↦ inr (record { crossed = lt }) ]

pub apart : (a b : Sum) → Below b a → AtMost a b → ⊥
apart a b l m = omega (arith, ints, l.crossed, m.crossed)

-- a rate that is below another isn't at least it
pub below_clash : (a b : Sum) → Below a b → AtMost b a → ⊥
below_clash a b l m = apart b a l m

pub at_most_chains : (a b c : Sum) → 1 ≤ b.size → AtMost a b → AtMost b c → AtMost a c
at_most_chains a b c p h k = record { crossed = cross_trans a.fee b.fee c.fee a.size b.size c.size (omega arith) h.crossed k.crossed }

pub at_most_below : (a b c : Sum) → 1 ≤ a.size → 1 ≤ b.size → AtMost a b → Below b c → Below a c
at_most_below a b c q p h k =
    record { crossed = cross_trans_strict_right a.fee b.fee c.fee a.size b.size c.size (omega arith) (omega arith) h.crossed k.crossed }

pub below_at_most_chains : (a b c : Sum) → 1 ≤ b.size → 1 ≤ c.size → Below a b → AtMost b c → Below a c
below_at_most_chains a b c p q h k =
    record { crossed = cross_trans_strict_left a.fee b.fee c.fee a.size b.size c.size (omega arith) (omega arith) h.crossed k.crossed }

pub same_chains : (a b c : Sum) → 1 ≤ b.size → Same a b → Same b c → Same a c
same_chains a b c p h k =
    let up = at_most_chains a b c p (same_at_most a b h) (same_at_most b c k) in
    let down = at_most_chains c b a p (same_at_most c b (same_back b c k)) (same_at_most b a (same_back a b h)) in
    record { crossed = omega (arith, ints, up.crossed, down.crossed) }

pub before_chains : (a b c : Sum) → 1 ≤ a.size → 1 ≤ b.size → 1 ≤ c.size → Before a b → Before b c → Before a c
before_chains a b c p q r (inl l) (inl m) = inl (below_at_most_chains a b c q r l (below_at_most b c m))
before_chains a b c p q r (inl l) (inr m) = inl (below_at_most_chains a b c q r l (same_at_most b c m.0))
before_chains a b c p q r (inr l) (inl m) = inl (at_most_below a b c p q (same_at_most a b l.0) m)
before_chains a b c p q r (inr l) (inr m) = inr (same_chains a b c q l.0 m.0, omega (arith, l.1, m.1))

pub before_irreflexive : (a : Sum) → Before a a → ⊥
before_irreflexive a (inl l) = omega (arith, ints, l.crossed)
before_irreflexive a (inr m) = omega (arith, m.1)

pub rate_order : IsRateOrder
rate_order = record { total = total; apart = apart; chains = at_most_chains; chains_below = at_most_below; chains_above = below_at_most_chains }

pub full_order : IsFullOrder
full_order = record { irreflexive = before_irreflexive; chains = before_chains }

pub lie_between : LieBetween
lie_between =
    record {
      above = λ a b h. record { crossed = sum_above a.fee b.fee a.size b.size h.crossed };
      below = λ a b h. record { crossed = sum_below a.fee b.fee a.size b.size h.crossed };
      strictly_above = λ a b h. record { crossed = sum_above_strict a.fee b.fee a.size b.size h.crossed };
      strictly_below = λ a b h. record { crossed = sum_below_strict a.fee b.fee a.size b.size h.crossed };
    }

-- equal sizes make fees equal where rates are
same_size : (f g : ℤ) (s : ℕ) → 1 ≤ s → (f *ℤ pos s) ≡ (g *ℤ pos s) → f ≡ g
same_size f g s p e =
    let up : f ≤ℤ g = scale_reflects s f g (omega arith) (omega (arith, ints, e)) in
    let down : g ≤ℤ f = scale_reflects s g f (omega arith) (omega (arith, ints, e)) in
    omega (arith, ints, up, down)

of_parts : ℤ → ℕ → Sum
of_parts f s = record { fee = f; size = s }

-- a sum is its fee and its size
pub same_sum : (a b : Sum) → a.fee ≡ b.fee → a.size ≡ b.size → a ≡ b
unfolding of_parts
same_sum a b f z = ap (λ (x : ℤ). of_parts x a.size) f ∙ ap (λ (n : ℕ). of_parts b.fee n) z

same_sums : (a b : Sum) → 1 ≤ a.size → Same a b → b.size ≡ a.size → a ≡ b
same_sums a b p h e =
    same_sum a b (same_size a.fee b.fee a.size p (subst (λ (n : ℕ). (a.fee *ℤ pos n) ≡ (b.fee *ℤ pos a.size)) e h.crossed)) (sym e)

by_rank : (a b : Sum) → 1 ≤ a.size → Same a b → (o : Ordering) → MatchOrdering o (b.size < a.size) (b.size ≡ a.size) (a.size < b.size) → ComparesFully a b o
by_rank a b p h Less m = inr (h, m)
by_rank a b p h Equal m = same_sums a b p h m
by_rank a b p h Greater m = inr (same_back a b h, m)

-- among equal rates the sizes decide, the larger first
pub by_size : (a b : Sum) → 1 ≤ a.size → Same a b → (o : Ordering) → o ≡ nat_cmp b.size a.size → ComparesFully a b o
by_size a b p h o e = by_rank a b p h o (ranked b.size a.size o e)
