-- The laws of the order of keys: it is total, and it tells any two different keys apart.
use Rattle.std.proofs.Common.{◌≡◌, ℕ, ◌<◌, Bool, true, false, ◌&&◌, ◌==◌, max, ℤ, pos, ◌*ℤ◌, ◌≤ℤ◌, ◌<ℤ◌, refl, sym, ap, ◌∙◌, subst, arith}
use Rattle.std.proofs.lemmas.Int.{ints}
use Rattle.std.proofs.lemmas.Cmp.{on_total, then_total}
use Rattle.std.specs.declared.cmp.Ordering.{Ordering}
use Rattle.std.specs.declared.cmp.Ordering.TheVariants.{Less, Equal, Greater}
use Rattle.std.specs.Ordering.{nat_cmp, int_cmp, int_eq, is_eq, then_cmp, ordering_then, eq_by_cmp, MatchOrdering}
use Rattle.std.specs.Cmp.{IsTotalOrder, int_cmp_total, nat_cmp_total, int_ranked, int_cmp_is, ranked, both_ways, Equal-is, tied_itself, signed_Decides, unsigned_Decides}
use Rattle.arithmetic.proofs.Products.{scale_reflects}
use Rattle.arithmetic.proofs.Rates.{cross_trans, cross_trans_strict_left, cross_trans_strict_right}
use Rattle.chunk_index.specs.declared.key.Key.{Key}
use Rattle.chunk_index.specs.KeyOrder.{rate_cmp, by_rate, by_serial, by_position, by_size, key_cmp}

-- Fees a, b, c over sizes r, s, t: where a over r is the rate of b over s, it stands to c over t as b over s does.
alike : (a b c : ℤ) (r s t : ℕ) → 0 < r → 0 < s → 0 < t → (b *ℤ pos r) ≡ (a *ℤ pos s) → (o : Ordering)
    → MatchOrdering o ((c *ℤ pos r) <ℤ (a *ℤ pos t)) ((c *ℤ pos r) ≡ (a *ℤ pos t)) ((a *ℤ pos t) <ℤ (c *ℤ pos r))
    → MatchOrdering o ((c *ℤ pos s) <ℤ (b *ℤ pos t)) ((c *ℤ pos s) ≡ (b *ℤ pos t)) ((b *ℤ pos t) <ℤ (c *ℤ pos s))
alike a b c r s t hr hs ht same Less h = cross_trans_strict_left c a b t r s hr hs h (omega (arith, ints, same))
alike a b c r s t hr hs ht same Equal h =
    let up = cross_trans c a b t r s hr (omega (arith, ints, h)) (omega (arith, ints, same)) in
    let down = cross_trans b a c s r t hr (omega (arith, ints, same)) (omega (arith, ints, h)) in
    omega (arith, ints, up, down)
alike a b c r s t hr hs ht same Greater h = cross_trans_strict_right b a c s r t hr hs (omega (arith, ints, same)) h

true_false : true ≡ false → ⊥
true_false e = cc

positive : (n : ℕ) → 0 < max 1 n
positive n = omega arith

-- what an answer of `int_cmp` says
pub meaning : (x y : ℤ) (o : Ordering) → int_cmp x y ≡ o → MatchOrdering o (x <ℤ y) (x ≡ y) (y <ℤ x)
meaning x y o e = int_ranked x y o (sym e)

pub rate_total : IsTotalOrder rate_cmp
rate_total = record {
  antisymm = λ a b. int_cmp_total.antisymm (b.fee *ℤ pos (max 1 a.size)) (a.fee *ℤ pos (max 1 b.size));
  trans = λ a b c p q.
      sym (int_cmp_is (c.fee *ℤ pos (max 1 a.size)) (a.fee *ℤ pos (max 1 c.size)) Less
      (cross_trans_strict_left c.fee b.fee a.fee (max 1 c.size) (max 1 b.size) (max 1 a.size) (positive b.size) (positive a.size)
      (meaning (c.fee *ℤ pos (max 1 b.size)) (b.fee *ℤ pos (max 1 c.size)) Less q)
      (omega (arith, ints, meaning (b.fee *ℤ pos (max 1 a.size)) (a.fee *ℤ pos (max 1 b.size)) Less p))));
  congr = λ a b c p.
      int_cmp_is (c.fee *ℤ pos (max 1 b.size)) (b.fee *ℤ pos (max 1 c.size)) (rate_cmp a c)
      (alike a.fee b.fee c.fee (max 1 a.size) (max 1 b.size) (max 1 c.size) (positive a.size) (positive b.size) (positive c.size)
      (meaning (b.fee *ℤ pos (max 1 a.size)) (a.fee *ℤ pos (max 1 b.size)) Equal p)
      (rate_cmp a c) (meaning (c.fee *ℤ pos (max 1 a.size)) (a.fee *ℤ pos (max 1 c.size)) (rate_cmp a c) refl));
}

pub key_cmp_total : IsTotalOrder key_cmp
unfolding key_cmp
key_cmp_total =
    then_total (then_total (then_total (on_total (λ (k : Key). k.rate) rate_total) (on_total (λ (k : Key). k.serial) nat_cmp_total))
    (on_total (λ (k : Key). k.position) nat_cmp_total)) (on_total (λ (k : Key). k.rate.size) nat_cmp_total)

-- two comparisons in turn answer Equal only where both do
both_equal : (a b : Ordering) → ordering_then a b ≡ Equal → (a ≡ Equal) × (b ≡ Equal)
both_equal Less b e = absurd (true_false (sym (ap is_eq e)))
both_equal Equal b e = (refl, e)
both_equal Greater b e = absurd (true_false (sym (ap is_eq e)))

nat_level : (x y : ℕ) → nat_cmp x y ≡ Equal → x ≡ y
nat_level x y e = ranked x y Equal (sym e)

-- equal rates over equal sizes have equal fees
same_fee : (f g : ℤ) (s t : ℕ) → s ≡ t → (g *ℤ pos (max 1 s)) ≡ (f *ℤ pos (max 1 t)) → f ≡ g
same_fee f g s t size e =
    let crossed : (g *ℤ pos (max 1 s)) ≡ (f *ℤ pos (max 1 s)) = subst (λ (n : ℕ). (g *ℤ pos (max 1 s)) ≡ (f *ℤ pos (max 1 n))) (sym size) e in
    let up : f ≤ℤ g = scale_reflects (max 1 s) f g (positive s) (omega (arith, ints, crossed)) in
    let down : g ≤ℤ f = scale_reflects (max 1 s) g f (positive s) (omega (arith, ints, crossed)) in
    omega (arith, ints, up, down)

of_fields : ℤ → ℕ → ℕ → ℕ → Key
of_fields fee size serial position = record { rate = record { fee = fee; size = size }; serial = serial; position = position }

same_fields : (x y : Key) → x.rate.fee ≡ y.rate.fee → x.rate.size ≡ y.rate.size → x.serial ≡ y.serial → x.position ≡ y.position → x ≡ y
unfolding of_fields
same_fields x y fee size serial position =
    let same : of_fields x.rate.fee x.rate.size x.serial x.position ≡ of_fields y.rate.fee y.rate.size y.serial y.position =
    ap (λ (f : ℤ). of_fields f x.rate.size x.serial x.position) fee
    ∙ ap (λ (n : ℕ). of_fields y.rate.fee n x.serial x.position) size
    ∙ ap (λ (n : ℕ). of_fields y.rate.fee y.rate.size n x.position) serial
    ∙ ap (λ (n : ℕ). of_fields y.rate.fee y.rate.size y.serial n) position in
    same

-- what the order doesn't tell apart is one key
pub level_keys : (x y : Key) → key_cmp x y ≡ Equal → x ≡ y
unfolding key_cmp
level_keys x y e =
    let size = both_equal (then_cmp (then_cmp by_rate by_serial) by_position x y) (by_size x y) e in
    let position = both_equal (then_cmp by_rate by_serial x y) (by_position x y) size.0 in
    let serial = both_equal (by_rate x y) (by_serial x y) position.0 in
    let sizes = nat_level x.rate.size y.rate.size size.1 in
    let crossed = meaning (y.rate.fee *ℤ pos (max 1 x.rate.size)) (x.rate.fee *ℤ pos (max 1 y.rate.size)) Equal serial.0 in
    same_fields x y (same_fee x.rate.fee y.rate.fee x.rate.size y.rate.size sizes crossed) sizes (nat_level x.serial y.serial serial.1)
    (nat_level x.position y.position position.1)

-- and what `==` of the fields says is what the order says
fields_eq : Key → Key → Bool
fields_eq x y = (int_eq x.rate.fee y.rate.fee && (x.rate.size == y.rate.size)) && ((x.serial == y.serial) && (x.position == y.position))

both_true : (a b : Bool) → (a && b) ≡ true → (a ≡ true) × (b ≡ true)
both_true true b e = (refl, e)
both_true false b e = absurd (true_false (sym e))

equal_keys : (x y : Key) → fields_eq x y ≡ true → x ≡ y
unfolding fields_eq
equal_keys x y e =
    let halves = both_true (int_eq x.rate.fee y.rate.fee && (x.rate.size == y.rate.size)) ((x.serial == y.serial) && (x.position == y.position)) e in
    let rate = both_true (int_eq x.rate.fee y.rate.fee) (x.rate.size == y.rate.size) halves.0 in
    let rest = both_true (x.serial == y.serial) (x.position == y.position) halves.1 in
    same_fields x y ((signed_Decides x.rate.fee y.rate.fee).0 rate.0) ((unsigned_Decides x.rate.size y.rate.size).0 rate.1)
    ((unsigned_Decides x.serial y.serial).0 rest.0) ((unsigned_Decides x.position y.position).0 rest.1)

itself : (x : Key) → fields_eq x x ≡ true
unfolding fields_eq
itself x =
    rw (
      (signed_Decides x.rate.fee x.rate.fee).1 refl,
      (unsigned_Decides x.rate.size x.rate.size).1 refl,
      (unsigned_Decides x.serial x.serial).1 refl,
      (unsigned_Decides x.position x.position).1 refl,
    ) refl

ties : (x y : Key) → fields_eq x y ≡ eq_by_cmp key_cmp x y
ties x y =
    both_ways (fields_eq x y) (eq_by_cmp key_cmp x y)
    (λ e. subst (λ (k : Key). eq_by_cmp key_cmp x k ≡ true) (equal_keys x y e) (ap is_eq (tied_itself key_cmp_total x)))
    (λ e. subst (λ (k : Key). fields_eq x k ≡ true) (level_keys x y ((Equal-is (key_cmp x y)).0 e)) (itself x))

pub key_ties : (x y : Key) → ((int_eq x.rate.fee y.rate.fee && (x.rate.size == y.rate.size)) && ((x.serial == y.serial) &&
    (x.position == y.position))) ≡ eq_by_cmp key_cmp x y
unfolding fields_eq
key_ties x y = ties x y
