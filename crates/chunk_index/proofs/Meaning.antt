-- The comparison of keys answers by the order that its words say.
use Rattle.std.proofs.Common.{◌≡◌, ℕ, ◌<◌, inl, inr, max, pos, ◌*ℤ◌, refl, sym, ◌∙◌, subst}
use Rattle.std.specs.declared.cmp.Ordering.{Ordering}
use Rattle.std.specs.declared.cmp.Ordering.TheVariants.{Less, Equal, Greater}
use Rattle.std.specs.Ordering.{nat_cmp, ordering_then, MatchOrdering}
use Rattle.std.specs.Cmp.{ranked, tied_itself, nat_cmp_is, int_cmp_is}
use Rattle.fee_rate.specs.Rates.{Below, Same}
use Rattle.chunk_index.specs.declared.entry.Entry.{Entry}
use Rattle.chunk_index.specs.KeyOrder.{rate_cmp, key_cmp}
use Rattle.chunk_index.specs.KeyLaws.{key_cmp_total, level_keys, meaning}
use Rattle.chunk_index.specs.Keys.{key_of}
use Rattle.chunk_index.specs.KeyMeaning.{sum_of, StandsBefore, ComparesKeys, IsKeyOrder}

rates : (a b : Entry) (o : Ordering) → rate_cmp a.rate b.rate ≡ o → MatchOrdering o (Below (sum_of b) (sum_of a)) (Same (sum_of a) (sum_of b))
    (Below (sum_of a) (sum_of b))
rates a b Less e = record { crossed = meaning (b.rate.fee *ℤ pos (max 1 a.rate.size)) (a.rate.fee *ℤ pos (max 1 b.rate.size)) Less e }
rates a b Equal e = record { crossed = sym (meaning (b.rate.fee *ℤ pos (max 1 a.rate.size)) (a.rate.fee *ℤ pos (max 1 b.rate.size)) Equal e) }
rates a b Greater e = record { crossed = meaning (b.rate.fee *ℤ pos (max 1 a.rate.size)) (a.rate.fee *ℤ pos (max 1 b.rate.size)) Greater e }

back : (a b : Entry) → Same (sum_of a) (sum_of b) → Same (sum_of b) (sum_of a)
back a b s = record { crossed = sym s.crossed }

-- by the answers of the four comparisons in turn
by_answers : (a b : Entry) → (r s p z : Ordering)
    → MatchOrdering r (Below (sum_of b) (sum_of a)) (Same (sum_of a) (sum_of b)) (Below (sum_of a) (sum_of b))
    → MatchOrdering s (a.serial < b.serial) (a.serial ≡ b.serial) (b.serial < a.serial)
    → MatchOrdering p (a.position < b.position) (a.position ≡ b.position) (b.position < a.position)
    → MatchOrdering z (a.rate.size < b.rate.size) (a.rate.size ≡ b.rate.size) (b.rate.size < a.rate.size)
    → (ordering_then (ordering_then (ordering_then r s) p) z ≡ Equal → key_of a ≡ key_of b)
    → ComparesKeys a b (ordering_then (ordering_then (ordering_then r s) p) z)
by_answers a b Less s p z hr hs hp hz same = inl hr
by_answers a b Greater s p z hr hs hp hz same = inl hr
by_answers a b Equal Less p z hr hs hp hz same = inr (hr, inl hs)
by_answers a b Equal Greater p z hr hs hp hz same = inr (back a b hr, inl hs)
by_answers a b Equal Equal Less z hr hs hp hz same = inr (hr, inr (hs, inl hp))
by_answers a b Equal Equal Greater z hr hs hp hz same = inr (back a b hr, inr (sym hs, inl hp))
by_answers a b Equal Equal Equal Less hr hs hp hz same = inr (hr, inr (hs, inr (hp, hz)))
by_answers a b Equal Equal Equal Greater hr hs hp hz same = inr (back a b hr, inr (sym hs, inr (sym hp, hz)))
by_answers a b Equal Equal Equal Equal hr hs hp hz same = same refl

pub compares : (a b : Entry) → ComparesKeys a b (key_cmp (key_of a) (key_of b))
unfolding key_cmp
compares a b =
    by_answers a b (rate_cmp a.rate b.rate) (nat_cmp a.serial b.serial) (nat_cmp a.position b.position) (nat_cmp a.rate.size b.rate.size)
    (rates a b (rate_cmp a.rate b.rate) refl)
    (ranked a.serial b.serial (nat_cmp a.serial b.serial) refl)
    (ranked a.position b.position (nat_cmp a.position b.position) refl)
    (ranked a.rate.size b.rate.size (nat_cmp a.rate.size b.rate.size) refl)
    (level_keys (key_of a) (key_of b))

-- four answers that say Less in turn
in_turn : (a b : Entry) (r s p z : Ordering) → rate_cmp a.rate b.rate ≡ r → nat_cmp a.serial b.serial ≡ s → nat_cmp a.position b.position ≡ p
    → nat_cmp a.rate.size b.rate.size ≡ z
    → ordering_then (ordering_then (ordering_then r s) p) z ≡ Less → key_cmp (key_of a) (key_of b) ≡ Less
unfolding key_cmp
in_turn a b r s p z er es ep ez less = rw (er, es, ep, ez) less

rate_level : (a b : Entry) → Same (sum_of a) (sum_of b) → rate_cmp a.rate b.rate ≡ Equal
rate_level a b same = sym (int_cmp_is (b.rate.fee *ℤ pos (max 1 a.rate.size)) (a.rate.fee *ℤ pos (max 1 b.rate.size)) Equal (sym same.crossed))

nat_less : (x y : ℕ) → x < y → nat_cmp x y ≡ Less
nat_less x y h = sym (nat_cmp_is x y Less h)

nat_level : (x y : ℕ) → x ≡ y → nat_cmp x y ≡ Equal
nat_level x y h = sym (nat_cmp_is x y Equal h)

less : (a b : Entry) → StandsBefore a b → key_cmp (key_of a) (key_of b) ≡ Less
less a b (inl below) =
    let rate : rate_cmp a.rate b.rate ≡ Less = sym (int_cmp_is (b.rate.fee *ℤ pos (max 1 a.rate.size)) (a.rate.fee *ℤ pos
    (max 1 b.rate.size)) Less below.crossed) in
    in_turn a b Less (nat_cmp a.serial b.serial) (nat_cmp a.position b.position) (nat_cmp a.rate.size b.rate.size) rate refl refl refl refl
less a b (inr (same, inl serial)) =
    in_turn a b Equal Less (nat_cmp a.position b.position) (nat_cmp a.rate.size b.rate.size) (rate_level a b same)
    (nat_less a.serial b.serial serial) refl refl refl
less a b (inr (same, inr (serial, inl position))) =
    in_turn a b Equal Equal Less (nat_cmp a.rate.size b.rate.size) (rate_level a b same) (nat_level a.serial b.serial serial)
    (nat_less a.position b.position position) refl refl
less a b (inr (same, inr (serial, inr (position, size)))) =
    in_turn a b Equal Equal Equal Less (rate_level a b same) (nat_level a.serial b.serial serial) (nat_level a.position b.position position)
    (nat_less a.rate.size b.rate.size size) refl

less_equal : Less ≡ Equal → ⊥
less_equal e = cc

pub key_order : IsKeyOrder
key_order = record {
  compares = compares;
  irreflexive = λ a h. less_equal (sym (less a a h) ∙ tied_itself key_cmp_total (key_of a));
  chains = λ a b c h k. subst (ComparesKeys a c) (key_cmp_total.trans (key_of a) (key_of b) (key_of c) (less a b h) (less b c k)) (compares a c);
}
