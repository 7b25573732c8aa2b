-- The order in which candidates are looked at.
use Rattle.std.proofs.Common.{◌≡◌, ◌≢◌, ◌⊎◌, ℕ, ◌<◌, ◌≤◌, true, false, [], ◌∷◌, length, get_or, map, inl, inr, refl, sym, ap, ◌∙◌, subst, arith, ℤ, pos, ◌*ℤ◌, true≢false, eqb, eq-eqb, ne_eqb}
use Rattle.std.specs.Prelude.{Contains}
use Rattle.std.specs.Ordering.{is_lt, int_cmp, nat_cmp, ordering_then}
use Rattle.std.specs.Cmp.{IsStrictWeakOrder}
use Rattle.std.specs.declared.cmp.Ordering.{Ordering}
use Rattle.std.specs.declared.cmp.Ordering.TheVariants.{Less, Equal, Greater}
use Rattle.std.specs.List.Sorted.{IsSortedBy}
use Rattle.std.proofs.Math.Nat.{max-eq_left, le-max_right}
use Rattle.std.proofs.lemmas.Bool.{cond-true, cond-false}
use Rattle.std.proofs.lemmas.Cmp.{ranked, int_ranked}
use Rattle.std.proofs.lemmas.List.Sorted.{sorted_far}
use Rattle.std.proofs.lemmas.List.Elements.{Contains-get_or}
use Rattle.lists.specs.Distinct.{AreDistinct}
use Rattle.lists.proofs.Entries.{Contains-map, Contains-cases, none_in_empty}
use Rattle.fee_rate.specs.declared.rates.Sum.{Sum}
use Rattle.fee_rate.specs.Rates.{sum_from, Below, Same}
use Rattle.fee_rate.proofs.Orders.{apart, below_at_most, same_at_most, same_back, at_most_below, below_at_most_chains, same_chains}
use Rattle.graphs.specs.Certificates.{Txs, rate_in}
use Rattle.graph_model.specs.Trims.{GoesFirst}
use Rattle.trimming.specs.Orders.{goes_before, some_rate}

abbrev Tx : Type 0
Tx = ℕ × ℤ × ℕ

abbrev some : Tx → Sum
some tx = sum_from (some_rate tx)

some_size : (x : Tx) → 1 ≤ (some x).size
some_size x = le-max_right x.2 1

-- the first goes first
abbrev Goes : Tx → Tx → Type 0
Goes a b = Below (some b) (some a) ⊎ (Same (some b) (some a) × (a.0 < b.0))

-- it doesn't
abbrev Stays : Tx → Tx → Type 0
Stays a b = Below (some a) (some b) ⊎ (Same (some a) (some b) × (b.0 ≤ a.0))

told_case : (a b : Tx) (r n : Ordering) → r ≡ int_cmp ((some b).fee *ℤ pos (some a).size) ((some a).fee *ℤ pos (some b).size) → n ≡ nat_cmp a.0 b.0
    → ((is_lt (ordering_then r n) ≡ true) × Goes a b) ⊎ ((is_lt (ordering_then r n) ≡ false) × Stays a b)
told_case a b Less n is name = inl (refl, inl (record { crossed = int_ranked _ _ Less is }))
told_case a b Greater n is name = inr (refl, inl (record { crossed = int_ranked _ _ Greater is }))
told_case a b Equal Less is name = inl (refl, inr (record { crossed = int_ranked _ _ Equal is }, ranked a.0 b.0 Less name))
told_case a b Equal Equal is name =
    let same : a.0 ≡ b.0 = ranked a.0 b.0 Equal name in
    inr (refl, inr (record { crossed = sym (int_ranked _ _ Equal is) }, omega (arith, same)))
told_case a b Equal Greater is name =
    let more : b.0 < a.0 = ranked a.0 b.0 Greater name in
    inr (refl, inr (record { crossed = sym (int_ranked _ _ Equal is) }, omega (arith, more)))

told : (a b : Tx) → ((goes_before a b ≡ true) × Goes a b) ⊎ ((goes_before a b ≡ false) × Stays a b)
told a b = told_case a b (int_cmp ((some b).fee *ℤ pos (some a).size) ((some a).fee *ℤ pos (some b).size)) (nat_cmp a.0 b.0) refl refl

goes_stays : (a b : Tx) → Goes a b → Stays a b → ⊥
goes_stays a b (inl above) (inl below) = apart (some a) (some b) above (below_at_most (some a) (some b) below)
goes_stays a b (inl above) (inr same) = apart (some a) (some b) above (same_at_most (some a) (some b) same.0)
goes_stays a b (inr same) (inl below) = apart (some b) (some a) below (same_at_most (some b) (some a) same.0)
goes_stays a b (inr one) (inr other) = omega (arith, one.1, other.1)

goes_back : (a b : Tx) → Goes a b → Stays b a
goes_back a b (inl above) = inl above
goes_back a b (inr same) = inr (same.0, (let less = same.1 in omega (arith, less)))

stays_chain : (a b c : Tx) → Stays a b → Stays b c → Stays a c
stays_chain a b c (inl one) (inl two) =
    inl (below_at_most_chains (some a) (some b) (some c) (some_size b) (some_size c) one (below_at_most (some b) (some c) two))
stays_chain a b c (inl one) (inr two) =
    inl (below_at_most_chains (some a) (some b) (some c) (some_size b) (some_size c) one (same_at_most (some b) (some c) two.0))
stays_chain a b c (inr one) (inl two) = inl (at_most_below (some a) (some b) (some c) (some_size a) (some_size b) (same_at_most (some a) (some b) one.0) two)
stays_chain a b c (inr one) (inr two) = inr (same_chains (some a) (some b) (some c) (some_size b) one.0 two.0, omega (arith, one.1, two.1))

stays_of : (a b : Tx) → goes_before a b ≡ false → Stays a b
stays_of a b is = elim (told a b) [ inl goes ↦ absurd (true≢false (sym goes.0 ∙ is)) | inr stays ↦ stays.1 ]

of_stays : (a b : Tx) → Stays a b → goes_before a b ≡ false
of_stays a b stays = elim (told a b) [ inl goes ↦ absurd (goes_stays a b goes.1 stays) | inr is ↦ is.0 ]

pub goes_weakly : IsStrictWeakOrder goes_before
goes_weakly = record {
  one_way = λ a b is. elim (told a b) [
    | inl goes ↦ of_stays b a (goes_back a b goes.1)
    | inr stays ↦ absurd (true≢false (sym is ∙ stays.0))
  ];
  chain = λ a b c one two. of_stays a c (stays_chain a b c (stays_of a b one) (stays_of b c two));
}

-- ---- the rates of names

pub rate_of_entry : (txs : Txs) (tx : Tx) → AreDistinct (map (λ (t : Tx). t.0) txs) → Contains txs tx → rate_in txs tx.0 ≡ record { fee = tx.1; size = tx.2 }
rate_of_entry [] tx once here = absurd (none_in_empty tx here)
rate_of_entry (x ∷ txs) tx once here = elim (Contains-cases x tx txs here) [
  | inl same ↦
      cond-true (eqb x.0 tx.0) record { fee = x.1; size = x.2 } (rate_in txs tx.0) (eq-eqb x.0 tx.0 (ap (λ (t : Tx). t.0) same))
      ∙ ap (λ (t : Tx). record { fee = t.1; size = t.2 }) same
  | inr later ↦
      let there : Contains (map (λ (t : Tx). t.0) txs) tx.0 = Contains-map (λ (t : Tx). t.0) txs tx later in
      cond-false (eqb x.0 tx.0) record { fee = x.1; size = x.2 } (rate_in txs tx.0)
      (ne_eqb x.0 tx.0 (λ same. once.0 (subst (Contains (map (λ (t : Tx). t.0) txs)) (sym same) there)))
      ∙ rate_of_entry txs tx once.1 later
]

some_is : (x : Tx) → 1 ≤ x.2 → some x ≡ record { fee = x.1; size = x.2 }
some_is x low = ap (λ (s : ℕ). record { fee = x.1; size = s }) (max-eq_left low)

-- what stands earlier in the sorted list goes first
pub earlier_goes : (txs order : Txs) (i j : ℕ) (d : Tx) → AreDistinct (map (λ (t : Tx). t.0) txs) → ((tx : Tx) → Contains txs tx → 1 ≤ tx.2)
    → ((tx : Tx) → Contains order tx → Contains txs tx) → IsSortedBy goes_before order → i < j → j < length order
    → (get_or order i d).0 ≢ (get_or order j d).0
    → GoesFirst (rate_in txs) (get_or order i d).0 (get_or order j d).0
earlier_goes txs order i j d once sizes from sorted before low differ =
    let a : Tx = get_or order i d in
    let b : Tx = get_or order j d in
    let a_in : Contains txs a = from a (Contains-get_or order i d (omega (arith, before, low))) in
    let b_in : Contains txs b = from b (Contains-get_or order j d low) in
    let a_is : some a ≡ rate_in txs a.0 = some_is a (sizes a a_in) ∙ sym (rate_of_entry txs a once a_in) in
    let b_is : some b ≡ rate_in txs b.0 = some_is b (sizes b b_in) ∙ sym (rate_of_entry txs b once b_in) in
    let stays : Stays b a = stays_of b a (sorted_far goes_before goes_weakly order sorted i j d (omega (arith, before)) low) in
    elim stays [
      | inl below ↦ inl (subst (λ (s : Sum). Below s (rate_in txs a.0)) b_is (subst (Below (some b)) a_is below))
      | inr tie ↦
          let same : Same (some a) (some b) = same_back (some b) (some a) tie.0 in
          let most = tie.1 in
          inr (subst (Same (rate_in txs a.0)) b_is (subst (λ (s : Sum). Same s (some b)) a_is same), omega (arith, most, differ))
    ]
