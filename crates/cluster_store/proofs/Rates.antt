-- The places of a cluster stand in key order, since rates fall there.
use Rattle.std.proofs.Common.{◌≡◌, ℕ, suc, ◌+◌, ◌<◌, ◌≤◌, max, ℤ, pos, ◌*ℤ◌, ◌≤ℤ◌, ◌<ℤ◌, List, [], ◌∷◌, map, length, get_or, Contains, inl, inr, refl, sym, ap, ◌∙◌, subst, arith}
use Rattle.std.proofs.lemmas.Bool.{cases_eq, cases_lt}
use Rattle.std.proofs.lemmas.Int.{ints}
use Rattle.std.specs.List.{AllByRecursion}
use Rattle.std.specs.declared.cmp.Ordering.{Ordering}
use Rattle.std.specs.declared.cmp.Ordering.TheVariants.{Less, Equal, Greater}
use Rattle.std.specs.Ordering.{nat_cmp, ordering_then}
use Rattle.std.specs.Cmp.{ranked, int_ranked, tied_itself, nat_cmp_total}
use Rattle.lists.proofs.Entries.{Contains-head, Contains-later, Contains-cases, none_in_empty}
use Rattle.fee_rate.specs.Rates.{AtMost}
use Rattle.graphs.specs.Rates.{Falls}
use Rattle.graphs.specs.Certificates.{Part}
use Rattle.chunk_index.specs.declared.key.Key.{Key}
use Rattle.chunk_index.specs.KeyOrder.{rate_cmp, by_rate, by_serial, by_position, by_size, key_cmp}
use Rattle.chunk_index.specs.KeyLaws.{key_cmp_total}
use Rattle.chunk_index.specs.Keys.{IsInOrder}
use Rattle.cluster_store.specs.Keys.{key_part}
use Rattle.cluster_store.specs.Stores.{Numbered, no_part, part_at, key_at}

least_one : (s : ℕ) → 1 ≤ s → max 1 s ≡ s
least_one s some = omega arith

nat_less : (m n : ℕ) → m < n → nat_cmp m n ≡ Less
nat_less m n low = by (nat_cmp m n) refl
  where
    by : (o : Ordering) → nat_cmp m n ≡ o → nat_cmp m n ≡ Less
    by Less e = e
    by Equal e = let same : m ≡ n = ranked m n Equal (sym e) in absurd (omega (arith, same))
    by Greater e = let high : n < m = ranked m n Greater (sym e) in absurd (omega arith)

no_more : (x y : ℤ) → x ≤ℤ y → y <ℤ x → ⊥
no_more x y a b = omega (arith, ints, a, b)

-- the next part of a cluster, of no greater rate, stands behind
pub next_behind : (n i : ℕ) (p q : Part) → AtMost q.rate p.rate → 1 ≤ p.rate.size → 1 ≤ q.rate.size → key_cmp (key_part n i p) (key_part n (i + 1) q) ≡ Less
unfolding key_cmp
next_behind n i p q most p_some q_some = by (rate_cmp (key_part n i p).rate (key_part n (i + 1) q).rate) refl
  where
    crossed : (q.rate.fee *ℤ pos (max 1 p.rate.size)) ≤ℤ (p.rate.fee *ℤ pos (max 1 q.rate.size))
    crossed =
        subst (λ (s : ℕ). (q.rate.fee *ℤ pos s) ≤ℤ (p.rate.fee *ℤ pos (max 1 q.rate.size))) (sym (least_one p.rate.size p_some))
        (subst (λ (s : ℕ). (q.rate.fee *ℤ pos p.rate.size) ≤ℤ (p.rate.fee *ℤ pos s)) (sym (least_one q.rate.size q_some)) most.crossed)

    serial : by_serial (key_part n i p) (key_part n (i + 1) q) ≡ Equal
    serial = tied_itself nat_cmp_total n

    position : by_position (key_part n i p) (key_part n (i + 1) q) ≡ Less
    position = nat_less i (i + 1) (omega arith)

    by : (o : Ordering) → rate_cmp (key_part n i p).rate (key_part n (i + 1) q).rate ≡ o
        → ordering_then (ordering_then (ordering_then (by_rate (key_part n i p) (key_part n (i + 1) q)) (by_serial (key_part n i p) (key_part n (i + 1) q)))
        (by_position (key_part n i p) (key_part n (i + 1) q))) (by_size (key_part n i p) (key_part n (i + 1) q)) ≡ Less
    by Less e = rw e refl
    by Equal e = rw (e, serial, position) refl
    by Greater e =
        absurd (no_more (q.rate.fee *ℤ pos (max 1 p.rate.size)) (p.rate.fee *ℤ pos (max 1 q.rate.size)) crossed
        (int_ranked (q.rate.fee *ℤ pos (max 1 p.rate.size)) (p.rate.fee *ℤ pos (max 1 q.rate.size)) Greater (sym e)))

-- what stands before in key order has no lower rate
pub before_rates : (x y : Key) → key_cmp x y ≡ Less → 1 ≤ x.rate.size → 1 ≤ y.rate.size → (y.rate.fee *ℤ pos x.rate.size) ≤ℤ (x.rate.fee *ℤ pos y.rate.size)
unfolding key_cmp
before_rates x y less x_some y_some =
    subst (λ (s : ℕ). (y.rate.fee *ℤ pos s) ≤ℤ (x.rate.fee *ℤ pos y.rate.size)) (least_one x.rate.size x_some)
    (subst (λ (s : ℕ). (y.rate.fee *ℤ pos (max 1 x.rate.size)) ≤ℤ (x.rate.fee *ℤ pos s)) (least_one y.rate.size y_some) (by (rate_cmp x.rate y.rate) refl less))
  where
    greater_less : Greater ≡ Less → ⊥
    greater_less e = cc

    by : (o : Ordering) → rate_cmp x.rate y.rate ≡ o
        → ordering_then (ordering_then (ordering_then (by_rate x y) (by_serial x y)) (by_position x y)) (by_size x y) ≡ Less
        → (y.rate.fee *ℤ pos (max 1 x.rate.size)) ≤ℤ (x.rate.fee *ℤ pos (max 1 y.rate.size))
    by Less e l =
        let low : (y.rate.fee *ℤ pos (max 1 x.rate.size)) <ℤ (x.rate.fee *ℤ pos (max 1 y.rate.size)) =
        int_ranked (y.rate.fee *ℤ pos (max 1 x.rate.size)) (x.rate.fee *ℤ pos (max 1 y.rate.size)) Less (sym e) in
        omega (arith, ints, low)
    by Equal e l =
        let same : (y.rate.fee *ℤ pos (max 1 x.rate.size)) ≡ (x.rate.fee *ℤ pos (max 1 y.rate.size)) =
        int_ranked (y.rate.fee *ℤ pos (max 1 x.rate.size)) (x.rate.fee *ℤ pos (max 1 y.rate.size)) Equal (sym e) in
        omega (arith, ints, same)
    by Greater e l = absurd (greater_less (rw e at l))

-- ---- the places of a cluster's parts

pub places_from : ℕ → ℕ → List Part → List (ℕ × ℕ)
places_from n i [] = []
places_from n i (p ∷ ps) = (n, i) ∷ places_from n (i + 1) ps

pub places_listed : (n i : ℕ) (ps : List Part) (q : ℕ × ℕ) → Contains (places_from n i ps) q → (q.0 ≡ n) × (i ≤ q.1) × (q.1 < i + length ps)
unfolding places_from
places_listed n i [] q here = absurd (none_in_empty q here)
places_listed n i (p ∷ ps) q here = elim (Contains-cases (n, i) q (places_from n (i + 1) ps) here) [
  | inl same ↦
      let number : q.0 ≡ n = ap (λ (r : ℕ × ℕ). r.0) (sym same) in
      let position : q.1 ≡ i = ap (λ (r : ℕ × ℕ). r.1) (sym same) in
      (number, omega (arith, position), omega (arith, position))
  | inr later ↦ let rest = places_listed n (i + 1) ps q later in (rest.0, omega (arith, rest.1), omega (arith, rest.2))
]

pub listed_places : (n i : ℕ) (ps : List Part) (position : ℕ) → i ≤ position → position < i + length ps → Contains (places_from n i ps) (n, position)
unfolding places_from
listed_places n i [] position low high = absurd (omega (arith, low, high))
listed_places n i (p ∷ ps) position low high = elim (cases_eq i position) [
  | inl same ↦ subst (λ (k : ℕ). Contains ((n, i) ∷ places_from n (i + 1) ps) (n, k)) same (Contains-head (n, i) (places_from n (i + 1) ps))
  | inr other ↦
      Contains-later (n, i) (n, position) (places_from n (i + 1) ps)
      (listed_places n (i + 1) ps position (above i position low other) (omega (arith, high)))
]
  where
    above : (a b : ℕ) → a ≤ b → (a ≡ b → ⊥) → a + 1 ≤ b
    above a b low other = elim (cases_lt a b) [ inl less ↦ omega arith | inr more ↦ absurd (other (omega arith)) ]

module _ (clusters : Numbered) (n : ℕ) where
  abbrev pub Follow : ℕ → List Part → Type 0
  Follow i ps = (j : ℕ) → j < length ps → part_at clusters (n, i + j) ≡ get_or ps j no_part

  follow_next : (i : ℕ) (p : Part) (ps : List Part) → Follow i (p ∷ ps) → Follow (i + 1) ps
  follow_next i p ps follow j low =
      let place : i + 1 + j ≡ i + suc j = omega arith in
      ap (λ k. part_at clusters (n, k)) place ∙ follow (suc j) (omega arith)

  follow_first : (i : ℕ) (p : Part) (ps : List Part) → Follow i (p ∷ ps) → part_at clusters (n, i) ≡ p
  follow_first i p ps follow = let place : i ≡ i + 0 = omega arith in ap (λ k. part_at clusters (n, k)) place ∙ follow 0 (omega arith)

  pub places_parts : (i : ℕ) (ps : List Part) → Follow i ps → map (part_at clusters) (places_from n i ps) ≡ ps
  unfolding places_from
  places_parts i [] follow = refl
  places_parts i (p ∷ ps) follow =
      ap (λ (q : Part). q ∷ map (part_at clusters) (places_from n (i + 1) ps)) (follow_first i p ps follow)
      ∙ ap (λ (qs : List Part). p ∷ qs) (places_parts (i + 1) ps (follow_next i p ps follow))

  first_key : (i : ℕ) (p : Part) (ps : List Part) → Follow i (p ∷ ps) → key_at clusters (n, i) ≡ key_part n i p
  first_key i p ps follow = ap (λ (q : Part). key_part n i q) (follow_first i p ps follow)

  all_behind : (x y : ℕ × ℕ) (zs : List (ℕ × ℕ)) → key_cmp (key_at clusters x) (key_at clusters y) ≡ Less
      → AllByRecursion (λ (z : ℕ × ℕ). key_cmp (key_at clusters y) (key_at clusters z) ≡ Less) zs
      → AllByRecursion (λ (z : ℕ × ℕ). key_cmp (key_at clusters x) (key_at clusters z) ≡ Less) zs
  all_behind x y [] less all = tt
  all_behind x y (z ∷ zs) less all = (key_cmp_total.trans (key_at clusters x) (key_at clusters y) (key_at clusters z) less all.0, all_behind x y zs less all.1)

  pub places_in_order : (i : ℕ) (ps : List Part) → Follow i ps → Falls (map (λ p. p.rate) ps) → ((p : Part) → Contains ps p → 1 ≤ p.rate.size)
      → IsInOrder (key_at clusters) (places_from n i ps)
  unfolding places_from IsInOrder
  places_in_order i [] follow falls sizes = tt
  places_in_order i (p ∷ []) follow falls sizes = (tt, tt)
  places_in_order i (p ∷ q ∷ ps) follow falls sizes =
      let rest = places_in_order (i + 1) (q ∷ ps) (follow_next i p (q ∷ ps) follow) falls.1 (λ r here. sizes r (Contains-later p r (q ∷ ps) here)) in
      let less : key_cmp (key_at clusters (n, i)) (key_at clusters (n, i + 1)) ≡ Less =
      ap (λ (k : Key). key_cmp k (key_at clusters (n, i + 1))) (first_key i p (q ∷ ps) follow)
      ∙ ap (key_cmp (key_part n i p)) (first_key (i + 1) q ps (follow_next i p (q ∷ ps) follow))
      ∙ next_behind n i p q falls.0 (sizes p (Contains-head p (q ∷ ps))) (sizes q (Contains-later p q (q ∷ ps) (Contains-head q ps))) in
      ((less, all_behind (n, i) (n, i + 1) (places_from n (i + 1 + 1) ps) less rest.0), rest)
