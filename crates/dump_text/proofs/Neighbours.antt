-- Entries of which each is before the next.
use Rattle.std.proofs.Common.{◌≡◌, ℕ, ℤ, suc, zero, ◌+◌, ◌-◌, ◌<◌, ◌≤◌, List, [], ◌∷◌, length, get_or, pos, Result, Ok, Err, false, inl, inr, ◌⊎◌, refl, sym, ap, subst, ◌∙◌, arith, true≢false}
use Rattle.std.specs.Prelude.{Contains}
use Rattle.std.specs.Prelude.{Bool, MatchBool, MatchResult, is_ok}
use Rattle.std.specs.declared.cmp.Ordering.{Ordering}
use Rattle.std.specs.declared.cmp.Ordering.TheVariants.{Less, Equal, Greater}
use Rattle.std.specs.Cmp.{nat_cmp_is}
use Rattle.std.specs.Ordering.{nat_cmp, ordering_then, is_lt, is_gt}
use Rattle.std.specs.List.Sorted.{IsStrictlyIncreasing, IsSortedByKey, IsBinarySearchResult, IsSearchInRange}
use Rattle.std.proofs.lemmas.Bool.{cases_eq, cases_lt}
use Rattle.std.proofs.lemmas.Cmp.{tied_itself}
use Rattle.std.proofs.lemmas.List.Sorted.{searchable_from_sorted}
use Rattle.std.proofs.lemmas.Map.Lookups.{exact_unsigned}
use Rattle.std.proofs.lemmas.List.{get_or-map, get_or_default, length-map}
use Rattle.std.proofs.lemmas.List.Elements.{Contains-get_or}
use Rattle.lists.proofs.Distinct.{distinct_from_places}
use Rattle.lists.proofs.Follows.{Follow}
use Rattle.fee_rate.specs.Limits.{IsFee, IsSize}
use Rattle.graphs.specs.Certificates.{Txs}
use Rattle.graph_model.specs.Changes.{ids_of}
use Rattle.graph_model.specs.Dumps.{EdgesRise}
use Rattle.graph_model.proofs.EdgeLemmas.{followed}
use Rattle.links.specs.Links.{AreInRange}
use Rattle.dump_text.specs.Testing.{IsBefore}
use Rattle.dump_text.proofs.Covering.{edge_at}
use Rattle.lists.proofs.Pairs.{pair_cmp, pair_total}
use Rattle.dump_text.proofs.Rising.{IsNoLater, edges_rise, ends}

-- ---- transactions

abbrev pub tx_at : Txs → ℕ → ℕ × ℤ × ℕ
tx_at txs k = get_or txs k (0, pos 0, 0)

id_at : (txs : Txs) (k : ℕ) → k < length txs → get_or (ids_of txs) k 0 ≡ (tx_at txs k).0
id_at txs k low = get_or-map (λ (tx : ℕ × ℤ × ℕ). tx.0) txs k (0, pos 0, 0) 0 low

pub names_all : (txs : Txs) → ((k : ℕ) → k + 1 < length txs → (tx_at txs k).0 < (tx_at txs (k + 1)).0) → IsStrictlyIncreasing (ids_of txs)
names_all txs each k low =
    let long : length (ids_of txs) ≡ length txs = length-map txs (λ (tx : ℕ × ℤ × ℕ). tx.0) in
    omega (arith, each k (omega (arith, low, long)), id_at txs k (omega (arith, low, long)), id_at txs (k + 1) (omega (arith, low, long)))

pub names_at : (txs : Txs) (k j : ℕ) → k + 1 ≡ j → IsStrictlyIncreasing (ids_of txs) → j < length txs → (tx_at txs k).0 < (tx_at txs j).0
names_at txs k j is rising low =
    let long : length (ids_of txs) ≡ length txs = length-map txs (λ (tx : ℕ × ℤ × ℕ). tx.0) in
    let each : (tx_at txs k).0 < (tx_at txs (k + 1)).0 =
    omega (arith, rising k (omega (arith, is, low, long)), id_at txs k (omega (arith, is, low)), id_at txs (k + 1) (omega (arith, is, low))) in
    subst (λ (n : ℕ). (tx_at txs k).0 < (tx_at txs n).0) is each

pub range_all : (txs : Txs) → ((k : ℕ) → k < length txs → IsFee (tx_at txs k).1 × IsSize (tx_at txs k).2) → AreInRange txs
range_all txs each id fee size (k, low, is) =
    let same : ◌≡◌ {A = ℕ × ℤ × ℕ} (tx_at txs k) (id, fee, size) = get_or_default txs k (0, pos 0, 0) (id, fee, size) low ∙ is in
    subst (λ (tx : ℕ × ℤ × ℕ). IsFee tx.1 × IsSize tx.2) same (each k low)

pub range_at : (txs : Txs) (k : ℕ) → AreInRange txs → k < length txs → IsFee (tx_at txs k).1 × IsSize (tx_at txs k).2
range_at txs k all low = all _ _ _ (Contains-get_or txs k (0, pos 0, 0) low)

-- ---- edges

before_trans : (a b c : ℕ × ℕ) → IsBefore a b → IsBefore b c → IsBefore a c
before_trans a b c (inl one) (inl other) = inl (omega (arith, one, other))
before_trans a b c (inl one) (inr other) = inl (omega (arith, one, other.0))
before_trans a b c (inr one) (inl other) = inl (omega (arith, one.0, other))
before_trans a b c (inr one) (inr other) = inr (one.0 ∙ other.0, omega (arith, one.1, other.1))

before_itself : (a b : ℕ × ℕ) → IsBefore a b → a ≡ b → ⊥
before_itself a b (inl low) same = let e : a.1 ≡ b.1 = ap (λ (x : ℕ × ℕ). x.1) same in omega (arith, low, e)
before_itself a b (inr low) same = let e : a.0 ≡ b.0 = ap (λ (x : ℕ × ℕ). x.0) same in omega (arith, low.1, e)

-- each is before the next, so it is before all later ones
far : (edges : List (ℕ × ℕ)) → ((k : ℕ) → k + 1 < length edges → IsBefore (edge_at edges k) (edge_at edges (k + 1)))
    → (i n j : ℕ) → i + n + 1 ≡ j → j < length edges → IsBefore (edge_at edges i) (edge_at edges j)
far edges each i zero j is low = subst (λ (k : ℕ). IsBefore (edge_at edges i) (edge_at edges k)) (let e : i + 1 ≡ j = omega (arith, is) in e) (each i (omega (arith, is, low)))
far edges each i (suc n) j is low =
    let most : IsBefore (edge_at edges i) (edge_at edges (i + n + 1)) = far edges each i n (i + n + 1) (omega arith) (omega (arith, is, low)) in
    let last : IsBefore (edge_at edges (i + n + 1)) (edge_at edges (i + n + 1 + 1)) = each (i + n + 1) (omega (arith, is, low)) in
    let e : i + n + 1 + 1 ≡ j = omega (arith, is) in
    before_trans _ _ _ most (subst (λ (k : ℕ). IsBefore (edge_at edges (i + n + 1)) (edge_at edges k)) e last)

no_later : (a b : ℕ × ℕ) → IsBefore a b → IsNoLater a b
no_later a b (inl low) = inl low
no_later a b (inr low) = inr (low.0, omega (arith, low.1))

pub edges_all : (edges : List (ℕ × ℕ)) → ((k : ℕ) → k + 1 < length edges → IsBefore (edge_at edges k) (edge_at edges (k + 1))) → EdgesRise edges
edges_all edges each =
    let all : (i j : ℕ) (d : ℕ × ℕ) → i < j → j < length edges → IsBefore (get_or edges i d) (get_or edges j d) = λ i j d less low.
    let (n, is) : (n : ℕ) × (i + n + 1 ≡ j) = gap i j less in
    subst (λ (x : ℕ × ℕ). IsBefore x (get_or edges j d)) (get_or_default edges i (0, 0) d (omega (arith, less, low)))
    (subst (λ (y : ℕ × ℕ). IsBefore (edge_at edges i) y) (get_or_default edges j (0, 0) d low) (far edges each i n j is low)) in
    edges_rise edges (λ i j d less low. no_later _ _ (all i j d less low))
    (distinct_from_places edges (λ i j d less low same. before_itself _ _ (all i j d less low) same))
  where
    gap : (i j : ℕ) → i < j → (n : ℕ) × (i + n + 1 ≡ j)
    gap i j less = (j - i - 1, omega (arith, less))

follow_at : (edges : List (ℕ × ℕ)) → Follow IsBefore edges → (i j : ℕ) (d : ℕ × ℕ) → i < j → j < length edges → IsBefore (get_or edges i d) (get_or edges j d)
follow_at [] all i j d less low = absurd (omega (arith, low))
follow_at (x ∷ xs) all i zero d less low = absurd (omega (arith, less))
follow_at (x ∷ xs) all zero (suc j) d less low = all.0 (get_or xs j d) (Contains-get_or xs j d (omega (arith, low)))
follow_at (x ∷ xs) all (suc i) (suc j) d less low = follow_at xs all.1 i j d (omega (arith, less)) (omega (arith, low))

pub edges_at : (edges : List (ℕ × ℕ)) (i j : ℕ) → EdgesRise edges → i < j → j < length edges → IsBefore (edge_at edges i) (edge_at edges j)
edges_at edges i j rising less low = follow_at edges (followed IsBefore edges rising) i j (0, 0) less low

-- ---- a search among edges that rise

order_falls : (a b : ℕ × ℕ) → IsBefore a b → is_lt (pair_cmp (ends b) (ends a)) ≡ false
order_falls a b (inl low) = ap (λ o. is_lt (ordering_then o (nat_cmp b.0 a.0))) (sym (nat_cmp_is b.1 a.1 Greater low))
order_falls a b (inr low) =
    ap (λ o. is_lt (ordering_then o (nat_cmp b.0 a.0))) (sym (nat_cmp_is b.1 a.1 Equal (sym low.0))) ∙ ap is_lt (sym (nat_cmp_is b.0 a.0 Greater low.1))

sorted : (edges : List (ℕ × ℕ)) → EdgesRise edges → IsSortedByKey ends pair_cmp edges
sorted edges rising k d from low =
    order_falls (get_or edges k d) (get_or edges (k + 1) d) (follow_at edges (followed IsBefore edges rising) k (k + 1) d (omega arith) low)

both_equal : (a b : Ordering) → ordering_then a b ≡ Equal → (a ≡ Equal) × (b ≡ Equal)
both_equal Less b e = absurd (true≢false (ap is_lt e))
both_equal Equal b e = (refl, e)
both_equal Greater b e = absurd (true≢false (ap is_gt e))

pair_exact : (x y : ℕ × ℕ) → pair_cmp x y ≡ Equal → ◌≡◌ {A = ℕ × ℕ} x y
pair_exact x y e =
    let both = both_equal (nat_cmp x.0 y.0) (nat_cmp x.1 y.1) e in
    let first : x.0 ≡ y.0 = exact_unsigned x.0 y.0 both.0 in
    let second : x.1 ≡ y.1 = exact_unsigned x.1 y.1 both.1 in
    λ i. (first i, second i)

less_apart : (o : Ordering) → o ≡ Equal → o ≡ Less → ⊥
less_apart o e l = true≢false (ap is_lt (sym l ∙ e))

greater_apart : (o : Ordering) → o ≡ Equal → o ≡ Greater → ⊥
greater_apart o e l = true≢false (ap is_gt (sym l ∙ e))

pub found_edge : (edges : List (ℕ × ℕ)) (p c : ℕ) (r : Result ℕ ℕ) → EdgesRise edges → IsSearchInRange r (length edges)
    → IsBinarySearchResult (λ (y : ℕ × ℕ). pair_cmp (ends y) (c, p)) edges r
    → MatchResult r (λ _. Contains {X = ℕ × ℕ} edges (p, c)) (λ _. Contains {X = ℕ × ℕ} edges (p, c) → ⊥)
found_edge edges p c (Ok i) rising low here =
    let same : ◌≡◌ {A = ℕ × ℕ} (ends (get_or edges i (p, c))) (c, p) = pair_exact _ _ (here (p, c)) in
    (i, low, λ j. let e : ℕ × ℕ = same j in (e.1, e.0))
found_edge edges p c (Err i) rising low parts = λ (k, below, is).
    let parted = parts (searchable_from_sorted pair_total ends edges (c, p) (sorted edges rising)) in
    let equal : pair_cmp (ends (get_or edges k (p, c))) (c, p) ≡ Equal =
    ap (λ (e : ℕ × ℕ). pair_cmp (ends e) (c, p)) is ∙ tied_itself pair_total (c, p) in
    elim (cases_lt k i) [
      | inl less ↦ less_apart _ equal (parted.0 k (p, c) (omega arith) less)
      | inr more ↦ greater_apart _ equal (parted.1 k (p, c) more below)
    ]

pub ok_tells : (Yes No : Type 0) (r : Result ℕ ℕ) (ok : Bool) → ok ≡ is_ok r → MatchResult r (λ _. Yes) (λ _. No) → MatchBool ok Yes No
ok_tells Yes No (Ok i) ok is told = subst (λ (b : Bool). MatchBool b Yes No) (sym is) told
ok_tells Yes No (Err i) ok is told = subst (λ (b : Bool). MatchBool b Yes No) (sym is) told

-- ---- the edges to one child

low_child : (a b : ℕ × ℕ) → IsBefore a b → a.1 ≤ b.1
low_child a b (inl low) = omega (arith, low)
low_child a b (inr low) = omega (arith, low.0)

-- an edge to the same child that stands elsewhere has one beside it
beside_before : (edges : List (ℕ × ℕ)) (k at : ℕ) → EdgesRise edges → k < at → at < length edges → (edge_at edges k).1 ≡ (edge_at edges at).1
    → (edge_at edges (at - 1)).1 ≡ (edge_at edges at).1
beside_before edges k at rising less low same =
    let next : (edge_at edges (at - 1)).1 ≤ (edge_at edges at).1 = low_child _ _ (edges_at edges (at - 1) at rising (omega (arith, less)) low) in
    elim (cases_eq k (at - 1)) [
      | inl is ↦ subst (λ (n : ℕ). (edge_at edges n).1 ≡ (edge_at edges at).1) is same
      | inr other ↦
          (let first : (edge_at edges k).1 ≤ (edge_at edges (at - 1)).1 =
          low_child _ _ (edges_at edges k (at - 1) rising (omega (arith, less, other)) (omega (arith, less, low))) in
          omega (arith, first, next, same))
    ]

beside_after : (edges : List (ℕ × ℕ)) (k at : ℕ) → EdgesRise edges → at < k → k < length edges → (edge_at edges k).1 ≡ (edge_at edges at).1
    → (edge_at edges (at + 1)).1 ≡ (edge_at edges at).1
beside_after edges k at rising less low same =
    let next : (edge_at edges at).1 ≤ (edge_at edges (at + 1)).1 =
    low_child _ _ (edges_at edges at (at + 1) rising (omega arith) (omega (arith, less, low))) in
    elim (cases_eq (at + 1) k) [
      | inl is ↦ subst (λ (n : ℕ). (edge_at edges n).1 ≡ (edge_at edges at).1) (sym is) same
      | inr other ↦
          (let last : (edge_at edges (at + 1)).1 ≤ (edge_at edges k).1 =
          low_child _ _ (edges_at edges (at + 1) k rising (omega (arith, less, other)) low) in
          omega (arith, last, next, same))
    ]

-- where none is beside it, an edge is the only one to its child
pub only_parent : (edges : List (ℕ × ℕ)) (at : ℕ) → EdgesRise edges → at < length edges
    → (0 < at → (edge_at edges (at - 1)).1 ≡ (edge_at edges at).1 → ⊥)
    → (at + 1 < length edges → (edge_at edges (at + 1)).1 ≡ (edge_at edges at).1 → ⊥)
    → (a : ℕ) → Contains edges (a, (edge_at edges at).1) → a ≡ (edge_at edges at).0
only_parent edges at rising low none_before none_after a (k, there, is) =
    let same : edge_at edges k ≡ (a, (edge_at edges at).1) = get_or_default edges k (0, 0) _ there ∙ is in
    let child : (edge_at edges k).1 ≡ (edge_at edges at).1 = ap (λ (e : ℕ × ℕ). e.1) same in
    let parent : (edge_at edges k).0 ≡ a = ap (λ (e : ℕ × ℕ). e.0) same in
    elim (cases_eq k at) [
      | inl here ↦ sym parent ∙ ap (λ (n : ℕ). (edge_at edges n).0) here
      | inr other ↦ elim (sides k at other) [
        | inl less ↦ absurd (none_before (omega (arith, less)) (beside_before edges k at rising less low child))
        | inr more ↦ absurd (none_after (omega (arith, more, there)) (beside_after edges k at rising more there child))
      ]
    ]
  where
    sides : (k at : ℕ) → (k ≡ at → ⊥) → (k < at) ⊎ (at < k)
    sides k at other = elim (cases_lt k at) [ inl less ↦ inl less | inr more ↦ inr (omega (arith, more, other)) ]
