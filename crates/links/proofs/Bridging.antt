-- What is left where names go.
use Rattle.std.proofs.Common.{◌≡◌, ℕ, ℤ, zero, suc, ◌+◌, ◌<◌, ◌≤◌, ◌⊎◌, inl, inr, Bool, true, false, true≢false, not, cond, List, [], ◌∷◌, ◌++◌, length, take, get_or, refl, sym, ap, ◌∙◌, subst, arith}
use Rattle.std.specs.Prelude.{Contains, ◌↔◌, ◌&&◌}
use Rattle.std.specs.List.{filter}
use Rattle.std.proofs.lemmas.List.Elements.{Contains-push, Contains-push_cases, Contains-append_left}
use Rattle.std.proofs.lemmas.List.{take_more}
use Rattle.lists.specs.Distinct.{AreDistinct}
use Rattle.lists.proofs.Entries.{Contains-filter, filter-Contains, Contains-map, map-Contains, none_in_empty}
use Rattle.lists.proofs.Told.{told_number}
use Rattle.graphs.specs.Graphs.{Walk, IsAncestor, HasNoCycle}
use Rattle.graphs.specs.Certificates.{Txs}
use Rattle.graphs.proofs.WalkLemmas.{walk_within, IsAncestor-trans}
use Rattle.links.specs.Links.{AreAmong, AreInRange, AreSame}
use Rattle.links.specs.Kept.{names_of}
use Rattle.links.specs.Leaving.{Tells, AreInner, NoneEnters, Serves, Passes, ArePairsLeft, KeepAncestors, Adds, Crosses, CrossesOne}

-- ---- pairs whose child goes, and what they lead to

stays : (has : ℕ → Bool) (gone : List ℕ) → Tells has gone → (id : ℕ) → has id ≡ false → Contains gone id → ⊥
stays has gone tells id away here = true≢false (sym ((tells id).1 here) ∙ away)

untold : (has : ℕ → Bool) (gone : List ℕ) → Tells has gone → (id : ℕ) → (Contains gone id → ⊥) → has id ≡ false
untold has gone tells id none = unless (has id) refl
  where
    unless : (b : Bool) → has id ≡ b → has id ≡ false
    unless true is = absurd (none ((tells id).0 is))
    unless false is = is

pub inner_full : (has : ℕ → Bool) (pairs : List (ℕ × ℕ)) → AreInner has pairs (filter (λ pair. has pair.1) pairs)
inner_full has pairs a b = (
  (λ here. let found = filter-Contains (λ (pair : ℕ × ℕ). has pair.1) pairs (a, b) here in (found.1, found.0)),
  (λ both. Contains-filter (λ (pair : ℕ × ℕ). has pair.1) pairs (a, b) both.1 both.0),
)

-- where no pair leads from a name that stays to one that goes, no pair within serves a name that stays
first_pair : (pairs : List (ℕ × ℕ)) (a b n : ℕ) → Walk pairs a b (suc n) → (x : ℕ) × Contains {X = ℕ × ℕ} pairs (a, x)
first_pair pairs a b zero (c, same, pair) = (b, subst (λ (x : ℕ). Contains {X = ℕ × ℕ} pairs (x, b)) (sym same) pair)
first_pair pairs a b (suc n) (c, walk, pair) = first_pair pairs a c n walk

no_first : (has : ℕ → Bool) (pairs : List (ℕ × ℕ)) → NoneEnters has pairs → (a p n : ℕ) → has a ≡ false
    → Walk (filter (λ pair. has pair.1) pairs) a p n → a ≡ p
no_first has pairs none a p zero from same = same
no_first has pairs none a p (suc n) from walk =
    let first = first_pair (filter (λ pair. has pair.1) pairs) a p n walk in
    let found = filter-Contains (λ (pair : ℕ × ℕ). has pair.1) pairs (a, first.0) first.1 in
    absurd (none a first.0 found.1 from found.0)

empty_walk : (a b n : ℕ) → Walk [] a b n → a ≡ b
empty_walk a b zero same = same
empty_walk a b (suc n) (c, walk, pair) = absurd (none_in_empty (c, b) pair)

pub none_serve : (has : ℕ → Bool) (pairs : List (ℕ × ℕ)) → NoneEnters has pairs → Serves has pairs []
none_serve has pairs none a p from = (
  (λ walk. (0, empty_walk a p walk.0 walk.1)),
  (λ walk. (0, no_first has pairs none a p walk.0 from walk.1)),
)

pub same_serve : (has : ℕ → Bool) (pairs old new : List (ℕ × ℕ)) → Serves has pairs old → AreSame old new → Serves has pairs new
same_serve has pairs old new serves same a p from = (
  (λ walk. (serves a p from).0 (walk.0, walk_within new old (λ x y here. (same x y).0 here) a p walk.0 walk.1)),
  (λ walk. let back = (serves a p from).1 walk in (back.0, walk_within old new (λ x y here. (same x y).1 here) a p back.0 back.1)),
)

pub enters_next : (has : ℕ → Bool) (pairs : List (ℕ × ℕ)) (k : ℕ) → k < length pairs → NoneEnters has (take k pairs)
    → (not (has (get_or pairs k (0, 0)).0) && has (get_or pairs k (0, 0)).1) ≡ false → NoneEnters has (take (k + 1) pairs)
enters_next has pairs k low none other a b pair from to =
    let x = get_or pairs k (0, 0) in
    elim (Contains-push_cases (take k pairs) x (a, b) (subst (λ (l : List (ℕ × ℕ)). Contains {X = ℕ × ℕ} l (a, b)) (take_more pairs k (0, 0) low) pair)) [
      | inl early ↦ none a b early from to
      | inr same ↦
          let first : has x.0 ≡ false = ap (λ (s : ℕ × ℕ). has s.0) same ∙ from in
          let second : has x.1 ≡ true = ap (λ (s : ℕ × ℕ). has s.1) same ∙ to in
          let both : (not (has x.0) && has x.1) ≡ true = (λ i. not (first i) && second i) in
          true≢false (sym both ∙ other)
    ]

-- a walk within and one more pair pass over names that go
passes_walk : (has : ℕ → Bool) (gone : List ℕ) (pairs inner : List (ℕ × ℕ)) → Tells has gone → AreInner has pairs inner
    → (a p b n : ℕ) → Walk inner a p n → Contains {X = ℕ × ℕ} pairs (p, b) → Passes pairs gone a b n
passes_walk has gone pairs inner tells in' a p b zero same pair = subst (λ (x : ℕ). Contains {X = ℕ × ℕ} pairs (x, b)) (sym same) pair
passes_walk has gone pairs inner tells in' a p b (suc n) (c, walk, step) pair =
    let found = (in' c p).0 step in
    (p, passes_walk has gone pairs inner tells in' a c p n walk found.0, (tells p).0 found.1, pair)

walk_passes : (has : ℕ → Bool) (gone : List ℕ) (pairs inner : List (ℕ × ℕ)) → Tells has gone → AreInner has pairs inner
    → (a b n : ℕ) → Passes pairs gone a b n → (p : ℕ) × IsAncestor inner a p × Contains {X = ℕ × ℕ} pairs (p, b)
walk_passes has gone pairs inner tells in' a b zero pair = (a, (0, refl), pair)
walk_passes has gone pairs inner tells in' a b (suc n) (c, passes, here, pair) =
    let rest = walk_passes has gone pairs inner tells in' a c n passes in
    (c, (suc rest.1.0, (rest.0, rest.1.1, (in' rest.0 c).1 (rest.2, (tells c).1 here))), pair)

-- so the pairs that cross are those that are left
pub crosses_left : (has : ℕ → Bool) (gone : List ℕ) (pairs inner list : List (ℕ × ℕ)) → Tells has gone → Serves has pairs inner
    → Adds (CrossesOne has inner pairs) [] list → ArePairsLeft pairs gone list
crosses_left has gone pairs inner list tells serves adds a b =
    let full : List (ℕ × ℕ) = filter (λ pair. has pair.1) pairs in
    let in' : AreInner has pairs full = inner_full has pairs in (
      (λ here. elim ((adds a b).0 here) [
        | inl none ↦ absurd (none_in_empty (a, b) none)
        | inr (p, child, pair, cross) ↦
            let walk : IsAncestor full a p = (serves a p cross.1).0 cross.3 in (
              stays has gone tells a cross.1,
              stays has gone tells b (ap has cross.0 ∙ cross.2),
              (
                walk.0,
                passes_walk has gone pairs full tells in' a p b walk.0 walk.1
                    (subst (λ (x : ℕ). Contains {X = ℕ × ℕ} pairs (p, x)) (sym cross.0) pair),
              ),
            )
      ]),
      (λ left.
          let rest = walk_passes has gone pairs full tells in' a b left.2.0 left.2.1 in
          let from = untold has gone tells a left.0 in
          (adds a b).1 (inr (rest.0, b, rest.2, (refl, from, untold has gone tells b left.1, (serves a rest.0 from).1 rest.1)))),
    )

-- ---- ancestors and cycles

passes_from : (pairs : List (ℕ × ℕ)) (gone : List ℕ) (a b n : ℕ) → Passes pairs gone a b n → Walk pairs a b (suc n)
passes_from pairs gone a b zero pair = (a, refl, pair)
passes_from pairs gone a b (suc n) (c, passes, here, pair) = (c, passes_from pairs gone a c n passes, pair)

-- two walks, one after the other
walk_on : (pairs : List (ℕ × ℕ)) (a c b m n : ℕ) → Walk pairs a c m → Walk pairs c b n → (l : ℕ) × (m + n ≤ l) × Walk pairs a b l
walk_on pairs a c b m zero first same = (m, omega arith, subst (λ (x : ℕ). Walk pairs a x m) same first)
walk_on pairs a c b m (suc n) first (d, second, pair) =
    let rest = walk_on pairs a c d m n first second in
    let longer = rest.1 in
    (suc rest.0, omega arith, (d, rest.2, pair))

-- what is left of a walk was one that is no shorter
left_longer : (old : List (ℕ × ℕ)) (gone : List ℕ) (new : List (ℕ × ℕ)) → ArePairsLeft old gone new
    → (a b n : ℕ) → Walk new a b n → (l : ℕ) × (n ≤ l) × Walk old a b l
left_longer old gone new left a b zero same = (0, omega arith, same)
left_longer old gone new left a b (suc n) (c, walk, pair) =
    let before = left_longer old gone new left a c n walk in
    let bridge = ((left c b).0 pair).2 in
    let long = before.1 in
    let on = walk_on old a c b before.0 (suc bridge.0) before.2 (passes_from old gone c b bridge.0 bridge.1) in
    let longer = on.1 in
    (on.0, omega arith, on.2)

no_cycle_of : (pairs : List (ℕ × ℕ)) (a l : ℕ) → HasNoCycle pairs → 0 < l → Walk pairs a a l → ⊥
no_cycle_of pairs a zero none some walk = omega arith
no_cycle_of pairs a (suc l) none some walk = none a l walk

pub no_cycle_left : (old : List (ℕ × ℕ)) (gone : List ℕ) (new : List (ℕ × ℕ)) → ArePairsLeft old gone new → HasNoCycle old → HasNoCycle new
no_cycle_left old gone new left none a n walk =
    let was = left_longer old gone new left a a (suc n) walk in
    let longer = was.1 in
    no_cycle_of old a was.0 none (omega arith) was.2

-- how far a walk has come: to a name that stays, or from one over names that go
data IsCome (old : List (ℕ × ℕ)) (gone : List ℕ) (new : List (ℕ × ℕ)) (a b : ℕ) : Type 0 where
  At : (Contains gone b → ⊥) → IsAncestor new a b → IsCome old gone new a b
  Over : (c n : ℕ) → (Contains gone c → ⊥) → Contains gone b → IsAncestor new a c → Passes old gone c b n → IsCome old gone new a b

come_on : (old : List (ℕ × ℕ)) (gone : List ℕ) (new : List (ℕ × ℕ)) → ArePairsLeft old gone new
    → (a c b n : ℕ) → (Contains gone c → ⊥) → IsAncestor new a c → Passes old gone c b n → IsCome old gone new a b
come_on old gone new left a c b n from walk passes = elim (told_number gone b) [
  | inl here ↦ Over c n from here walk passes
  | inr none ↦ At none (suc walk.0, (c, walk.1, (left c b).1 (from, none, (n, passes))))
]

comes : (old : List (ℕ × ℕ)) (gone : List ℕ) (new : List (ℕ × ℕ)) → ArePairsLeft old gone new
    → (a : ℕ) → (Contains gone a → ⊥) → (b n : ℕ) → Walk old a b n → IsCome old gone new a b
comes old gone new left a from b zero same = At (subst (λ (x : ℕ). Contains gone x → ⊥) same from) (0, same)
comes old gone new left a from b (suc n) (c, walk, pair) = elim (comes old gone new left a from c n walk) [
  | At stays way ↦ come_on old gone new left a c b 0 stays way pair
  | Over d m stays here way passes ↦ come_on old gone new left a d b (suc m) stays way (c, passes, here, pair)
]

arrives : (old : List (ℕ × ℕ)) (gone : List ℕ) (new : List (ℕ × ℕ)) (a b : ℕ) → (Contains gone b → ⊥) → IsCome old gone new a b → IsAncestor new a b
arrives old gone new a b none (At stays way) = way
arrives old gone new a b none (Over c n stays here way passes) = absurd (none here)

left_walk : (old : List (ℕ × ℕ)) (gone : List ℕ) (new : List (ℕ × ℕ)) → ArePairsLeft old gone new → (a b n : ℕ) → Walk new a b n
    → (a ≡ b) ⊎ ((Contains gone a → ⊥) × (Contains gone b → ⊥) × IsAncestor old a b)
left_walk old gone new left a b zero same = inl same
left_walk old gone new left a b (suc n) (c, walk, pair) =
    let last = (left c b).0 pair in
    let own : IsAncestor old c b = (suc last.2.0, passes_from old gone c b last.2.0 last.2.1) in
    elim (left_walk old gone new left a c n walk) [
      | inl same ↦ inr (
        subst (λ (x : ℕ). Contains gone x → ⊥) (sym same) last.0,
        last.1,
        subst (λ (x : ℕ). IsAncestor old x b) (sym same) own,
      )
      | inr before ↦ inr (before.0, last.1, IsAncestor-trans old a c b before.2 own)
    ]

pub keep_ancestors : (old : List (ℕ × ℕ)) (gone : List ℕ) (new : List (ℕ × ℕ)) → ArePairsLeft old gone new → KeepAncestors old gone new
keep_ancestors old gone new left a b = (
  (λ walk. left_walk old gone new left a b walk.0 walk.1),
  (λ either. elim either [
    | inl same ↦ (0, same)
    | inr (from, to, walk) ↦ arrives old gone new a b to (comes old gone new left a from b walk.0 walk.1)
  ]),
)

-- ---- names and transactions

passes_ends : (names : List ℕ) (pairs : List (ℕ × ℕ)) (gone : List ℕ) → AreAmong names pairs → (a b n : ℕ) → Passes pairs gone a b n
    → Contains names a × Contains names b
passes_ends names pairs gone among a b zero pair = among a b pair
passes_ends names pairs gone among a b (suc n) (c, passes, here, pair) =
    let before = passes_ends names pairs gone among a c n passes in
    let last = among c b pair in
    (before.0, last.1)

-- the names of the transactions that stay
pub names_left : (has : ℕ → Bool) (txs : Txs) (id : ℕ) → Contains (names_of txs) id → has id ≡ false
    → Contains (names_of (filter (λ tx. not (has tx.0)) txs)) id
names_left has txs id here none =
    let found = map-Contains (λ (tx : ℕ × ℤ × ℕ). tx.0) txs id here in
    subst (λ (x : ℕ). Contains (names_of (filter (λ tx. not (has tx.0)) txs)) x) found.2
    (Contains-map (λ (tx : ℕ × ℤ × ℕ). tx.0) (filter (λ tx. not (has tx.0)) txs) found.0
    (Contains-filter (λ (tx : ℕ × ℤ × ℕ). not (has tx.0)) txs found.0 (ap not (ap has found.2 ∙ none)) found.1))

pub left_names : (has : ℕ → Bool) (txs : Txs) (id : ℕ) → Contains (names_of (filter (λ tx. not (has tx.0)) txs)) id → Contains (names_of txs) id
left_names has txs id here =
    let found = map-Contains (λ (tx : ℕ × ℤ × ℕ). tx.0) (filter (λ tx. not (has tx.0)) txs) id here in
    subst (λ (x : ℕ). Contains (names_of txs) x) found.2
    (Contains-map (λ (tx : ℕ × ℤ × ℕ). tx.0) txs found.0 (filter-Contains (λ (tx : ℕ × ℤ × ℕ). not (has tx.0)) txs found.0 found.1).1)

once_kept : (keep : Bool) (tx : ℕ × ℤ × ℕ) (txs : Txs) → (Contains (names_of txs) tx.0 → ⊥) → AreDistinct (names_of txs)
    → AreDistinct (names_of (cond keep (tx ∷ txs) txs))
once_kept true tx txs new once = (new, once)
once_kept false tx txs new once = once

pub once_left : (has : ℕ → Bool) (txs : Txs) → AreDistinct (names_of txs) → AreDistinct (names_of (filter (λ tx. not (has tx.0)) txs))
once_left has [] once = tt
once_left has (tx ∷ txs) once =
    once_kept (not (has tx.0)) tx (filter (λ tx. not (has tx.0)) txs) (λ here. once.0 (left_names has txs tx.0 here)) (once_left has txs once.1)

pub range_left : (has : ℕ → Bool) (txs : Txs) → AreInRange txs → AreInRange (filter (λ tx. not (has tx.0)) txs)
range_left has txs in_range id fee size here =
    in_range id fee size (filter-Contains (λ (tx : ℕ × ℤ × ℕ). not (has tx.0)) txs (id, fee, size) here).1

pub among_left : (has : ℕ → Bool) (gone : List ℕ) (txs : Txs) (old new : List (ℕ × ℕ)) → Tells has gone → AreAmong (names_of txs) old
    → ArePairsLeft old gone new → AreAmong (names_of (filter (λ tx. not (has tx.0)) txs)) new
among_left has gone txs old new tells among left a b pair =
    let is = (left a b).0 pair in
    let ends = passes_ends (names_of txs) old gone among a b is.2.0 is.2.1 in
    (names_left has txs a ends.0 (untold has gone tells a is.0), names_left has txs b ends.1 (untold has gone tells b is.1))

-- ---- lists of pairs that grow

pub add_all : (P Q : ℕ → ℕ → Type 0) (old mid new : List (ℕ × ℕ)) → Adds P old mid → Adds Q mid new → Adds (λ a b. P a b ⊎ Q a b) old new
add_all P Q old mid new first second a b = (
  (λ here. elim ((second a b).0 here) [
    | inr late ↦ inr (inr late)
    | inl there ↦ elim ((first a b).0 there) [ inl was ↦ inl was | inr early ↦ inr (inl early) ]
  ]),
  (λ either. elim either [
    | inl was ↦ (second a b).1 (inl ((first a b).1 (inl was)))
    | inr (inl early) ↦ (second a b).1 (inl ((first a b).1 (inr early)))
    | inr (inr late) ↦ (second a b).1 (inr late)
  ]),
)

pub adds_like : (P Q : ℕ → ℕ → Type 0) (old new : List (ℕ × ℕ)) → ((a b : ℕ) → P a b ↔ Q a b) → Adds P old new → Adds Q old new
adds_like P Q old new like adds a b = (
  (λ here. elim ((adds a b).0 here) [ inl was ↦ inl was | inr fresh ↦ inr ((like a b).0 fresh) ]),
  (λ either. elim either [ inl was ↦ (adds a b).1 (inl was) | inr fresh ↦ (adds a b).1 (inr ((like a b).1 fresh)) ]),
)

pub adds_none : (P : ℕ → ℕ → Type 0) (list : List (ℕ × ℕ)) → ((a b : ℕ) → P a b → ⊥) → Adds P list list
adds_none P list none a b = ((λ here. inl here), (λ either. elim either [ inl here ↦ here | inr p ↦ absurd (none a b p) ]))

-- names that lead to a parent, one more
pub bridge_more : (has : ℕ → Bool) (child above : ℕ) (ys : List ℕ) (old mid new : List (ℕ × ℕ))
    → Adds (λ a b. Contains ys a × (b ≡ child) × (has a ≡ false)) old mid
    → Adds (λ a b. (a ≡ above) × (b ≡ child) × (has above ≡ false)) mid new
    → Adds (λ a b. Contains (ys ++ above ∷ []) a × (b ≡ child) × (has a ≡ false)) old new
bridge_more has child above ys old mid new first second =
    let P : ℕ → ℕ → Type 0 = λ a b. Contains ys a × (b ≡ child) × (has a ≡ false) in
    let Q : ℕ → ℕ → Type 0 = λ a b. (a ≡ above) × (b ≡ child) × (has above ≡ false) in
    let R : ℕ → ℕ → Type 0 = λ a b. Contains (ys ++ above ∷ []) a × (b ≡ child) × (has a ≡ false) in
    adds_like (λ a b. P a b ⊎ Q a b) R old new
    (λ a b. (
      (λ either. elim either [
        | inl (early, is, from) ↦ (Contains-append_left ys (above ∷ []) a early, is, from)
        | inr (same, is, from) ↦ (
          subst (λ (x : ℕ). Contains (ys ++ above ∷ []) x) (sym same) (Contains-push ys above),
          is,
          ap has same ∙ from,
        )
      ]),
      (λ (here, is, from). elim (Contains-push_cases ys above a here) [
        | inl early ↦ inl (early, is, from)
        | inr same ↦ inr (sym same, is, ap has same ∙ from)
      ]),
    ))
    (add_all P Q old mid new first second)

-- all of them
pub bridge_all : (has : ℕ → Bool) (inner : List (ℕ × ℕ)) (parent child : ℕ) (ys : List ℕ) (old new : List (ℕ × ℕ)) → has child ≡ false
    → ((a : ℕ) → Contains ys a ↔ IsAncestor inner a parent) → Adds (λ a b. Contains ys a × (b ≡ child) × (has a ≡ false)) old new
    → Adds (Crosses has inner parent child) old new
bridge_all has inner parent child ys old new stays all adds =
    let P : ℕ → ℕ → Type 0 = λ a b. Contains ys a × (b ≡ child) × (has a ≡ false) in
    adds_like P (Crosses has inner parent child) old new
    (λ a b. (
      (λ (here, is, from). (is, from, stays, (all a).0 here)),
      (λ (is, from, to, walk). ((all a).1 walk, is, from)),
    ))
    adds

-- pairs that are crossed, one more
pub crosses_more : (has : ℕ → Bool) (inner pairs : List (ℕ × ℕ)) (k : ℕ) (mid new : List (ℕ × ℕ)) → k < length pairs
    → Adds (CrossesOne has inner (take k pairs)) [] mid → Adds (Crosses has inner (get_or pairs k (0, 0)).0 (get_or pairs k (0, 0)).1) mid new
    → Adds (CrossesOne has inner (take (k + 1) pairs)) [] new
crosses_more has inner pairs k mid new low first second =
    let x = get_or pairs k (0, 0) in
    let P = CrossesOne has inner (take k pairs) in
    let Q = Crosses has inner x.0 x.1 in
    let more : take (k + 1) pairs ≡ take k pairs ++ x ∷ [] = take_more pairs k (0, 0) low in
    adds_like (λ a b. P a b ⊎ Q a b) (CrossesOne has inner (take (k + 1) pairs)) [] new
    (λ a b. (
      (λ either. elim either [
        | inl (p, c, pair, cross) ↦
            (p, c, subst (λ (l : List (ℕ × ℕ)). Contains {X = ℕ × ℕ} l (p, c)) (sym more) (Contains-append_left (take k pairs) (x ∷ []) (p, c) pair), cross)
        | inr cross ↦
            (x.0, x.1, subst (λ (l : List (ℕ × ℕ)). Contains {X = ℕ × ℕ} l (x.0, x.1)) (sym more) (Contains-push (take k pairs) x), cross)
      ]),
      (λ (p, c, pair, cross). elim (Contains-push_cases (take k pairs) x (p, c) (subst (λ (l : List (ℕ × ℕ)). Contains {X = ℕ × ℕ} l (p, c)) more pair)) [
        | inl early ↦ inl (p, c, early, cross)
        | inr same ↦ inr (subst (λ (y : ℕ × ℕ). Crosses has inner y.0 y.1 a b) (sym same) cross)
      ]),
    ))
    (add_all P Q [] mid new first second)

pub left_same : (old : List (ℕ × ℕ)) (gone : List ℕ) (mid new : List (ℕ × ℕ)) → ArePairsLeft old gone mid → AreSame mid new → ArePairsLeft old gone new
left_same old gone mid new left same a b = ((λ here. (left a b).0 ((same a b).0 here)), (λ is. (same a b).1 ((left a b).1 is)))
