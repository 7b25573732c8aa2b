-- The graph of names against that of their places.
use Rattle.std.proofs.Common.{◌≡◌, ℕ, zero, suc, ◌<◌, ◌≤◌, Bool, true, false, cond, ◌||◌, nat_eq, List, length, slice_index, Contains, Option, Some, None, is_some, inl, inr, refl, sym, ap, ◌∙◌, arith, eq-eqb, ne_eqb, eqb-true, true≢false}
use Rattle.std.proofs.lemmas.Bool.{cases_eq, false_from_ne_true, or_cases, or_left, or_right}
use Rattle.std.proofs.lemmas.List.{get_or_default}
use Rattle.std.specs.Ordering.{nat_cmp}
use Rattle.std.specs.Cmp.{nat_cmp_total, unsigned_tied}
use Rattle.std.specs.FinSet as set
use Rattle.std.specs.FinMap as map
use Rattle.lists.proofs.Distinct.{one_place}
use Rattle.lists.specs.Distinct.{AreDistinct}
use Rattle.graphs.specs.Closures.{Node, Closure, is_member, is_ancestor, ancestors_of, rate_of, rate_in, ancestors_in}
use Rattle.bitset.specs.Sets.{contains-insert, contains-empty}
use Rattle.cluster.specs.Named.{names_where, named_node, named_below, named}

-- ---- sets of names

abbrev pub Chosen : List ℕ → (ℕ → Bool) → ℕ → ℕ → Type 0
Chosen names f n x = (p : ℕ) × (p < n) × (f p ≡ true) × (slice_index names p ≡ x)

chosen_earlier : (names : List ℕ) (f : ℕ → Bool) (n x : ℕ) → Chosen names f n x → Chosen names f (suc n) x
chosen_earlier names f n x h = (h.0, omega (arith, h.1), h.2, h.3)

chosen_more : (names : List ℕ) (f : ℕ → Bool) (n x : ℕ) (b : Bool) (s : set.FinSet nat_cmp) → f n ≡ b → (set.contains s x ≡ true → Chosen names f n x)
    → set.contains (cond b (set.insert s (slice_index names n)) s) x ≡ true → Chosen names f (suc n) x
chosen_more names f n x true s passes rest e =
    elim (or_cases (nat_eq x (slice_index names n)) (set.contains s x) (sym (contains-insert s (slice_index names n) x) ∙ e)) [
      | inl here ↦ (n, omega arith, passes, sym (eqb-true x (slice_index names n) here))
      | inr there ↦ chosen_earlier names f n x (rest there)
    ]
chosen_more names f n x false s fails rest e = chosen_earlier names f n x (rest e)

pub contains-names_where : (names : List ℕ) (f : ℕ → Bool) (n x : ℕ) → set.contains (names_where names f n) x ≡ true → Chosen names f n x
unfolding names_where
contains-names_where names f zero x e = absurd (true≢false (sym e ∙ contains-empty x))
contains-names_where names f (suc n) x e = chosen_more names f n x (f n) (names_where names f n) refl (contains-names_where names f n x) e

name_more : (names : List ℕ) (f : ℕ → Bool) (n p : ℕ) (b : Bool) (s : set.FinSet nat_cmp) → f n ≡ b → f p ≡ true → p < suc n
    → (p < n → set.contains s (slice_index names p) ≡ true) → set.contains (cond b (set.insert s (slice_index names n)) s) (slice_index names p) ≡ true
name_more names f n p true s e passes low rest = contains-insert s (slice_index names n) (slice_index names p)
    ∙ elim (cases_eq p n) as (λ _. (nat_eq (slice_index names p) (slice_index names n) || set.contains s (slice_index names p)) ≡ true) [
      | inl same ↦ or_left (nat_eq (slice_index names p) (slice_index names n)) (set.contains s (slice_index names p))
          (eq-eqb (slice_index names p) (slice_index names n) (ap (slice_index names) same))
      | inr other ↦ or_right (nat_eq (slice_index names p) (slice_index names n)) (set.contains s (slice_index names p)) (rest (omega arith))
    ]
name_more names f n p false s e passes low rest =
    rest (elim (cases_eq p n) as (λ _. p < n) [ inl same ↦ absurd (true≢false (sym passes ∙ ap f same ∙ e)) | inr other ↦ omega arith ])

pub names_where-contains : (names : List ℕ) (f : ℕ → Bool) (n p : ℕ) → p < n → f p ≡ true → set.contains (names_where names f n) (slice_index names p) ≡ true
unfolding names_where
names_where-contains names f zero p low passes = absurd (omega arith)
names_where-contains names f (suc n) p low passes =
    name_more names f n p (f n) (names_where names f n) refl passes low (λ below. names_where-contains names f n p below passes)

-- ---- what a name has

get-more : (names : List ℕ) (g : Closure) (n id : ℕ)
    → map.get (named_below names g (suc n)) id ≡ cond (nat_eq id (slice_index names n)) (Some (named_node names g n)) (map.get (named_below names g n) id)
unfolding named_below
get-more names g n id = map.get-insert nat_cmp_total (named_below names g n) (slice_index names n) (named_node names g n) id
    ∙ ap (λ b. cond b (Some (named_node names g n)) (map.get (named_below names g n) id)) (unsigned_tied id (slice_index names n))

get-none : (names : List ℕ) (g : Closure) (id : ℕ) → map.get (named_below names g 0) id ≡ None
unfolding named_below
get-none names g id = map.get-empty nat_cmp id

get-here : (names : List ℕ) (g : Closure) (n p : ℕ) → AreDistinct names → n ≤ length names
    → p < n → map.get (named_below names g n) (slice_index names p) ≡ Some (named_node names g p)
get-here names g zero p once within low = absurd (omega arith)
get-here names g (suc n) p once within low = get-more names g n (slice_index names p)
    ∙ elim (cases_eq p n) as (λ _. cond (nat_eq (slice_index names p) (slice_index names n)) (Some (named_node names g n))
    (map.get (named_below names g n) (slice_index names p)) ≡ Some (named_node names g p)) [
      | inl same ↦ ap (λ b. cond b (Some (named_node names g n)) (map.get (named_below names g n) (slice_index names p)))
          (eq-eqb (slice_index names p) (slice_index names n) (ap (slice_index names) same)) ∙ ap (λ m. Some (named_node names g m)) (sym same)
      | inr other ↦ ap (λ b. cond b (Some (named_node names g n)) (map.get (named_below names g n) (slice_index names p)))
          (ne_eqb (slice_index names p) (slice_index names n) (λ e. other (one_place names p n 0 once (omega arith) (omega arith) e)))
          ∙ get-here names g n p once (omega arith) (omega arith)
    ]

there_more : (names : List ℕ) (n id : ℕ) (b : Bool) (x : Node) (o : Option Node)
    → nat_eq id (slice_index names n) ≡ b → (is_some o ≡ true → (p : ℕ) × (p < n) × (slice_index names p ≡ id))
    → is_some (cond b (Some x) o) ≡ true → (p : ℕ) × (p < suc n) × (slice_index names p ≡ id)
there_more names n id true x o is rest e = (n, omega arith, sym (eqb-true id (slice_index names n) is))
there_more names n id false x o is rest e = let h = rest e in (h.0, omega (arith, h.1), h.2)

get-there : (names : List ℕ) (g : Closure) (n id : ℕ) → is_some (map.get (named_below names g n) id) ≡ true → (p : ℕ) × (p < n) × (slice_index names p ≡ id)
get-there names g zero id e = absurd (true≢false (sym e ∙ ap is_some (get-none names g id)))
get-there names g (suc n) id e = there_more names n id (nat_eq id (slice_index names n)) (named_node names g n)
    (map.get (named_below names g n) id) refl (get-there names g n id) (sym (ap is_some (get-more names g n id)) ∙ e)

-- the place of a name
abbrev pub Stands : List ℕ → ℕ → Type 0
Stands names id = (p : ℕ) × (p < length names) × (slice_index names p ≡ id)

pub Contains-stands : (names : List ℕ) (id : ℕ) → Contains names id → Stands names id
Contains-stands names id h = (h.0, h.1, get_or_default names h.0 0 id h.1 ∙ h.2)

pub Stands-contains : (names : List ℕ) (id : ℕ) → Stands names id → Contains names id
Stands-contains names id h = (h.0, h.1, get_or_default names h.0 id 0 h.1 ∙ h.2)

module _ (names : List ℕ) (g : Closure) (once : AreDistinct names) where
  pub named-member : (p : ℕ) → p < length names → is_member (named names g) (slice_index names p) ≡ true
  unfolding is_member named
  named-member p low = ap is_some (get-here names g (length names) p once (omega arith) low)

  pub member-stands : (id : ℕ) → is_member (named names g) id ≡ true → Stands names id
  unfolding is_member named
  member-stands id e = get-there names g (length names) id e

  pub named-rate : (p : ℕ) → p < length names → rate_of (named names g) (slice_index names p) ≡ rate_of g p
  unfolding rate_of named
  named-rate p low = ap rate_in (get-here names g (length names) p once (omega arith) low)

  named-ancestors : (p : ℕ) → p < length names → ancestors_of (named names g) (slice_index names p) ≡ names_where names (λ a. is_ancestor g a p) (length names)
  unfolding named ancestors_of
  named-ancestors p low = ap ancestors_in (get-here names g (length names) p once (omega arith) low)

  ancestor-member : (a d : ℕ) → is_ancestor (named names g) a d ≡ true → is_member (named names g) d ≡ true
  unfolding is_member ancestors_of
  ancestor-member a d e = cases (map.get (named names g) d) e
    where
      cases : (o : Option Node) → set.contains (ancestors_in o) a ≡ true → is_some o ≡ true
      cases None e = absurd (true≢false (sym e ∙ contains-empty a))
      cases (Some n) e = refl

  -- an ancestor of a name stands at an ancestor of its place
  pub ancestor-stands : (a d : ℕ) → is_ancestor (named names g) a d ≡ true
      → (p q : ℕ) × (p < length names) × (q < length names) × (slice_index names p ≡ a) × (slice_index names q ≡ d) × (is_ancestor g p q ≡ true)
  ancestor-stands a d e =
      let below = member-stands d (ancestor-member a d e) in
      let there : set.contains (names_where names (λ x. is_ancestor g x below.0) (length names)) a ≡ true =
      ap (λ s. set.contains s a) (sym (named-ancestors below.0 below.1)) ∙ ap (λ x. is_ancestor (named names g) a x) below.2 ∙ e in
      let above = contains-names_where names (λ x. is_ancestor g x below.0) (length names) a there in
      (above.0, below.0, above.1, below.1, above.3, below.2, above.2)

  pub named-ancestor : (p q : ℕ) → p < length names → q < length names
      → is_ancestor (named names g) (slice_index names p) (slice_index names q) ≡ is_ancestor g p q
  named-ancestor p q low below = cases (is_ancestor g p q) refl
    where
      cases : (b : Bool) → is_ancestor g p q ≡ b → is_ancestor (named names g) (slice_index names p) (slice_index names q) ≡ b
      cases true e = ap (λ s. set.contains s (slice_index names p)) (named-ancestors q below)
          ∙ names_where-contains names (λ x. is_ancestor g x q) (length names) p low e
      cases false e = false_from_ne_true _ (λ holds.
          let h = ancestor-stands (slice_index names p) (slice_index names q) holds in
          let first : h.0 ≡ p = one_place names h.0 p 0 once h.2 low h.4 in
          let second : h.1 ≡ q = one_place names h.1 q 0 once h.3 below h.5 in
          true≢false (sym h.6 ∙ ap (λ x. is_ancestor g x h.1) first ∙ ap (λ x. is_ancestor g p x) second ∙ e))
