-- Sets of numbers: what `where_below` holds, the members as a rising list, the least member.
use Rattle.std.proofs.Common.{◌≡◌, ℕ, zero, suc, ◌+◌, ◌<◌, ◌≤◌, Bool, true, false, cond, not, ◌&&◌, ◌||◌, nat_eq, nat_lt, List, [], ◌∷◌, ◌++◌, length, filter, All, Contains, inl, inr, refl, sym, ap, ◌∙◌, subst, arith, lt-ltb, eq-eqb, ne_eqb, le-ltb, add-one, add-zero, zero-add, length-append}
use Rattle.std.proofs.lemmas.Bool.{cases_eq, cases_lt, false_from_ne_true}
use Rattle.std.proofs.lemmas.List.Elements.{All-contains, All-filter, All-from_get_or, filter_passes, filter-append, Contains-append_right}
use Rattle.std.proofs.lemmas.List.FromFn.{length-range_with_len, get_or-range_with_len}
use Rattle.std.specs.List.{range_with_len}
use Rattle.std.proofs.lemmas.Bool.Decides.{nat_tests}
use Rattle.std.specs.Ordering.{nat_cmp}
use Rattle.std.specs.Cmp.{unsigned_tied, nat_cmp_total}
use Rattle.std.specs.FinSet as set
use Rattle.lists.specs.Rising.{AllAbove, IsRising}
use Rattle.bitset.specs.Places.{where_below, first_places, places, IsWithin, IsLeast}

-- two sets of numbers with the same members are equal
pub same_members : (s t : set.FinSet nat_cmp) → ((q : ℕ) → set.contains s q ≡ set.contains t q) → s ≡ t
same_members s t same = set.same_set nat_cmp_total set.nat_cmp-IsAntisymmetric s t same

pub contains-insert : (s : set.FinSet nat_cmp) (k q : ℕ) → set.contains (set.insert s k) q ≡ (nat_eq q k || set.contains s q)
contains-insert s k q = set.contains-insert nat_cmp_total s k q ∙ ap (λ b. b || set.contains s q) (unsigned_tied q k)

pub contains-remove : (s : set.FinSet nat_cmp) (k q : ℕ) → set.contains (set.remove s k) q ≡ (not (nat_eq q k) && set.contains s q)
contains-remove s k q = set.contains-remove nat_cmp_total s k q ∙ ap (λ b. not b && set.contains s q) (unsigned_tied q k)

pub contains-union : (s t : set.FinSet nat_cmp) (q : ℕ) → set.contains (set.union s t) q ≡ (set.contains s q || set.contains t q)
contains-union s t q = set.contains-union nat_cmp_total s t q

pub contains-intersection : (s t : set.FinSet nat_cmp) (q : ℕ) → set.contains (set.intersection s t) q ≡ (set.contains s q && set.contains t q)
contains-intersection s t q = set.contains-intersection nat_cmp_total s t q

pub contains-difference : (s t : set.FinSet nat_cmp) (q : ℕ) → set.contains (set.difference s t) q ≡ (set.contains s q && not (set.contains t q))
contains-difference s t q = set.contains-difference nat_cmp_total s t q

more_below : (n q : ℕ) (here there : Bool) → (q ≡ n → there ≡ here)
    → cond here (nat_eq q n || (nat_lt q n && there)) (nat_lt q n && there) ≡ (nat_lt q (n + 1) && there)
more_below n q true true h = grind (arith, nat_tests)
more_below n q true false h = grind (arith, nat_tests)
more_below n q false true h = grind (arith, nat_tests)
more_below n q false false h = grind (arith, nat_tests)

pub contains-where_below : (f : ℕ → Bool) (n q : ℕ) → set.contains (where_below f n) q ≡ (nat_lt q n && f q)
unfolding where_below
contains-where_below f zero q = set.contains-empty nat_cmp q ∙ grind (arith, nat_tests)
contains-where_below f (suc n) q =
    put (f n)
    ∙ ap (λ b. cond (f n) (nat_eq q n || b) b) (contains-where_below f n q)
    ∙ more_below n q (f n) (f q) (λ e. ap f e) ∙ ap (λ m. nat_lt q m && f q) (add-one n)
  where
    put : (b : Bool) → set.contains (cond b (set.insert (where_below f n) n) (where_below f n)) q
        ≡ cond b (nat_eq q n || set.contains (where_below f n) q) (set.contains (where_below f n) q)
    put true = contains-insert (where_below f n) n q
    put false = refl

-- a set is given by a bound on its members and the test for them
pub where_below-contains : (n : ℕ) (s : set.FinSet nat_cmp) → IsWithin n s → where_below (set.contains s) n ≡ s
where_below-contains n s within = same_members _ s (λ q.
    contains-where_below (set.contains s) n q
    ∙ elim (cases_lt q n) as (λ _. (nat_lt q n && set.contains s q) ≡ set.contains s q) [
      | inl h ↦ ap (λ b. b && set.contains s q) (lt-ltb q n h)
      | inr h ↦ ap (λ b. b && set.contains s q) (le-ltb q n h)
          ∙ sym (false_from_ne_true (set.contains s q) (λ e. let low : q < n = within q e in absurd (omega arith)))
    ])

pub contains-first_places : (n q : ℕ) → set.contains (first_places n) q ≡ nat_lt q n
contains-first_places n q = contains-where_below (λ _. true) n q ∙ and_true (nat_lt q n)
  where
    and_true : (b : Bool) → (b && true) ≡ b
    and_true true = refl
    and_true false = refl

pub contains-empty : (q : ℕ) → set.contains (set.empty {R = nat_cmp}) q ≡ false
contains-empty q = set.contains-empty nat_cmp q

-- ---- the members as a rising list

-- two tests that agree from a on keep the same numbers
pub filter_agree_from : (f g : ℕ → Bool) (a n : ℕ) → ((k : ℕ) → a ≤ k → f k ≡ g k) → filter f (range_with_len a n) ≡ filter g (range_with_len a n)
filter_agree_from f g a zero same = refl
filter_agree_from f g a (suc n) same =
    ap (λ b. cond b (a ∷ filter f (range_with_len (a + 1) n)) (filter f (range_with_len (a + 1) n))) (same a (omega arith))
    ∙ ap (λ xs. cond (g a) (a ∷ xs) xs) (filter_agree_from f g (a + 1) n (λ k h. same k (omega arith)))

-- without its least member a set has the other members
least_first : (s : set.FinSet nat_cmp) (p a n : ℕ) → IsLeast s p → a ≤ p → p < a + n
    → filter (set.contains s) (range_with_len a n) ≡ p ∷ filter (set.contains (set.remove s p)) (range_with_len a n)
least_first s p a zero least low high = absurd (omega arith)
least_first s p a (suc n) least low high =
    elim (cases_eq a p) as (λ _. filter (set.contains s) (range_with_len a (suc n)) ≡ p ∷ filter (set.contains (set.remove s p)) (range_with_len a (suc n))) [
      | inl same ↦
          let here : set.contains s a ≡ true = ap (set.contains s) same ∙ least.member in
          let gone : set.contains (set.remove s p) a ≡ false = contains-remove s p a ∙ ap (λ b. not b && set.contains s a) (eq-eqb a p same) in
          let later : filter (set.contains s) (range_with_len (a + 1) n) ≡ filter (set.contains (set.remove s p)) (range_with_len (a + 1) n) =
          filter_agree_from _ _ (a + 1) n (λ k h. sym (contains-remove s p k ∙ ap (λ b. not b && set.contains s k) (ne_eqb k p (λ e. omega arith)))) in
          ap (λ b. cond b (a ∷ filter (set.contains s) (range_with_len (a + 1) n)) (filter (set.contains s) (range_with_len (a + 1) n))) here
          ∙ ap (λ x. x ∷ filter (set.contains s) (range_with_len (a + 1) n)) same
          ∙ ap (λ xs. p ∷ xs) later
          ∙ sym (ap (λ b. p ∷ cond b (a ∷ filter (set.contains (set.remove s p)) (range_with_len (a + 1) n))
          (filter (set.contains (set.remove s p)) (range_with_len (a + 1) n))) gone)
      | inr other ↦
          let below : a < p = omega arith in
          let absent : set.contains s a ≡ false = false_from_ne_true _ (λ e. let up : p ≤ a = least.below a e in absurd (omega arith)) in
          let gone : set.contains (set.remove s p) a ≡ false = contains-remove s p a ∙ ap (λ b. not (nat_eq a p) && b) absent ∙ and_false (not (nat_eq a p)) in
          ap (λ b. cond b (a ∷ filter (set.contains s) (range_with_len (a + 1) n)) (filter (set.contains s) (range_with_len (a + 1) n))) absent
          ∙ least_first s p (a + 1) n least (omega arith) (omega arith)
          ∙ sym (ap (λ b. p ∷ cond b (a ∷ filter (set.contains (set.remove s p)) (range_with_len (a + 1) n))
          (filter (set.contains (set.remove s p)) (range_with_len (a + 1) n))) gone)
    ]
  where
    and_false : (b : Bool) → (b && false) ≡ false
    and_false true = refl
    and_false false = refl

-- the least member comes first, and then those of the set without it
pub places-least : (n : ℕ) (s : set.FinSet nat_cmp) (p : ℕ) → IsLeast s p → p < n → places n s ≡ p ∷ places n (set.remove s p)
places-least n s p least h = least_first s p 0 n least (omega arith) (omega arith)

none_pass : (f : ℕ → Bool) (a n : ℕ) → ((k : ℕ) → f k ≡ false) → filter f (range_with_len a n) ≡ []
none_pass f a zero none = refl
none_pass f a (suc n) none = ap (λ b. cond b (a ∷ filter f (range_with_len (a + 1) n)) (filter f (range_with_len (a + 1) n))) (none a)
    ∙ none_pass f (a + 1) n none

pub places-empty : (n : ℕ) → places n set.empty ≡ []
places-empty n = none_pass _ 0 n contains-empty

-- ---- what the list of the members says of them

pub IsRising-filter : (f : ℕ → Bool) (a n : ℕ) → IsRising (filter f (range_with_len a n))
IsRising-filter f a zero = tt
IsRising-filter f a (suc n) = elim (f a) as (λ b. IsRising (cond b (a ∷ filter f (range_with_len (a + 1) n)) (filter f (range_with_len (a + 1) n)))) [
  | true ↦ (above f a (a + 1) n (omega arith), IsRising-filter f (a + 1) n)
  | false ↦ IsRising-filter f (a + 1) n
]
  where
    above : (f : ℕ → Bool) (x a n : ℕ) → x < a → AllAbove x (filter f (range_with_len a n))
    above f x a zero h = tt
    above f x a (suc n) h = elim (f a) as (λ b. AllAbove x (cond b (a ∷ filter f (range_with_len (a + 1) n)) (filter f (range_with_len (a + 1) n)))) [
      | true ↦ (h, above f x (a + 1) n (omega arith))
      | false ↦ above f x (a + 1) n (omega arith)
    ]

pub IsRising-places : (n : ℕ) (s : set.FinSet nat_cmp) → IsRising (places n s)
IsRising-places n s = IsRising-filter (set.contains s) 0 n

in_range : (f : ℕ → Bool) (a n p : ℕ) → f p ≡ true → a ≤ p → p < a + n → Contains (filter f (range_with_len a n)) p
in_range f a zero p passes low high = absurd (omega arith)
in_range f a (suc n) p passes low high = elim (cases_eq a p) as (λ _. Contains (filter f (range_with_len a (suc n))) p) [
  | inl same ↦
      let here : f a ≡ true = ap f same ∙ passes in
      subst (λ b. Contains (cond b (a ∷ filter f (range_with_len (a + 1) n)) (filter f (range_with_len (a + 1) n))) p) (sym here) (0, omega arith, same)
  | inr other ↦ elim (f a) as (λ b. Contains (cond b (a ∷ filter f (range_with_len (a + 1) n)) (filter f (range_with_len (a + 1) n))) p) [
    | true ↦ Contains-append_right (a ∷ []) (filter f (range_with_len (a + 1) n)) p (in_range f (a + 1) n p passes (omega arith) (omega arith))
    | false ↦ in_range f (a + 1) n p passes (omega arith) (omega arith)
  ]
]

-- the list has each member below n, and no other number
pub Contains-places : (n : ℕ) (s : set.FinSet nat_cmp) (p : ℕ) → p < n → set.contains s p ≡ true → Contains (places n s) p
Contains-places n s p h member = in_range (set.contains s) 0 n p member (omega arith) (omega arith)

range_below : (a n : ℕ) → All (λ p. p < a + n) (range_with_len a n)
range_below a n = All-from_get_or (λ p. p < a + n) (range_with_len a n) 0 (λ i h.
    let inside : i < n = omega (arith, length-range_with_len a n) in
    rw (get_or-range_with_len a n i 0 inside) (omega arith))

pub places-Contains : (n : ℕ) (s : set.FinSet nat_cmp) (p : ℕ) → Contains (places n s) p → (p < n) × (set.contains s p ≡ true)
places-Contains n s p h = (
  (let below : p < 0 + n =
      All-contains (λ p. p < 0 + n) (places n s) p (All-filter (set.contains s) (λ p. p < 0 + n) (range_with_len 0 n) (range_below 0 n)) h in omega arith),
  All-contains (λ p. set.contains s p ≡ true) (places n s) p (filter_passes (set.contains s) (range_with_len 0 n)) h,
)

-- in the course of a loop over the members: p is one, those before it are below it and those after it above
pub places-here : (n : ℕ) (s : set.FinSet nat_cmp) (ys zs : List ℕ) (p : ℕ) → places n s ≡ ys ++ p ∷ zs → (p < n) × (set.contains s p ≡ true)
places-here n s ys zs p e = places-Contains n s p (subst (λ xs. Contains xs p) (sym e) (Contains-append_right ys (p ∷ zs) p (0, omega arith, refl)))

-- one more place that passes the test
pub len-where_below-suc : (f : ℕ → Bool) (n : ℕ) → set.len (where_below f (suc n)) ≡ cond (f n) 1 0 + set.len (where_below f n)
unfolding where_below
len-where_below-suc f n = elim (f n) as (λ b. set.len (cond b (set.insert (where_below f n) n) (where_below f n)) ≡ cond b 1 0 + set.len (where_below f n)) [
  | true ↦
      let absent : set.contains (where_below f n) n ≡ false = contains-where_below f n n ∙ ap (λ b. b && f n) (le-ltb n n (omega arith)) in
      set.len-insert nat_cmp_total (where_below f n) n ∙ ap (λ b. cond b (set.len (where_below f n)) (set.len (where_below f n) + 1)) absent ∙ omega arith
  | false ↦ omega arith
]

pub len-where_below-zero : (f : ℕ → Bool) → set.len (where_below f 0) ≡ 0
unfolding where_below
len-where_below-zero f = set.len-empty nat_cmp

range-more : (a n : ℕ) → range_with_len a (suc n) ≡ range_with_len a n ++ (a + n) ∷ []
range-more a zero = ap (λ m. m ∷ []) (sym (add-zero a))
range-more a (suc n) = ap (λ xs. a ∷ xs) (range-more (a + 1) n ∙ ap (λ m. range_with_len (a + 1) n ++ m ∷ []) (omega arith))

-- how many numbers below n pass the test
pub len-where_below : (f : ℕ → Bool) (n : ℕ) → set.len (where_below f n) ≡ length (filter f (range_with_len 0 n))
len-where_below f zero = len-where_below-zero f
len-where_below f (suc n) =
    len-where_below-suc f n ∙ ap (λ m. cond (f n) 1 0 + m) (len-where_below f n)
    ∙ sym (ap (λ xs. length (filter f xs)) (range-more 0 n ∙ ap (λ m. range_with_len 0 n ++ m ∷ []) (zero-add n))
    ∙ ap length (filter-append f (range_with_len 0 n) (n ∷ [])) ∙ length-append _ _ ∙ last (f n))
  where
    last : (b : Bool) → length (filter f (range_with_len 0 n)) + length (cond b (n ∷ []) []) ≡ cond b 1 0 + length (filter f (range_with_len 0 n))
    last true = omega arith
    last false = omega arith

-- as many as there are members
pub len-places : (n : ℕ) (s : set.FinSet nat_cmp) → IsWithin n s → set.len s ≡ length (places n s)
len-places n s within = ap set.len (sym (where_below-contains n s within)) ∙ len-where_below (set.contains s) n
