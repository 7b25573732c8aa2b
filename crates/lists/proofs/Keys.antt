-- How many keys a map by numbers has, and how many numbers a set has.
use Rattle.std.proofs.Common.{◌≡◌, ◌≢◌, ℕ, suc, zero, ◌+◌, ◌<◌, ◌≤◌, ◌-◌, Bool, true, false, cond, not, ◌&&◌, nat_eq, List, [], ◌∷◌, length, sym, refl, ap, subst, ◌∙◌, inl, inr, ◌⊎◌, ◌↔◌, Option, None, Some, is_some, arith, eq-eqb, ne_eqb, true≢false}
use Rattle.std.specs.Prelude.{Contains}
use Rattle.std.specs.Ordering.{nat_cmp, eq_by_cmp}
use Rattle.std.specs.List.{list_any}
use Rattle.std.proofs.lemmas.Bool.{or_left}
use Rattle.std.specs.Cmp.{nat_cmp_total, unsigned_tied}
use Rattle.std.specs.FinMap as finmap
use Rattle.std.specs.FinSet as set
use Rattle.std.specs.FinSet.{nat_cmp-IsAntisymmetric}
use Rattle.lists.proofs.Entries.{Contains-head, Contains-later, Contains-cases, none_in_empty}
use Rattle.lists.specs.Distinct.{AreDistinct}

-- values that have numbers, and how many: as maps have keys, and sets members
record IsCounted (M : Type 0) : Type 0 where
  has : M → ℕ → Bool
  len : M → ℕ
  without : M → ℕ → M
  some : (m : M) → (len m ≡ 0) ⊎ ((k : ℕ) × (has m k ≡ true))
  fewer : (m : M) (k : ℕ) → has m k ≡ true → len (without m k) + 1 ≡ len m
  others : (m : M) (k q : ℕ) → has (without m k) q ≡ (not (nat_eq q k) && has m q)

module _ {M : Type 0} (c : IsCounted M) where
  other_stays : (m : M) (k q : ℕ) → q ≢ k → c.has m q ≡ true → c.has (c.without m k) q ≡ true
  other_stays m k q other has = c.others m k q ∙ ap (λ b. not b && c.has m q) (ne_eqb q k other) ∙ has

  stays_other : (m : M) (k q : ℕ) → c.has (c.without m k) q ≡ true → (q ≢ k) × (c.has m q ≡ true)
  stays_other m k q has = by (nat_eq q k) refl (sym (c.others m k q) ∙ has)
    where
      by : (b : Bool) → nat_eq q k ≡ b → (not b && c.has m q) ≡ true → (q ≢ k) × (c.has m q ≡ true)
      by true is e = absurd (true≢false (sym e))
      by false is e = ((λ same. true≢false (sym (eq-eqb q k same) ∙ is)), e)

  -- numbers that it has, each once, are no more than it has
  names_within : (xs : List ℕ) (m : M) → AreDistinct xs → ((q : ℕ) → Contains xs q → c.has m q ≡ true) → length xs ≤ c.len m
  names_within [] m once inside = omega arith
  names_within (x ∷ xs) m once inside =
      let less = c.fewer m x (inside x (Contains-head x xs)) in
      let rest : length xs ≤ c.len (c.without m x) = names_within xs (c.without m x) once.1
      (λ q here. other_stays m x q (λ e. once.0 (subst (Contains xs) e here)) (inside q (Contains-later x q xs here))) in
      omega arith

  -- and as many, where they are all that it has
  names_all : (xs : List ℕ) (m : M) → AreDistinct xs → ((q : ℕ) → Contains xs q ↔ (c.has m q ≡ true)) → length xs ≡ c.len m
  names_all [] m once same = elim (c.some m) [ inl none ↦ sym none | inr k ↦ absurd (none_in_empty k.0 ((same k.0).1 k.1)) ]
  names_all (x ∷ xs) m once same =
      let less = c.fewer m x ((same x).0 (Contains-head x xs)) in
      let rest : length xs ≡ c.len (c.without m x) = names_all xs (c.without m x) once.1 (λ q. (
        λ here. other_stays m x q (λ e. once.0 (subst (Contains xs) e here)) ((same q).0 (Contains-later x q xs here)),
        λ left. let stays = stays_other m x q left in
            elim (Contains-cases x q xs ((same q).1 stays.1)) [ inl here ↦ absurd (stays.0 (sym here)) | inr later ↦ later ],
      )) in
      omega arith

-- what has only numbers that another has, has no more
module _ {M N : Type 0} (c : IsCounted M) (d : IsCounted N) where
  within : (k : ℕ) (m : M) (n : N) → c.len m ≡ k → ((q : ℕ) → c.has m q ≡ true → d.has n q ≡ true) → k ≤ d.len n
  within zero m n long inside = omega arith
  within (suc k) m n long inside = elim (c.some m) [
    | inl none ↦ absurd (omega arith)
    | inr x ↦
        let less = d.fewer n x.0 (inside x.0 x.1) in
        let left = c.fewer m x.0 x.1 in
        let rest : k ≤ d.len (d.without n x.0) = within k (c.without m x.0) (d.without n x.0) (omega arith) (λ q here.
        let stays = stays_other c m x.0 q here in other_stays d n x.0 q stays.0 (inside q stays.1)) in
        omega arith
  ]

-- ---- maps

module _ {X : Type 0} where
  no_key : (m : finmap.FinMap nat_cmp X) (k : ℕ) → finmap.len m ≡ 0 → finmap.contains_key m k ≡ true → ⊥
  no_key m k none has = true≢false (sym has ∙ ap (λ m. finmap.contains_key m k) (finmap.empty_of_len m none) ∙ ap is_some (finmap.get-empty nat_cmp k))

  -- one key fewer
  pub len-drop : (m : finmap.FinMap nat_cmp X) (k : ℕ) → finmap.contains_key m k ≡ true → finmap.len (finmap.remove m k) + 1 ≡ finmap.len m
  len-drop m k has =
      let some : finmap.len m ≢ 0 = λ none. no_key m k none has in
      let less : finmap.len (finmap.remove m k) ≡ finmap.len m - 1 =
      finmap.len-remove nat_cmp_total m k ∙ ap (λ b. cond b (finmap.len m - 1) (finmap.len m)) has in
      omega arith

  pub contains-drop : (m : finmap.FinMap nat_cmp X) (k q : ℕ) → finmap.contains_key (finmap.remove m k) q ≡ (not (nat_eq q k) && finmap.contains_key m q)
  contains-drop m k q = ap is_some (finmap.get-remove nat_cmp_total m k q ∙ ap (λ b. cond b None (finmap.get m q)) (unsigned_tied q k))
      ∙ some_if (nat_eq q k) (finmap.get m q)
    where
      some_if : (b : Bool) (o : Option X) → is_some (cond b None o) ≡ (not b && is_some o)
      some_if true o = refl
      some_if false o = refl

  first_key : (m : finmap.FinMap nat_cmp X) (es : List (ℕ × X)) → finmap.entries m ≡ es
      → (finmap.len m ≡ 0) ⊎ ((k : ℕ) × (finmap.contains_key m k ≡ true))
  first_key m [] is = inl (finmap.len-entries m ∙ ap length is)
  first_key m (e ∷ es) is = inr (
    e.0,
    ap is_some (finmap.get-entries m e.0 ∙ ap (finmap.find nat_cmp e.0) is
        ∙ ap (λ b. cond b (Some e.1) (finmap.find nat_cmp e.0 es)) (unsigned_tied e.0 e.0 ∙ eq-eqb e.0 e.0 refl)),
  )

abbrev maps : (X : Type 0) → IsCounted (finmap.FinMap nat_cmp X)
maps X = record {
  has = finmap.contains_key;
  len = finmap.len;
  without = finmap.remove;
  some = λ m. first_key m (finmap.entries m) refl;
  fewer = len-drop;
  others = contains-drop;
}

pub names-within : {X : Type 0} (xs : List ℕ) (m : finmap.FinMap nat_cmp X) → AreDistinct xs
    → ((q : ℕ) → Contains xs q → finmap.contains_key m q ≡ true) → length xs ≤ finmap.len m
names-within {X} = names_within (maps X)

pub len-names : {X : Type 0} (xs : List ℕ) (m : finmap.FinMap nat_cmp X) → AreDistinct xs
    → ((q : ℕ) → Contains xs q ↔ (finmap.contains_key m q ≡ true)) → length xs ≡ finmap.len m
len-names {X} = names_all (maps X)

pub len-within : {X Y : Type 0} (some : finmap.FinMap nat_cmp X) (all : finmap.FinMap nat_cmp Y)
    → ((q : ℕ) → finmap.contains_key some q ≡ true → finmap.contains_key all q ≡ true) → finmap.len some ≤ finmap.len all
len-within {X} {Y} some all = within (maps X) (maps Y) (finmap.len some) some all refl

-- maps with the same keys have as many
pub same_len : {X Y : Type 0} (m : finmap.FinMap nat_cmp X) (n : finmap.FinMap nat_cmp Y)
    → ((q : ℕ) → finmap.contains_key m q ≡ finmap.contains_key n q) → finmap.len m ≡ finmap.len n
same_len m n same = omega (arith, len-within m n (λ q has. sym (same q) ∙ has), len-within n m (λ q has. same q ∙ has))

-- ---- sets

pub set_drop : (s : set.FinSet nat_cmp) (k : ℕ) → set.contains s k ≡ true → set.len (set.remove s k) + 1 ≡ set.len s
set_drop s k has =
    let some : set.len s ≢ 0 = λ none. true≢false (sym has ∙ ap (λ t. set.contains t k) (set.empty_of_len s none) ∙ set.contains-empty nat_cmp k) in
    let less : set.len (set.remove s k) ≡ set.len s - 1 = set.len-remove nat_cmp_total s k ∙ ap (λ b. cond b (set.len s - 1) (set.len s)) has in
    omega arith

first_in : (s : set.FinSet nat_cmp) (xs : List ℕ) → set.items s ≡ xs → (set.len s ≡ 0) ⊎ ((k : ℕ) × (set.contains s k ≡ true))
first_in s [] is = inl (ap (λ (t : set.FinSet nat_cmp). set.len t) (set.same_set nat_cmp_total nat_cmp-IsAntisymmetric s set.empty
    (λ q. set.contains-items s q ∙ ap (list_any (eq_by_cmp nat_cmp q)) is ∙ sym (set.contains-empty nat_cmp q))) ∙ set.len-empty nat_cmp)
first_in s (x ∷ xs) is = inr (
  x,
  set.contains-items s x ∙ ap (list_any (eq_by_cmp nat_cmp x)) is
      ∙ or_left (eq_by_cmp nat_cmp x x) (list_any (eq_by_cmp nat_cmp x) xs) (unsigned_tied x x ∙ eq-eqb x x refl),
)

pub set_some : (s : set.FinSet nat_cmp) → (set.len s ≡ 0) ⊎ ((k : ℕ) × (set.contains s k ≡ true))
set_some s = first_in s (set.items s) refl

abbrev sets : IsCounted (set.FinSet nat_cmp)
sets = record {
  has = set.contains;
  len = set.len;
  without = set.remove;
  some = set_some;
  fewer = set_drop;
  others = λ s k q. set.contains-remove nat_cmp_total s k q ∙ ap (λ b. not b && set.contains s q) (unsigned_tied q k);
}

pub set_has : (s : set.FinSet nat_cmp) (xs : List ℕ) → AreDistinct xs → ((q : ℕ) → Contains xs q → set.contains s q ≡ true) → length xs ≤ set.len s
set_has s xs = names_within sets xs s

pub set_len : (s : set.FinSet nat_cmp) (xs : List ℕ) → AreDistinct xs → ((q : ℕ) → Contains xs q ↔ (set.contains s q ≡ true)) → length xs ≡ set.len s
set_len s xs = names_all sets xs s

pub set_within : (some all : set.FinSet nat_cmp) → ((q : ℕ) → set.contains some q ≡ true → set.contains all q ≡ true) → set.len some ≤ set.len all
set_within some all = within sets sets (set.len some) some all refl

-- and has fewer, where it lacks a number of the other
pub set_smaller : (some all : set.FinSet nat_cmp) (k : ℕ) → ((q : ℕ) → set.contains some q ≡ true → set.contains all q ≡ true)
    → set.contains all k ≡ true → set.contains some k ≡ false → set.len some < set.len all
set_smaller some all k inside has lacks =
    let rest = set_within some (set.remove all k)
    (λ q here. other_stays sets all k q (λ same. true≢false (sym here ∙ ap (set.contains some) same ∙ lacks)) (inside q here)) in
    let less = set_drop all k has in
    omega (arith, rest, less)
