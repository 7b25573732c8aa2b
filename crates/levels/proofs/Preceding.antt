-- Which of two entries of a list stands first, among those that pass a test and among what is made of them.
use Rattle.std.proofs.Common.{◌≡◌, Bool, true, false, cond, List, [], ◌∷◌, map, Contains, inl, inr, sym, ap, ◌∙◌, subst}
use Rattle.std.proofs.lemmas.List.Elements.{Contains-append_left, Contains-append_right}
use Rattle.std.specs.List.{filter}
use Rattle.lists.proofs.Entries.{Contains-head, Contains-cases, Contains-splits, filter-Contains, map-Contains, first_of, rest_of, none_in_empty}
use Rattle.graphs.specs.Merges.{Precedes}
use Rattle.graphs.proofs.MergeLemmas.{precedes_later}

-- both are entries
pub precedes_both : {A : Type 0} (xs : List A) (x y : A) → Precedes xs x y → Contains xs x × Contains xs y
precedes_both {A = A} xs x y before = (
  subst (λ (zs : List A). Contains zs x) (sym before.2) (Contains-append_left before.0 (y ∷ before.1) x before.3),
  subst (λ (zs : List A). Contains zs y) (sym before.2) (Contains-append_right before.0 (y ∷ before.1) y (Contains-head y before.1)),
)

-- ---- entries that pass a test

-- where the first of all passes
first_passed : {A : Type 0} (f : A → Bool) (z : A) (xs : List A) (x y : A) → (Precedes (filter f xs) x y → Precedes xs x y) → Precedes (z ∷ filter f xs) x y
    → Precedes (z ∷ xs) x y
first_passed f z xs x y more ([], rest, cut, here) = absurd (none_in_empty x here)
first_passed {A = A} f z xs x y more (w ∷ front, rest, cut, here) = elim (Contains-cases w x front here) [
  | inl same ↦
      let y_in : Contains (filter f xs) y =
      subst (λ (zs : List A). Contains zs y) (sym (rest_of cut)) (Contains-append_right front (y ∷ rest) y (Contains-head y rest)) in
      let found = Contains-splits xs y (filter-Contains f xs y y_in).1 in (
        z ∷ found.0,
        found.1,
        ap (λ zs. z ∷ zs) found.2,
        subst (Contains (z ∷ found.0)) (first_of cut ∙ same) (Contains-head z found.0),
      )
  | inr behind ↦ precedes_later z xs x y (more (front, rest, rest_of cut, behind))
]

passed_by : {A : Type 0} (f : A → Bool) (z : A) (xs : List A) (x y : A) (b : Bool) → (Precedes (filter f xs) x y → Precedes xs x y)
    → Precedes (cond b (z ∷ filter f xs) (filter f xs)) x y → Precedes (z ∷ xs) x y
passed_by f z xs x y true more before = first_passed f z xs x y more before
passed_by f z xs x y false more before = precedes_later z xs x y (more before)

-- what stands before another among the entries that pass a test does so among all
pub unfiltered : {A : Type 0} (f : A → Bool) (xs : List A) (x y : A) → Precedes (filter f xs) x y → Precedes xs x y
unfiltered f [] x y before = absurd (none_in_empty y (precedes_both [] x y before).1)
unfiltered f (z ∷ xs) x y before = passed_by f z xs x y (f z) (unfiltered f xs x y) before

-- ---- what is made of entries

-- they are made of two of which the one stands before the other
pub record AreMade {A B : Type 0} (f : A → B) (xs : List A) (p q : B) : Type 0 where
  pub x : A
  pub y : A
  pub before : Precedes xs x y
  pub first : f x ≡ p
  pub second : f y ≡ q

made_later : {A B : Type 0} (f : A → B) (z : A) (xs : List A) (p q : B) → AreMade f xs p q → AreMade f (z ∷ xs) p q
made_later f z xs p q m = record { x = m.x; y = m.y; before = precedes_later z xs m.x m.y m.before; first = m.first; second = m.second }

pub unmapped : {A B : Type 0} (f : A → B) (xs : List A) (p q : B) → Precedes (map f xs) p q → AreMade f xs p q
unmapped f [] p q before = absurd (none_in_empty q (precedes_both [] p q before).1)
unmapped f (z ∷ xs) p q ([], rest, cut, here) = absurd (none_in_empty p here)
unmapped {B = B} f (z ∷ xs) p q (w ∷ front, rest, cut, here) = elim (Contains-cases w p front here) [
  | inl same ↦
      let q_in : Contains (map f xs) q =
      subst (λ (zs : List B). Contains zs q) (sym (rest_of cut)) (Contains-append_right front (q ∷ rest) q (Contains-head q rest)) in
      let y = map-Contains f xs q q_in in
      let found = Contains-splits xs y.0 y.1 in
      record {
        x = z;
        y = y.0;
        before = (z ∷ found.0, found.1, ap (λ zs. z ∷ zs) found.2, Contains-head z found.0);
        first = first_of cut ∙ same;
        second = y.2;
      }
  | inr behind ↦ made_later f z xs p q (unmapped f xs p q (front, rest, rest_of cut, behind))
]
