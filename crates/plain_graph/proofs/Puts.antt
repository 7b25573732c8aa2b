-- Pairs that are put into a list.
use Rattle.std.proofs.Common.{◌≡◌, ℕ, ◌+◌, ◌<◌, ◌≤◌, List, [], ◌∷◌, ◌++◌, length, get_or, take, sym, ap, subst, inl, inr, ◌⊎◌, ◌∙◌, OnOk, Result, Ok, Err}
use Rattle.std.proofs.lemmas.List.{take_more, take_all}
use Rattle.std.proofs.lemmas.List.Elements.{Contains-push_cases, Contains-append_left, Contains-push}
use Rattle.std.specs.Prelude.{Contains}
use Rattle.lists.proofs.Entries.{none_in_empty}
use Rattle.lists.proofs.Distinct.{distinct_push}
use Rattle.plain_graph.specs.Rests.{Puts, IsPair, IsToChild, IsLeft, ArePairsWithout}

pub puts_nothing : (P : ℕ → ℕ → Type 0) (list : List (ℕ × ℕ)) → ((a b : ℕ) → P a b → Contains list (a, b)) → Puts P list list
puts_nothing P list there =
    record { exact = λ a b. (λ here. inl here, λ either. elim either [ inl here ↦ here | inr put ↦ there a b put ]); once = λ apart. apart }

-- pairs that are put one after the other
pub puts_more : (P Q R : ℕ → ℕ → Type 0) (old mid new : List (ℕ × ℕ)) → ((a b : ℕ) → P a b ⊎ Q a b → R a b)
    → ((a b : ℕ) → R a b → P a b ⊎ Q a b) → Puts P old mid → Puts Q mid new → Puts R old new
puts_more P Q R old mid new there back first second = record {
  exact = λ a b. (
    λ here. elim ((second.exact a b).0 here) [
      | inl before ↦ elim ((first.exact a b).0 before) [ inl older ↦ inl older | inr put ↦ inr (there a b (inl put)) ]
      | inr put ↦ inr (there a b (inr put))
    ],
    λ either. elim either [
      | inl older ↦ (second.exact a b).1 (inl ((first.exact a b).1 (inl older)))
      | inr put ↦ elim (back a b put) [
        | inl one ↦ (second.exact a b).1 (inl ((first.exact a b).1 (inr one)))
        | inr other ↦ (second.exact a b).1 (inr other)
      ]
    ],
  );
  once = λ apart. second.once (first.once apart);
}

-- the same pairs, told in another way
pub puts_as : (P Q : ℕ → ℕ → Type 0) (old new : List (ℕ × ℕ)) → ((a b : ℕ) → P a b → Q a b) → ((a b : ℕ) → Q a b → P a b) → Puts P old new → Puts Q old new
puts_as P Q old new there back puts = record {
  exact = λ a b. (
    λ here. elim ((puts.exact a b).0 here) [ inl older ↦ inl older | inr put ↦ inr (there a b put) ],
    λ either. elim either [ inl older ↦ (puts.exact a b).1 (inl older) | inr put ↦ (puts.exact a b).1 (inr (back a b put)) ],
  );
  once = puts.once;
}

pub same_pair : (a b c d : ℕ) → ◌≡◌ {A = ℕ × ℕ} (a, b) (c, d) → (c ≡ a) × (d ≡ b)
same_pair a b c d same = (sym (ap (λ (pair : ℕ × ℕ). pair.0) same), sym (ap (λ (pair : ℕ × ℕ). pair.1) same))

pub pair_same : (list : List (ℕ × ℕ)) (a b c d : ℕ) → a ≡ c → b ≡ d → Contains list (c, d) → Contains list (a, b)
pair_same list a b c d first second here = rw (first, second) here

pub puts_pushed : (list : List (ℕ × ℕ)) (parent child : ℕ) → (Contains list (parent, child) → ⊥)
    → Puts (IsPair parent child) list (list ++ (parent, child) ∷ [])
puts_pushed list parent child absent = record {
  exact = λ a b. (
    λ here. elim (Contains-push_cases list (parent, child) (a, b) here) [ inl before ↦ inl before | inr same ↦ inr (same_pair parent child a b same) ],
    λ either. elim either [
      | inl before ↦ Contains-append_left list ((parent, child) ∷ []) (a, b) before
      | inr same ↦ pair_same (list ++ (parent, child) ∷ []) a b parent child same.0 same.1 (Contains-push list (parent, child))
    ],
  );
  once = λ apart. distinct_push list (parent, child) apart absent;
}

pub on_ok : {T E : Type 0} (result : Result T E) {P Q : Type 0} → (P → Q) → OnOk result P → OnOk result Q
on_ok (Ok value) there holds = there holds
on_ok (Err error) there holds = tt

-- One more pair of those that are gone through.
split_last : (front : List (ℕ × ℕ)) (pair : ℕ × ℕ) (a b : ℕ) → Contains (front ++ pair ∷ []) (a, b) → Contains front (a, b) ⊎ ((a ≡ pair.0) × (b ≡ pair.1))
split_last front pair a b here =
    elim (Contains-push_cases front pair (a, b) here) [ inl before ↦ inl before | inr same ↦ inr (same_pair pair.0 pair.1 a b same) ]

older : (front : List (ℕ × ℕ)) (pair : ℕ × ℕ) (a b : ℕ) → Contains front (a, b) → Contains (front ++ pair ∷ []) (a, b)
older front pair a b here = Contains-append_left front (pair ∷ []) (a, b) here

newest : (front : List (ℕ × ℕ)) (pair : ℕ × ℕ) (a b : ℕ) → a ≡ pair.0 → b ≡ pair.1 → Contains (front ++ pair ∷ []) (a, b)
newest front pair a b first second = pair_same (front ++ pair ∷ []) a b pair.0 pair.1 first second (Contains-push front pair)

only_pair : (pair : ℕ × ℕ) (a b : ℕ) → Contains (pair ∷ []) (a, b) → (a ≡ pair.0) × (b ≡ pair.1)
only_pair pair a b here = elim (split_last [] pair a b here) [ inl none ↦ absurd (none_in_empty (a, b) none) | inr same ↦ same ]

-- Pairs from a parent to the children of a name.
pub child_of : (id parent from to : ℕ) (old new : List (ℕ × ℕ)) → from ≡ id → (to ≡ id → ⊥)
    → Puts (IsPair parent to) old new → Puts (IsToChild ((from, to) ∷ []) id parent) old new
child_of id parent from to old new is other puts =
    puts_as (IsPair parent to) (IsToChild ((from, to) ∷ []) id parent) old new
    (λ a b one. (one.0, λ same. other (sym one.1 ∙ same), newest [] (from, to) id b (sym is) one.1))
    (λ a b all. (all.0, (only_pair (from, to) id b all.2).1))
    puts

child_put : (front : List (ℕ × ℕ)) (pair : ℕ × ℕ) (id parent : ℕ) (old mid new : List (ℕ × ℕ)) → Puts (IsToChild front id parent) old mid
    → Puts (IsToChild (pair ∷ []) id parent) mid new → Puts (IsToChild (front ++ pair ∷ []) id parent) old new
child_put front pair id parent old mid new first second =
    puts_more (IsToChild front id parent) (IsToChild (pair ∷ []) id parent) (IsToChild (front ++ pair ∷ []) id parent) old mid new
    (λ a b either. elim either [
      | inl before ↦ (before.0, before.1, older front pair id b before.2)
      | inr one ↦ let is = only_pair pair id b one.2 in (one.0, one.1, newest front pair id b is.0 is.1)
    ])
    (λ a b all. elim (split_last front pair id b all.2) [
      | inl before ↦ inl (all.0, all.1, before)
      | inr is ↦ inr (all.0, all.1, newest [] pair id b is.0 is.1)
    ])
    first second

pub child_start : (id parent : ℕ) (old : List (ℕ × ℕ)) → Puts (IsToChild [] id parent) old old
child_start id parent old = puts_nothing (IsToChild [] id parent) old (λ a b all. absurd (none_in_empty (id, b) all.2))

pub child_more : (pairs : List (ℕ × ℕ)) (i : ℕ) (d : ℕ × ℕ) (id parent : ℕ) (old mid new : List (ℕ × ℕ))
    → i < length pairs → Puts (IsToChild (take i pairs) id parent) old mid
    → Puts (IsToChild (get_or pairs i d ∷ []) id parent) mid new → Puts (IsToChild (take (i + 1) pairs) id parent) old new
child_more pairs i d id parent old mid new below first second =
    subst (λ (front : List (ℕ × ℕ)). Puts (IsToChild front id parent) old new) (sym (take_more pairs i d below))
    (child_put (take i pairs) (get_or pairs i d) id parent old mid new first second)

pub child_all : (pairs : List (ℕ × ℕ)) (i : ℕ) (id parent : ℕ) (old new : List (ℕ × ℕ)) → length pairs ≤ i
    → Puts (IsToChild (take i pairs) id parent) old new → Puts (IsToChild pairs id parent) old new
child_all pairs i id parent old new past puts = subst (λ (front : List (ℕ × ℕ)). Puts (IsToChild front id parent) old new) (take_all i pairs past) puts

pub left_of_child : (pairs : List (ℕ × ℕ)) (id parent child : ℕ) (old new : List (ℕ × ℕ)) → (parent ≡ id → ⊥)
    → child ≡ id → Puts (IsToChild pairs id parent) old new → Puts (IsLeft ((parent, child) ∷ []) pairs id) old new
left_of_child pairs id parent child old new other is puts =
    puts_as (IsToChild pairs id parent) (IsLeft ((parent, child) ∷ []) pairs id) old new
    (λ a b to. (λ same. other (sym to.0 ∙ same), to.1, inr (newest [] (parent, child) a id to.0 (sym is), to.2)))
    (λ a b left. elim left.2 [
      | inl here ↦ absurd (left.1 ((only_pair (parent, child) a b here).1 ∙ is))
      | inr across ↦ ((only_pair (parent, child) a id across.0).0, left.1, across.1)
    ])
    puts

pub left_of_neither : (pairs : List (ℕ × ℕ)) (id parent child : ℕ) (old new : List (ℕ × ℕ)) → (parent ≡ id → ⊥)
    → (child ≡ id → ⊥) → Puts (IsPair parent child) old new → Puts (IsLeft ((parent, child) ∷ []) pairs id) old new
left_of_neither pairs id parent child old new one other puts =
    puts_as (IsPair parent child) (IsLeft ((parent, child) ∷ []) pairs id) old new
    (λ a b is. (λ same. one (sym is.0 ∙ same), λ same. other (sym is.1 ∙ same), inl (newest [] (parent, child) a b is.0 is.1)))
    (λ a b left. elim left.2 [
      | inl here ↦ only_pair (parent, child) a b here
      | inr across ↦ absurd (other (sym (only_pair (parent, child) a id across.0).1))
    ])
    puts

left_put : (front : List (ℕ × ℕ)) (pair : ℕ × ℕ) (pairs : List (ℕ × ℕ)) (id : ℕ) (old mid new : List (ℕ × ℕ))
    → Puts (IsLeft front pairs id) old mid → Puts (IsLeft (pair ∷ []) pairs id) mid new → Puts (IsLeft (front ++ pair ∷ []) pairs id) old new
left_put front pair pairs id old mid new first second =
    puts_more (IsLeft front pairs id) (IsLeft (pair ∷ []) pairs id) (IsLeft (front ++ pair ∷ []) pairs id) old mid new
    (λ a b either. elim either [
      | inl before ↦
          (before.0, before.1, elim before.2 [ inl here ↦ inl (older front pair a b here) | inr across ↦ inr (older front pair a id across.0, across.1) ])
      | inr one ↦ (
        one.0,
        one.1,
        elim one.2 [
          | inl here ↦ let is = only_pair pair a b here in inl (newest front pair a b is.0 is.1)
          | inr across ↦ let is = only_pair pair a id across.0 in inr (newest front pair a id is.0 is.1, across.1)
        ],
      )
    ])
    (λ a b left. elim left.2 [
      | inl here ↦ elim (split_last front pair a b here) [
        | inl before ↦ inl (left.0, left.1, inl before)
        | inr is ↦ inr (left.0, left.1, inl (newest [] pair a b is.0 is.1))
      ]
      | inr across ↦ elim (split_last front pair a id across.0) [
        | inl before ↦ inl (left.0, left.1, inr (before, across.1))
        | inr is ↦ inr (left.0, left.1, inr (newest [] pair a id is.0 is.1, across.1))
      ]
    ])
    first second

pub left_start : (pairs : List (ℕ × ℕ)) (id : ℕ) (old : List (ℕ × ℕ)) → Puts (IsLeft [] pairs id) old old
left_start pairs id old =
    puts_nothing (IsLeft [] pairs id) old
    (λ a b left. elim left.2 [ inl here ↦ absurd (none_in_empty (a, b) here) | inr across ↦ absurd (none_in_empty (a, id) across.0) ])

pub left_more : (pairs : List (ℕ × ℕ)) (i : ℕ) (d : ℕ × ℕ) (id : ℕ) (old mid new : List (ℕ × ℕ))
    → i < length pairs → Puts (IsLeft (take i pairs) pairs id) old mid
    → Puts (IsLeft (get_or pairs i d ∷ []) pairs id) mid new → Puts (IsLeft (take (i + 1) pairs) pairs id) old new
left_more pairs i d id old mid new below first second =
    subst (λ (front : List (ℕ × ℕ)). Puts (IsLeft front pairs id) old new) (sym (take_more pairs i d below))
    (left_put (take i pairs) (get_or pairs i d) pairs id old mid new first second)

-- the pairs put into an empty list are all that it has
pub left_all : (pairs : List (ℕ × ℕ)) (i : ℕ) (id : ℕ) (new : List (ℕ × ℕ)) → length pairs ≤ i
    → Puts (IsLeft (take i pairs) pairs id) [] new → ArePairsWithout pairs id new
left_all pairs i id new past puts =
    let all : Puts (IsLeft pairs pairs id) [] new = subst (λ (front : List (ℕ × ℕ)). Puts (IsLeft front pairs id) [] new) (take_all i pairs past) puts in (
      λ a b. (λ here. elim ((all.exact a b).0 here) [ inl none ↦ absurd (none_in_empty (a, b) none) | inr left ↦ left ], λ left. (all.exact a b).1 (inr left)),
      all.once tt,
    )
