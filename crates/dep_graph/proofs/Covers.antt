-- The loop that leaves the covering parents.
use Rattle.std.proofs.Common.{◌≡◌, ℕ, ◌<◌, Bool, true, false, not, ◌&&◌, ◌⊎◌, ◌↔◌, nat_eq}
use Rattle.std.proofs.Common.{Option, Some, None, MatchOption, inl, inr, refl, sym, ap, ap₂, ◌∙◌, ne_eqb, true≢false, subst, ◌≢◌}
use Rattle.std.proofs.lemmas.Bool.{cases_eq, cases_Bool, and_parts, and_from, and_left, and_right}
use Rattle.std.specs.Ordering.{nat_cmp}
use Rattle.std.specs.FinSet as fin
use Rattle.lists.proofs.Keys.{set_smaller}
use Rattle.lists.proofs.Cases.{differs}
use Rattle.graphs.specs.Closures.{Closure, is_member, is_ancestor, ancestors_of, IsCover, IsClosed}
use Rattle.bitset.specs.Sets.{contains-remove, contains-difference, contains-empty}

-- whether a is an ancestor of m, and not m
abbrev pub proper : Closure → ℕ → ℕ → Bool
proper g a m = not (nat_eq a m) && is_ancestor g a m

not_kept : (x y : Bool) → (x && not y) ≡ false → x ≡ true → y ≡ true
not_kept true true e h = refl
not_kept true false e h = absurd (true≢false e)
not_kept false y e h = absurd (true≢false (sym h))

taken_out : (x y : Bool) → y ≡ true → (x && not y) ≡ false
taken_out true true e = refl
taken_out false true e = refl
taken_out x false e = absurd (true≢false (sym e))

-- what has a place of a set takes it from the set
pub fewer_come : (s t : fin.FinSet nat_cmp) (m : ℕ) → fin.contains s m ≡ true → fin.contains t m ≡ true → fin.len (fin.difference s t) < fin.len s
fewer_come s t m here taken =
    set_smaller (fin.difference s t) s m (λ k e. (and_parts (fin.contains s k) (not (fin.contains t k)) (sym (contains-difference s t k) ∙ e)).0) here
    (contains-difference s t m ∙ and_right (fin.contains s m) (not (fin.contains t m)) (ap not taken))

-- of the proper ancestors, which are left as covers, and which are to come: one that isn't left is above another, and what is above
-- one that isn't to come isn't left
pub record CoversSoFar (g : Closure) (ups covers come : fin.FinSet nat_cmp) : Type 0 where
  pub comes : (a : ℕ) → fin.contains come a ≡ true → fin.contains ups a ≡ true
  pub left : (a : ℕ) → fin.contains covers a ≡ true → fin.contains ups a ≡ true
  pub gone : (a : ℕ) → fin.contains ups a ≡ true → fin.contains covers a ≡ false
      → (m : ℕ) × (fin.contains ups m ≡ true) × (proper g a m ≡ true)
  pub done : (m a : ℕ) → fin.contains ups m ≡ true → fin.contains come m ≡ false → proper g a m ≡ true → fin.contains covers a ≡ false

pub CoversSoFar-start : (g : Closure) (ups : fin.FinSet nat_cmp) → CoversSoFar g ups ups ups
CoversSoFar-start g ups = record {
  comes = λ a e. e;
  left = λ a e. e;
  gone = λ a u f. absurd (true≢false (sym u ∙ f));
  done = λ m a u f p. absurd (true≢false (sym u ∙ f));
}

module _ {n : ℕ} {g : Closure} (closed : IsClosed n g) {ups covers come : fin.FinSet nat_cmp} (h : CoversSoFar g ups covers come) (m : ℕ)
    (here : fin.contains come m ≡ true) where
  pub CoversSoFar-more : (further covers' come' : fin.FinSet nat_cmp) → come' ≡ fin.difference come (ancestors_of g m)
      → further ≡ fin.remove (ancestors_of g m) m → covers' ≡ fin.difference covers further → CoversSoFar g ups covers' come'
  CoversSoFar-more further covers' come' come_is is now =
      let come_at : (a : ℕ) → fin.contains come' a ≡ (fin.contains come a && not (is_ancestor g a m)) =
      λ a. ap (λ s. fin.contains s a) come_is ∙ contains-difference come (ancestors_of g m) a in
      let cover_at : (a : ℕ) → fin.contains covers' a ≡ (fin.contains covers a && not (proper g a m)) =
      λ a. ap (λ s. fin.contains s a) now ∙ contains-difference covers further a
      ∙ ap (λ b. fin.contains covers a && not b) (ap (λ s. fin.contains s a) is ∙ contains-remove (ancestors_of g m) m a) in
      record {
        comes = λ a e. h.comes a (and_parts (fin.contains come a) (not (is_ancestor g a m)) (sym (come_at a) ∙ e)).0;
        left = λ a e. h.left a (and_parts (fin.contains covers a) (not (proper g a m)) (sym (cover_at a) ∙ e)).0;
        gone = λ a u f. elim (cases_Bool (fin.contains covers a)) [
          | inl was ↦ (m, h.comes m here, not_kept (fin.contains covers a) (proper g a m) (sym (cover_at a) ∙ f) was)
          | inr out ↦ h.gone a u out
        ];
        done = λ k a u f p. cover_at a ∙ elim (cases_Bool (fin.contains come k)) as (λ _. (fin.contains covers a && not (proper g a m)) ≡ false) [
          | inl was ↦
              let above : is_ancestor g k m ≡ true = not_kept (fin.contains come k) (is_ancestor g k m) (sym (come_at k) ∙ f) was in
              let apart : (not (nat_eq a k) ≡ true) × (is_ancestor g a k ≡ true) = and_parts (not (nat_eq a k)) (is_ancestor g a k) p in
              let higher : is_ancestor g a m ≡ true = closed.order.transitive a k m apart.1 above in
              taken_out (fin.contains covers a) (proper g a m) (and_from (not (nat_eq a m)) (is_ancestor g a m)
              (ap not (ne_eqb a m (λ same. differs a k apart.0
              (closed.order.antisymmetric a k apart.1 (subst (λ x. is_ancestor g k x ≡ true) (sym same) above))))) higher)
          | inr out ↦ and_left (fin.contains covers a) (not (proper g a m)) (h.done k a u out p)
        ];
      }

pub none_come : (o : Option ℕ) (come : fin.FinSet nat_cmp) → MatchOption o (come ≡ fin.empty) (λ p. fin.contains come p ≡ true)
    → ((p : ℕ) → o ≢ Some p) → (k : ℕ) → fin.contains come k ≡ false
none_come None come is none k = ap (λ s. fin.contains s k) is ∙ contains-empty k
none_come (Some p) come is none k = absurd (none p refl)

module _ {n : ℕ} {g : Closure} (closed : IsClosed n g) (place : ℕ) {ups : fin.FinSet nat_cmp} (ups_are : ups ≡ fin.remove (ancestors_of g place) place) where
  -- the proper ancestors
  contains-ups : (a : ℕ) → fin.contains ups a ≡ proper g a place
  contains-ups a = ap (λ s. fin.contains s a) ups_are ∙ contains-remove (ancestors_of g place) place a

  -- which are members
  pub middle_member : (m : ℕ) → fin.contains ups m ≡ true → is_member g m ≡ true
  middle_member m e = (closed.order.among m place (and_parts (not (nat_eq m place)) (is_ancestor g m place) (sym (contains-ups m) ∙ e)).1).0

  module _ {covers come : fin.FinSet nat_cmp} (all : CoversSoFar g ups covers come) (none : (k : ℕ) → fin.contains come k ≡ false) where
    is_cover : (a : ℕ) → fin.contains covers a ≡ true → IsCover g a place
    is_cover a e =
        let parts : (not (nat_eq a place) ≡ true) × (is_ancestor g a place ≡ true) =
        and_parts (not (nat_eq a place)) (is_ancestor g a place) (sym (contains-ups a) ∙ all.left a e) in
        record {
          ancestor = parts.1;
          other = differs a place parts.0;
          direct = λ m am mp. elim (cases_eq m place) as (λ _. (m ≡ a) ⊎ (m ≡ place)) [
            | inl same ↦ inr same
            | inr other ↦ elim (cases_eq m a) as (λ _. (m ≡ a) ⊎ (m ≡ place)) [
              | inl same ↦ inl same
              | inr apart ↦ absurd (
                  let there : fin.contains ups m ≡ true = contains-ups m ∙ ap₂ (λ x y. not x && y) (ne_eqb m place other) mp in
                  let above : proper g a m ≡ true =
                  and_from (not (nat_eq a m)) (is_ancestor g a m) (ap not (ne_eqb a m (λ f. apart (sym f)))) am in
                  true≢false (sym e ∙ all.done m a there (none m) above))
            ]
          ];
        }

    cover_is : (a : ℕ) → IsCover g a place → fin.contains covers a ≡ true
    cover_is a c =
        let here : fin.contains ups a ≡ true = contains-ups a ∙ ap₂ (λ x y. not x && y) (ne_eqb a place c.other) c.ancestor in
        elim (cases_Bool (fin.contains covers a)) as (λ _. fin.contains covers a ≡ true) [
          | inl there ↦ there
          | inr out ↦ absurd (
              let found = all.gone a here out in
              let one : (not (nat_eq a found.0) ≡ true) × (is_ancestor g a found.0 ≡ true) =
              and_parts (not (nat_eq a found.0)) (is_ancestor g a found.0) found.2 in
              let two : (not (nat_eq found.0 place) ≡ true) × (is_ancestor g found.0 place ≡ true) =
              and_parts (not (nat_eq found.0 place)) (is_ancestor g found.0 place) (sym (contains-ups found.0) ∙ found.1) in
              elim (c.direct found.0 one.1 two.1) as (λ _. ⊥) [
                | inl same ↦ differs a found.0 one.0 (sym same)
                | inr same ↦ differs found.0 place two.0 same
              ])
        ]

    pub covers_are : (a : ℕ) → (fin.contains covers a ≡ true) ↔ IsCover g a place
    covers_are a = (is_cover a, cover_is a)
