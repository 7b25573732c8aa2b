-- Entries that are put behind a queue's, and what a search knows of them.
use Rattle.std.proofs.Common.{◌≡◌, ℕ, ◌+◌, ◌<◌, ◌⊎◌, inl, inr, List, [], ◌∷◌, ◌++◌, length, true, false, Option, refl}
use Rattle.std.proofs.Common.{sym, ap, ◌∙◌, subst, arith, length-append}
use Rattle.std.proofs.lemmas.Bool.{cases_eq, cases_lt}
use Rattle.std.proofs.lemmas.List.{get_or_push, get_or_append_left}
use Rattle.std.specs.Ordering.{nat_cmp}
use Rattle.std.specs.FinSet as set
use Rattle.lists.proofs.Cases.{clash}
use Rattle.lists.proofs.Keys.{set_drop}
use Rattle.bitset.specs.Members.{insert_here, insert_other, from_insert, to_insert, from_remove, remove_other, len_insert, room_for}
use Rattle.bitset.specs.Places.{IsWithin}
use Rattle.bitset.specs.Sets.{contains-empty}
use Rattle.closure_flow.specs.declared.queue.Entry.{Entry}
use Rattle.closure_flow.specs.Queues.{place_at, from_at, Lists, Grows}

-- ---- one entry more
pub length_push : (es : List Entry) (e : Entry) → length (es ++ e ∷ []) ≡ length es + 1
length_push es e = omega (arith, length-append es (e ∷ []))

pub place_old : (es : List Entry) (e : Entry) (i : ℕ) → i < length es → place_at (es ++ e ∷ []) i ≡ place_at es i
place_old es e i h = ap (λ (x : Entry). x.place) (get_or_append_left es (e ∷ []) _ i h)

pub from_old : (es : List Entry) (e : Entry) (i : ℕ) → i < length es → from_at (es ++ e ∷ []) i ≡ from_at es i
from_old es e i h = ap (λ (x : Entry). x.from) (get_or_append_left es (e ∷ []) _ i h)

pub place_new : (es : List Entry) (e : Entry) (i : ℕ) → length es ≡ i → place_at (es ++ e ∷ []) i ≡ e.place
place_new es e i h = ap (λ (x : Entry). x.place) (get_or_push es e _ i h)

pub from_new : (es : List Entry) (e : Entry) (i : ℕ) → length es ≡ i → from_at (es ++ e ∷ []) i ≡ e.from
from_new es e i h = ap (λ (x : Entry). x.from) (get_or_push es e _ i h)

-- a position in the longer list is an old one or the last
last_or_old : (es : List Entry) (e : Entry) (i : ℕ) → i < length (es ++ e ∷ []) → (i < length es) ⊎ (length es ≡ i)
last_or_old es e i h = elim (cases_lt i (length es)) as (λ _. (i < length es) ⊎ (length es ≡ i)) [
  | inl less ↦ inl less
  | inr more ↦ inr (omega (arith, length_push es e))
]

-- ---- lists of a set's places
pub lists_none : Lists [] set.empty
lists_none =
    record {
      each = λ i h. absurd (omega arith);
      only = λ t m. clash _ m (contains-empty t);
      once = λ i j h k e. absurd (omega arith);
      count = sym (set.len-empty nat_cmp);
    }

pub lists_push : (es : List Entry) (seen : set.FinSet nat_cmp) (e : Entry) → Lists es seen → set.contains seen e.place ≡ false
    → Lists (es ++ e ∷ []) (set.insert seen e.place)
lists_push es seen e l out =
    record {
      each = λ i h. elim (last_or_old es e i h) as (λ _. set.contains (set.insert seen e.place) (place_at (es ++ e ∷ []) i) ≡ true) [
        | inl old ↦ ap (λ (t : ℕ). set.contains (set.insert seen e.place) t) (place_old es e i old) ∙ to_insert seen e.place (place_at es i) (l.each i old)
        | inr last ↦ ap (λ (t : ℕ). set.contains (set.insert seen e.place) t) (place_new es e i last) ∙ insert_here seen e.place
      ];
      only = λ t m. elim (from_insert seen e.place t m) as (λ _. (i : ℕ) × (i < length (es ++ e ∷ [])) × (place_at (es ++ e ∷ []) i ≡ t)) [
        | inl same ↦ (length es, omega (arith, length_push es e), place_new es e (length es) refl ∙ sym same)
        | inr old ↦
            let found = l.only t old in
            (found.0, omega (arith, length_push es e, found.1), place_old es e found.0 found.1 ∙ found.2)
      ];
      once = λ i j h k same.
          elim (last_or_old es e i h) as (λ _. i ≡ j) [
            | inl old_i ↦ elim (last_or_old es e j k) as (λ _. i ≡ j) [
              | inl old_j ↦ l.once i j old_i old_j (sym (place_old es e i old_i) ∙ same ∙ place_old es e j old_j)
              | inr last_j ↦ clash _ (l.each i old_i) (ap (λ (t : ℕ). set.contains seen t)
                  (sym (place_old es e i old_i) ∙ same ∙ place_new es e j last_j) ∙ out)
            ]
            | inr last_i ↦ elim (last_or_old es e j k) as (λ _. i ≡ j) [
              | inl old_j ↦ clash _ (l.each j old_j) (ap (λ (t : ℕ). set.contains seen t)
                  (sym (place_old es e j old_j) ∙ sym same ∙ place_new es e i last_i) ∙ out)
              | inr last_j ↦ sym last_i ∙ last_j
            ]
          ];
      count = length_push es e ∙ ap (λ (n : ℕ). n + 1) l.count ∙ sym (len_insert seen e.place out);
    }

-- ---- putting all places of a set
-- what holds while the places of `next` are put one at a time, those of `left` still to come
pub record Putting (n : ℕ) (before es : List Entry) (first seen next left : set.FinSet nat_cmp) (from : Option ℕ) : Type 0 where
  pub lists : Lists es seen
  pub within : IsWithin n seen
  pub apart : (t : ℕ) → set.contains left t ≡ true → set.contains seen t ≡ false
  pub among : (t : ℕ) → set.contains left t ≡ true → set.contains next t ≡ true
  pub grows : Grows before es next from
  pub old : (t : ℕ) → set.contains first t ≡ true → set.contains seen t ≡ true
  pub got : (t : ℕ) → set.contains next t ≡ true → (set.contains left t ≡ true) ⊎ (set.contains seen t ≡ true)
  pub only : (t : ℕ) → set.contains seen t ≡ true → (set.contains first t ≡ true) ⊎ (set.contains next t ≡ true)

pub grows_none : (es : List Entry) (next : set.FinSet nat_cmp) (from : Option ℕ) → Grows es es next from
grows_none es next from =
    record { longer = omega arith; kept = λ i h. (refl, refl); added = λ i h k. absurd (omega arith) }

grows_push : (before es : List Entry) (next : set.FinSet nat_cmp) (from : Option ℕ) (e : Entry) → Grows before es next from
    → set.contains next e.place ≡ true → e.from ≡ from → Grows before (es ++ e ∷ []) next from
grows_push before es next from e g m f =
    record {
      longer = omega (arith, g.longer, length_push es e);
      kept = λ i h.
          let inside : i < length es = omega (arith, g.longer, h) in
          (place_old es e i inside ∙ (g.kept i h).0, from_old es e i inside ∙ (g.kept i h).1);
      added = λ i h k. elim (last_or_old es e i k) as (λ _. (set.contains next (place_at (es ++ e ∷ []) i) ≡ true) × (from_at (es ++ e ∷ []) i ≡ from)) [
        | inl old ↦ (ap (λ (t : ℕ). set.contains next t) (place_old es e i old) ∙ (g.added i h old).0, from_old es e i old ∙ (g.added i h old).1)
        | inr last ↦ (ap (λ (t : ℕ). set.contains next t) (place_new es e i last) ∙ m, from_new es e i last ∙ f)
      ];
    }

pub putting_push : (n : ℕ) (before es : List Entry) (first seen next left : set.FinSet nat_cmp) (from : Option ℕ) (e : Entry)
    → Putting n before es first seen next left from → set.contains left e.place ≡ true → e.place < n → e.from ≡ from
    → Putting n before (es ++ e ∷ []) first (set.insert seen e.place) next (set.remove left e.place) from
putting_push n before es first seen next left from e p m h f =
    record {
      lists = lists_push es seen e p.lists (p.apart e.place m);
      within = λ q k. elim (from_insert seen e.place q k) as (λ _. q < n) [ inl same ↦ subst (λ (x : ℕ). x < n) (sym same) h | inr old ↦ p.within q old ];
      apart = λ t k.
          let was = from_remove left e.place t k in
          insert_other seen e.place t was.0 ∙ p.apart t was.1;
      among = λ t k. p.among t (from_remove left e.place t k).1;
      grows = grows_push before es next from e p.grows (p.among e.place m) f;
      old = λ t k. to_insert seen e.place t (p.old t k);
      got = λ t k. elim (cases_eq t e.place) as (λ _. (set.contains (set.remove left e.place) t ≡ true) ⊎ (set.contains (set.insert seen e.place) t ≡ true)) [
        | inl same ↦ inr (ap (λ (x : ℕ). set.contains (set.insert seen e.place) x) same ∙ insert_here seen e.place)
        | inr ne ↦ elim (p.got t k) as (λ _. (set.contains (set.remove left e.place) t ≡ true) ⊎ (set.contains (set.insert seen e.place) t ≡ true)) [
          | inl still ↦ inl (remove_other left e.place t ne ∙ still)
          | inr there ↦ inr (to_insert seen e.place t there)
        ]
      ];
      only = λ t k. elim (from_insert seen e.place t k) as (λ _. (set.contains first t ≡ true) ⊎ (set.contains next t ≡ true)) [
        | inl same ↦ inr (ap (λ (x : ℕ). set.contains next x) same ∙ p.among e.place m)
        | inr there ↦ p.only t there
      ];
    }

pub putting_room : (n : ℕ) (before es : List Entry) (first seen next left : set.FinSet nat_cmp) (from : Option ℕ) (t : ℕ)
    → Putting n before es first seen next left from → set.contains left t ≡ true → t < n → length es < n
putting_room n before es first seen next left from t p m h =
    omega (arith, p.lists.count, room_for n seen t p.within h (p.apart t m))

-- the work left gets less
pub fewer : (left : set.FinSet nat_cmp) (t : ℕ) → set.contains left t ≡ true → set.len (set.remove left t) < set.len left
fewer left t m = omega (arith, set_drop left t m)
