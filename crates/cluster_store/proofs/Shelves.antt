-- The clusters by their numbers are what the slots have.
use Rattle.std.proofs.Common.{◌≡◌, ◌≢◌, ℕ, zero, suc, ◌+◌, ◌<◌, ◌≤◌, ◌==◌, true, false, cond, [], ◌∷◌, Option, Some, None, is_some, map, refl, sym, ap, ◌∙◌, subst, arith, count_by}
use Rattle.std.proofs.lemmas.Bool.{false_from_ne_true}
use Rattle.std.proofs.lemmas.Option.{none-some}
use Rattle.std.proofs.lemmas.List.Sums.{sum_by-cons}
use Rattle.std.specs.Ordering.{nat_cmp, eq_by_cmp, is_eq}
use Rattle.std.specs.Cmp.{nat_cmp_total, tied_itself, Equal-is, unsigned_Decides}
use Rattle.std.specs.FinMap as finmap
use Rattle.slab.specs.Slab.{entries_from}
use Rattle.chunk_index.specs.Keys.{IsInOrder}
use Rattle.chunk_index.specs.Items.{Items}
use Rattle.cluster_store.specs.Stores.{Stored, Store}
use Rattle.cluster_store.specs.Changes.{EndsAt, most_least}
use Rattle.cluster_store.specs.Kept.{Slots, at, found, shelved, place_of, IsKept}

eq_self : (n : ℕ) → eq_by_cmp nat_cmp n n ≡ true
eq_self n = ap is_eq (tied_itself nat_cmp_total n)

eq_not : (n m : ℕ) → n ≢ m → eq_by_cmp nat_cmp n m ≡ false
eq_not n m other = false_from_ne_true (eq_by_cmp nat_cmp n m) (λ e. other (finmap.nat_cmp-IsAntisymmetric n m ((Equal-is (nat_cmp n m)).0 e)))

find_below : (k q : ℕ) (slots : Slots) → q < k → finmap.find nat_cmp q (entries_from k slots) ≡ None
find_below k q [] low = refl
find_below k q (None ∷ slots) low = find_below (k + 1) q slots (omega arith)
find_below k q (Some s ∷ slots) low =
    ap (λ b. cond b (Some s) (finmap.find nat_cmp q (entries_from (k + 1) slots))) (eq_not q k (λ e. omega (arith, e)))
    ∙ find_below (k + 1) q slots (omega arith)

find_there : (k n q : ℕ) (slots : Slots) → q ≡ k + n → finmap.find nat_cmp q (entries_from k slots) ≡ at slots n
find_there k n q [] is = refl
find_there k zero q (None ∷ slots) is = find_below (k + 1) q slots (omega (arith, is))
find_there k zero q (Some s ∷ slots) is =
    ap (λ b. cond b (Some s) (finmap.find nat_cmp q (entries_from (k + 1) slots)))
    (ap (λ m. eq_by_cmp nat_cmp m k) (let e : q ≡ k = omega (arith, is) in e) ∙ eq_self k)
find_there k (suc n) q (None ∷ slots) is = find_there (k + 1) n q slots (omega (arith, is))
find_there k (suc n) q (Some s ∷ slots) is =
    ap (λ b. cond b (Some s) (finmap.find nat_cmp q (entries_from (k + 1) slots))) (eq_not q k (λ e. omega (arith, e, is)))
    ∙ find_there (k + 1) n q slots (omega (arith, is))

pub get_shelved : (slots : Slots) (n : ℕ) → finmap.get (shelved slots) n ≡ at slots n
unfolding shelved
get_shelved slots n = finmap.get-from_entries nat_cmp_total (entries_from 0 slots) n ∙ find_there 0 n n slots (omega arith)

pub same_shelved : (a b : Slots) → ((n : ℕ) → at a n ≡ at b n) → shelved a ≡ shelved b
same_shelved a b same =
    finmap.same_map nat_cmp_total finmap.nat_cmp-IsAntisymmetric (shelved a) (shelved b) (λ n. get_shelved a n ∙ same n ∙ sym (get_shelved b n))

-- ---- no cluster is left

one_more : (n : ℕ) → 1 + n ≡ 0 → ⊥
one_more n e = omega (arith, e)

none_more : (n : ℕ) → 0 + n ≡ 0 → n ≡ 0
none_more n e = omega (arith, e)

none_before : (n : ℕ) → n ≡ 0 → 0 + n ≡ 0
none_before n e = omega (arith, e)

counted : (o : Option Stored) (slots : Slots) → count_by is_some (o ∷ slots) ≡ cond (is_some o) 1 0 + count_by is_some slots
counted o slots = sum_by-cons (λ (p : Option Stored). cond (is_some p) 1 0) o slots

pub none_counted : (slots : Slots) → count_by is_some slots ≡ 0 → (n : ℕ) → at slots n ≡ None
none_counted [] none n = refl
none_counted (None ∷ slots) none zero = refl
none_counted (None ∷ slots) none (suc n) = none_counted slots (none_more (count_by is_some slots) (sym (counted None slots) ∙ none)) n
none_counted (Some s ∷ slots) none n = absurd (one_more (count_by is_some slots) (sym (counted (Some s) slots) ∙ none))

pub count_none : (slots : Slots) → ((n : ℕ) → at slots n ≡ None) → count_by is_some slots ≡ 0
count_none [] none = refl
count_none (None ∷ slots) none = counted None slots ∙ none_before (count_by is_some slots) (count_none slots (λ n. none (suc n)))
count_none (Some s ∷ slots) none = absurd (none-some s (sym (none 0)))

-- ---- no slots and no entries

empty_kept : (w least : ℕ) → w ≤ 64 → IsKept w [] [] least
unfolding found IsInOrder
empty_kept w least narrow = record {
  narrow = narrow;
  shown = record { sorted = (tt, tt); tags = λ k. refl };
  whole = λ n s is. absurd (none-some s is);
  floor = λ n s is id here. absurd (none-some s is);
}

pub none_kept : (w : ℕ) (slots : Slots) (items : Items) (least : ℕ) → w ≤ 64 → slots ≡ [] → items ≡ [] → IsKept w slots items least
none_kept w slots items least narrow no_slots no_items =
    subst (λ (s : Slots). IsKept w s items least) (sym no_slots) (subst (λ (xs : Items). IsKept w [] xs least) (sym no_items) (empty_kept w least narrow))

pub none_shelved : (slots : Slots) (items : Items) (least : ℕ) → slots ≡ [] → items ≡ []
    → ◌≡◌ {A = Store} (record { clusters = shelved slots; order = map place_of items; least = least })
    (record { clusters = finmap.empty; order = []; least = least })
unfolding shelved
none_shelved slots items least no_slots no_items =
    ap (λ (s : Slots). record { clusters = shelved s; order = map place_of items; least = least }) no_slots
    ∙ ap (λ (xs : Items). record { clusters = shelved []; order = map place_of xs; least = least }) no_items

pub ends_anew : (slots : Slots) (least : ℕ) → (count_by is_some slots == 0) ≡ true → EndsAt (shelved slots) least most_least
ends_anew slots least none = record {
  none = λ _. refl;
  some = λ n s is. absurd (none-some s (sym (get_shelved slots n ∙ none_counted slots ((unsigned_Decides (count_by is_some slots) 0).0 none) n) ∙ is));
}

pub ends_still : (slots : Slots) (least : ℕ) → (count_by is_some slots == 0) ≡ false → EndsAt (shelved slots) least least
ends_still slots least some = record {
  none = λ none. absurd (clash (sym ((unsigned_Decides (count_by is_some slots) 0).1 (count_none slots (λ n. sym (get_shelved slots n) ∙ none n))) ∙ some));
  some = λ n s is. refl;
}
  where
    clash : true ≡ false → ⊥
    clash e = cc
