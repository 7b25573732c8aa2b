-- A part of a list: its first and its last item, and that it is in order where the list is.
use Rattle.std.proofs.Common.{◌≡◌, ℕ, zero, suc, ◌+◌, ◌-◌, ◌<◌, ◌≤◌, List, [], ◌∷◌, ◌++◌, length, take, drop, Some, true, false, refl, sym, ap, ◌∙◌, arith}
use Rattle.std.proofs.lemmas.Option.{get_or_from_slice_get}
use Rattle.std.specs.List.{AllByRecursion, slice_get, slice_range}
use Rattle.std.specs.Ordering.{is_ge}
use Rattle.std.specs.declared.cmp.Ordering.{Ordering}
use Rattle.std.specs.declared.cmp.Ordering.TheVariants.{Less, Equal, Greater}
use Rattle.chunk_index.specs.declared.entry.Entry.{Entry}
use Rattle.chunk_index.specs.declared.key.Key.{Key}
use Rattle.chunk_index.specs.KeyOrder.{key_cmp}
use Rattle.chunk_index.specs.KeyLaws.{key_cmp_total}
use Rattle.chunk_index.specs.Keys.{IsInOrder, key_of, not_before}
use Rattle.chunk_index.proofs.Lists.{filter_in_order}
use Rattle.chunk_index.specs.declared.numbers.NumberSpan.{NumberSpan}
use Rattle.chunk_index.specs.Numbers.{span_left}
use Rattle.chunk_index.specs.Pairs.{pair_key}
use Rattle.chunk_index.specs.Parts.{part_left}
use Rattle.chunk_index.proofs.Pairs.{listed_order}
use Rattle.chunk_index.proofs.Walks.{part_first, part_last}

module _ (xs : List Entry) (x : Entry) (a b : ℕ) where
  pub part_next : a < b → b ≤ length xs → slice_get xs a ≡ Some x → slice_range xs a b ≡ x ∷ slice_range xs (a + 1) b
  part_next below within at =
      part_first xs x a b below (omega arith) ∙ ap (λ (h : Entry). h ∷ slice_range xs (a + 1) b) (get_or_from_slice_get xs a x x at)

  pub part_prev : a < b → b ≤ length xs → slice_get xs (b - 1) ≡ Some x → slice_range xs a b ≡ slice_range xs a (b - 1) ++ x ∷ []
  part_prev below within at =
      part_last xs x a b below within ∙ ap (λ (h : Entry). slice_range xs a (b - 1) ++ h ∷ []) (get_or_from_slice_get xs (b - 1) x x at)

module _ {A : Type 0} (key : A → Key) where
  take_all_of : (P : A → Type 0) (n : ℕ) (xs : List A) → AllByRecursion P xs → AllByRecursion P (take n xs)
  take_all_of P zero xs all = tt
  take_all_of P (suc n) [] all = tt
  take_all_of P (suc n) (x ∷ xs) all = (all.0, take_all_of P n xs all.1)

  take_order : (n : ℕ) (xs : List A) → IsInOrder key xs → IsInOrder key (take n xs)
  unfolding IsInOrder
  take_order zero xs order = tt
  take_order (suc n) [] order = tt
  take_order (suc n) (x ∷ xs) order = (take_all_of (λ y. key_cmp (key x) (key y) ≡ Less) n xs order.0, take_order n xs order.1)

  drop_order : (n : ℕ) (xs : List A) → IsInOrder key xs → IsInOrder key (drop n xs)
  unfolding IsInOrder
  drop_order zero xs order = order
  drop_order (suc n) [] order = tt
  drop_order (suc n) (x ∷ xs) order = drop_order n xs order.1

  pub part_order : (xs : List A) (a b : ℕ) → IsInOrder key xs → IsInOrder key (slice_range xs a b)
  part_order xs a b order = take_order (b - a) (drop a xs) (drop_order a xs order)

  -- ---- what doesn't stand before a key
  all_behind : (k : Key) (x : A) (xs : List A) → is_ge (key_cmp (key x) k) ≡ true → AllByRecursion (λ y. key_cmp (key x) (key y) ≡ Less) xs
      → not_before key xs k ≡ xs
  unfolding not_before
  all_behind k x [] here all = refl
  all_behind k x (y ∷ ys) here all =
      let there = by (key_cmp (key x) k) refl (key_cmp (key y) k) refl in
      rw there (ap (λ (t : List A). y ∷ t) (all_behind k x ys here all.1))
    where
      stays : (o : Ordering) → is_ge o ≡ true → is_ge o ≡ true
      stays o e = e

      by : (o : Ordering) → key_cmp (key x) k ≡ o → (p : Ordering) → key_cmp (key y) k ≡ p → is_ge (key_cmp (key y) k) ≡ true
      by o e Less p = absurd (apart (sym (sym here ∙ ap is_ge (key_cmp_total.trans (key x) (key y) k all.0 p))))
        where
          apart : false ≡ true → ⊥
          apart e = cc
      by o e Equal p = ap is_ge p
      by o e Greater p = ap is_ge p

  pub none_before : (k : Key) (x : A) (xs : List A) → IsInOrder key (x ∷ xs) → is_ge (key_cmp (key x) k) ≡ true → not_before key (x ∷ xs) k ≡ x ∷ xs
  unfolding IsInOrder not_before
  none_before k x xs order here = rw here (ap (λ (t : List A). x ∷ t) (all_behind k x xs here order.0))

  pub one_before : (k : Key) (x : A) (xs : List A) → key_cmp (key x) k ≡ Less → not_before key (x ∷ xs) k ≡ not_before key xs k
  unfolding not_before
  one_before k x xs less = let here = ap is_ge less in rw here refl

pub nothing_left : (xs : List Entry) (a b : ℕ) → b ≤ a → slice_range xs a b ≡ []
nothing_left xs a b past = let none : b - a ≡ 0 = omega arith in rw none refl

pub behind_order : {A : Type 0} (key : A → Key) (k : Key) (xs : List A) → IsInOrder key xs → IsInOrder key (not_before key xs k)
unfolding not_before
behind_order key k xs order = filter_in_order key (λ x. is_ge (key_cmp (key x) k)) xs order

-- what is left of some numbers is in order
pub span_order : (s : NumberSpan) → IsInOrder pair_key (span_left s)
span_order s =
    listed_order s.map (part_left s.late) s.map_order (part_order key_of s.late.tree.now s.late.from s.late.to s.late.order)
