-- A step of a walk: over the part of the map that is left, and over a tree.
use Rattle.std.proofs.Common.{◌≡◌, Bool, ℕ, suc, ◌+◌, ◌-◌, ◌<◌, ◌≤◌, true, false, List, [], ◌∷◌, ◌++◌, length, take, drop, get_or, min, Option, None, Some, MatchOption, refl, subst, sym, ap, ◌∙◌, append_assoc, arith, length-drop}
use Rattle.std.proofs.lemmas.List.{append-nil, map-append, get_or-drop, drop-drop, length-take-le}
use Rattle.std.proofs.lemmas.Option.{get_or_from_slice_get}
use Rattle.std.proofs.Math.Seq.{take-suc, take-add, drop-cons}
use Rattle.std.specs.List.{slice_get, slice_range}
use Rattle.std.specs.List.{AllByRecursion}
use Rattle.std.specs.Ordering.{is_ge}
use Rattle.std.specs.declared.cmp.Ordering.TheVariants.{Less, Equal, Greater}
use Rattle.chunk_index.specs.declared.entry.Entry.{Entry}
use Rattle.chunk_index.specs.declared.key.Key.{Key}
use Rattle.chunk_index.specs.declared.walk.Wanted.{Wanted}
use Rattle.chunk_index.specs.KeyOrder.{key_cmp}
use Rattle.chunk_index.specs.KeyLaws.{level_keys}
use Rattle.chunk_index.specs.Keys.{IsInOrder, key_of, not_before}
use Rattle.chunk_index.specs.declared.ends.End.{End}
use Rattle.chunk_index.specs.declared.ends.End.TheVariants.{First, Last}
use Rattle.chunk_index.specs.Ends.{at_end, seen_from}
use Rattle.chunk_index.specs.Merges.{ComesAt}
use Rattle.chunk_index.specs.Pairs.{pair_key}
use Rattle.chunk_index.specs.Items.{Items, item_key, entries_by}
use Rattle.chunk_index.specs.Kept.{tag_in, entry_from, item_of, items_of}
use Rattle.chunk_index.specs.Walks.{passes, left_in}
use Rattle.chunk_index.proofs.Lists.{turned, cut, all-less}
use Rattle.chunk_index.proofs.Maps.{Numbers}
use Rattle.chunk_index.proofs.Merges.{map-order, map-kept, unreversed, seen_level, none_comes, level_comes, first_right, last_right, all-lower, all-join}
use Rattle.chunk_index.proofs.Tags.{entries-append, entries_in_order, kept-by}

module _ (m t : List Entry) (all rest : Numbers) (e : Key × ℕ) (wanted : Wanted) where
  last_split : all ≡ rest ++ e ∷ [] → left_in all m t wanted ≡ left_in rest m t wanted ++ left_in (e ∷ []) m t wanted
  last_split is =
      ap (λ (es : Numbers). left_in es m t wanted) is
      ∙ ap (λ (xs : Items). entries_by (passes wanted) xs) (map-append (item_of m t) rest (e ∷ []))
      ∙ entries-append (passes wanted) (items_of rest m t) (item_of m t e ∷ [])

  -- the item at an end counts, or doesn't
  pub one_counts : (end : End) → all ≡ at_end end e rest → passes wanted (tag_in m t e.0) ≡ true
      → left_in all m t wanted ≡ at_end end (entry_from e.0 e.1) (left_in rest m t wanted)
  unfolding entries_by
  one_counts First is counts = ap (λ (es : Numbers). left_in es m t wanted) is ∙ rw counts refl
  one_counts Last is counts = last_split is ∙ rw counts refl

  pub one_passed : (end : End) → all ≡ at_end end e rest → passes wanted (tag_in m t e.0) ≡ false → left_in all m t wanted ≡ left_in rest m t wanted
  unfolding entries_by
  one_passed First is counts = ap (λ (es : Numbers). left_in es m t wanted) is ∙ rw counts refl
  one_passed Last is counts = last_split is ∙ rw counts (append-nil (left_in rest m t wanted))

-- ---- what counts of numbers is in order, and what holds of all keys holds of it
module _ (m t : List Entry) (wanted : Wanted) where
  pub all_left : (P : Key → Type 0) (es : Numbers) → AllByRecursion (λ e. P e.0) es → AllByRecursion (λ x. P (key_of x)) (left_in es m t wanted)
  unfolding entries_by
  all_left P [] all = tt
  all_left P (e ∷ es) all = by (passes wanted (tag_in m t e.0)) refl (all_left P es all.1)
    where
      by : (counts : Bool) → passes wanted (tag_in m t e.0) ≡ counts → AllByRecursion (λ x. P (key_of x)) (left_in es m t wanted)
          → AllByRecursion (λ x. P (key_of x)) (left_in (e ∷ es) m t wanted)
      by true is rest = rw is (all.0, rest)
      by false is rest = rw is rest

  pub left_order : (es : Numbers) → IsInOrder pair_key es → IsInOrder key_of (left_in es m t wanted)
  left_order es order =
      entries_in_order (passes wanted) (items_of es m t) (map-order pair_key item_key (item_of m t) (λ p. refl) es order)

  -- what is wanted of the numbers from a key on is what is wanted of all, but for what stands before the key
  pub left_from : (k : Key) (es : Numbers) → left_in (not_before pair_key es k) m t wanted ≡ not_before key_of (left_in es m t wanted) k
  unfolding not_before
  left_from k es =
      ap (λ (xs : Items). entries_by (passes wanted) xs) (map-kept pair_key item_key (item_of m t) (λ p. refl) is_ge k es)
      ∙ kept-by (passes wanted) is_ge k (items_of es m t)

  -- ---- where a key stands nearer to an end than all that counts
  pub comes_none : (end : End) (k : Key) (es : Numbers) → es ≡ [] → ComesAt key_of end k (left_in es m t wanted) (left_in es m t wanted)
  unfolding entries_by
  comes_none end k es none = rw none (none_comes key_of k end)

  comes_first : (k : Key) (es : Numbers) → IsInOrder pair_key es → AllByRecursion (λ e. key_cmp k e.0 ≡ Less) es
      → ComesAt key_of First k (left_in es m t wanted) (left_in es m t wanted)
  comes_first k es order all y ys is front =
      first_right key_of (left_in es m t wanted) y ys (left_order es order) front
      (all_left (λ q. key_cmp (key_of y) q ≡ Less) es (subst (λ (q : Key). AllByRecursion (λ e. key_cmp q e.0 ≡ Less) es) (sym is) all))

  comes_last : (k : Key) (es : Numbers) → AllByRecursion (λ e. key_cmp e.0 k ≡ Less) es
      → ComesAt key_of Last k (left_in es m t wanted) (left_in es m t wanted)
  comes_last k es all y ys is front =
      last_right key_of (left_in es m t wanted) ys y front
      (all_left (λ q. key_cmp q (key_of y) ≡ Less) es (subst (λ (q : Key). AllByRecursion (λ e. key_cmp e.0 q ≡ Less) es) (sym is) all))

  pub comes_farther : (end : End) (k : Key) (p : Key × ℕ) (es rest : Numbers) → IsInOrder pair_key es → es ≡ at_end end p rest
      → seen_from end (key_cmp p.0 k) ≡ Greater → ComesAt key_of end k (left_in es m t wanted) (left_in es m t wanted)
  unfolding IsInOrder
  comes_farther First k p es rest order is far =
      let whole = subst (IsInOrder pair_key) is order in
      let low = turned p.0 k Greater far in
      comes_first k es order (subst (λ (ns : Numbers). AllByRecursion (λ e. key_cmp k e.0 ≡ Less) ns) (sym is)
      (low, all-lower pair_key k p.0 rest low whole.0))
  comes_farther Last k p es rest order is far =
      let less = unreversed (key_cmp p.0 k) Greater far in
      let whole = cut pair_key rest p [] (subst (IsInOrder pair_key) is order) in
      comes_last k es (subst (λ (ns : Numbers). AllByRecursion (λ e. key_cmp e.0 k ≡ Less) ns) (sym is)
      (all-join pair_key (λ e. key_cmp e.0 k ≡ Less) rest (p ∷ []) (all-less pair_key rest p.0 k whole.less less) (less, tt)))

  -- what is left where an item of that very key goes
  level_left : (end : End) (k : Key) (p : Key × ℕ) (rest : Numbers) → IsInOrder pair_key (at_end end p rest) → p.0 ≡ k
      → ComesAt key_of end k (left_in rest m t wanted) (left_in rest m t wanted)
  unfolding IsInOrder
  level_left First k p rest order is =
      comes_first k rest order.1 (subst (λ (r : Key). AllByRecursion (λ e. key_cmp r e.0 ≡ Less) rest) is order.0)
  level_left Last k p rest order is =
      comes_last k rest (subst (λ (r : Key). AllByRecursion (λ e. key_cmp e.0 r ≡ Less) rest) is (cut pair_key rest p [] order).less)

  pub comes_level : (end : End) (k : Key) (p : Key × ℕ) (es rest : Numbers) → IsInOrder pair_key es → es ≡ at_end end p rest
      → seen_from end (key_cmp p.0 k) ≡ Equal → ComesAt key_of end k (left_in es m t wanted) (left_in rest m t wanted)
  comes_level end k p es rest order is level = by (passes wanted (tag_in m t p.0)) refl
    where
      by : (counts : Bool) → passes wanted (tag_in m t p.0) ≡ counts → ComesAt key_of end k (left_in es m t wanted) (left_in rest m t wanted)
      by true counts =
          let step = one_counts m t es rest p wanted end is counts in
          subst (λ (xs : List Entry). ComesAt key_of end k xs (left_in rest m t wanted)) (sym step)
          (level_comes key_of k end (entry_from p.0 p.1) (left_in rest m t wanted) (subst (IsInOrder key_of) step (left_order es order)) level)
      by false counts =
          let step = one_passed m t es rest p wanted end is counts in
          subst (λ (xs : List Entry). ComesAt key_of end k xs (left_in rest m t wanted)) (sym step)
          (level_left end k p rest (subst (IsInOrder pair_key) is order) (level_keys p.0 k (seen_level end (key_cmp p.0 k) level)))

-- ---- the first and the last of a part of a list
module _ (xs : List Entry) (d : Entry) (a b : ℕ) where
  pub part_first : a < b → a < length xs → slice_range xs a b ≡ get_or xs a d ∷ slice_range xs (a + 1) b
  part_first below within =
      let more : b - a ≡ suc (b - (a + 1)) = omega arith in
      let next : suc a ≡ a + 1 = omega arith in
      ap (λ n. take n (drop a xs)) more
      ∙ ap (λ (t : List Entry). take (suc (b - (a + 1))) t) (drop-cons xs a d within)
      ∙ ap (λ n. get_or xs a d ∷ take (b - (a + 1)) (drop n xs)) next

  pub part_last : a < b → b ≤ length xs → slice_range xs a b ≡ slice_range xs a (b - 1) ++ get_or xs (b - 1) d ∷ []
  part_last below within =
      let more : b - a ≡ suc (b - 1 - a) = omega arith in
      let place : a + (b - 1 - a) ≡ b - 1 = omega arith in
      let room : b - 1 - a < length (drop a xs) = omega (arith, length-drop a xs) in
      ap (λ n. take n (drop a xs)) more
      ∙ take-suc (drop a xs) (b - 1 - a) d room
      ∙ ap (λ (h : Entry). take (b - 1 - a) (drop a xs) ++ h ∷ []) (get_or-drop a xs (b - 1 - a) d ∙ ap (λ n. get_or xs n d) place)

-- ---- a walk over a tree xs from a up to b, behind what was read ahead
module _ (xs : List Entry) (a b : ℕ) where
  pub tree_last : (ahead : List Entry) (x : Entry) → a < b → b ≤ length xs → slice_get xs (b - 1) ≡ Some x
      → ahead ++ slice_range xs a b ≡ (ahead ++ slice_range xs a (b - 1)) ++ x ∷ []
  tree_last ahead x below within at =
      ap (λ (t : List Entry). ahead ++ t) (part_last xs x a b below within ∙ ap (λ (h : Entry). slice_range xs a (b - 1) ++ h ∷ [])
      (get_or_from_slice_get xs (b - 1) x x at))
      ∙ sym (append_assoc ahead (slice_range xs a (b - 1)) (x ∷ []))

  -- the first n of them stand before the others
  parted : (n : ℕ) → n ≤ b - a → slice_range xs a b ≡ take n (drop a xs) ++ slice_range xs (a + n) b
  parted n few =
      let sum : b - a ≡ n + (b - (a + n)) = omega arith in
      ap (λ m. take m (drop a xs)) sum
      ∙ take-add n (b - (a + n)) (drop a xs)
      ∙ ap (λ (t : List Entry). take n (drop a xs) ++ take (b - (a + n)) t) (drop-drop n a xs)

  -- once as many were read as are left, up to a number above 0, a walk goes on with what was read
  pub tree_first : (n most : ℕ) (ahead got rest : List Entry) (o : Option Entry) → n ≡ min (b - a) most → 0 < most → b ≤ length xs → ahead ≡ []
      → got ≡ take n (drop a xs) → MatchOption o ((got ≡ []) × (rest ≡ [])) (λ x. got ≡ x ∷ rest)
      → MatchOption o ((ahead ++ slice_range xs a b ≡ []) × (rest ++ slice_range xs (a + n) b ≡ [])) (λ x. ahead ++ slice_range xs a b
      ≡ x ∷ (rest ++ slice_range xs (a + n) b))
  tree_first n most ahead got rest None size some within none read (all, left) =
      let few : n ≤ length (drop a xs) = omega (arith, length-drop a xs) in
      let nothing : n ≡ 0 = sym (length-take-le n (drop a xs) few) ∙ ap length (sym read ∙ all) in
      let whole : b - a ≡ 0 = omega arith in
      let past : b - (a + n) ≡ 0 = omega arith in
      (rw (none, whole) refl, rw (left, past) refl)
  tree_first n most ahead got rest (Some x) size some within none read found =
      let few : n ≤ b - a = omega arith in
      rw none (parted n few ∙ ap (λ (t : List Entry). t ++ slice_range xs (a + n) b) (sym read ∙ found))
