-- What a map of numbers has, as a list in key order, and what each change of it leaves.
use Rattle.std.proofs.Common.{◌≡◌, ◌+◌, ◌≤◌, length, arith, ℕ, Bool, true, false, List, [], ◌∷◌, ◌&&◌, map, Option, Some, None, is_some, cond, option_map, refl, sym, ap, ◌∙◌}
use Rattle.std.proofs.lemmas.List.{map-append, length-map}
use Rattle.std.specs.List.{AllByRecursion}
use Rattle.std.specs.List.Sorted.{IsStrictlySortedBy}
use Rattle.std.specs.BTreeMap.{insert_entry}
use Rattle.std.specs.BTreeMap.Range.{entries_between}
use Rattle.std.specs.Map.{keys_of, lookup, remove_entry}
use Rattle.std.specs.Ordering.{is_eq, is_le, is_ge, ordering_reverse}
use Rattle.std.specs.declared.cmp.Ordering.{Ordering}
use Rattle.std.specs.declared.cmp.Ordering.TheVariants.{Less, Equal, Greater}
use Rattle.std.specs.declared.ops.Bound.TheVariants.{Included, Unbounded}
use Rattle.std.proofs.lemmas.Bool.{or_parts}
use Rattle.chunk_index.specs.declared.entry.Entry.{Entry}
use Rattle.chunk_index.specs.declared.key.Key.{Key}
use Rattle.chunk_index.specs.KeyOrder.{key_cmp}
use Rattle.chunk_index.specs.KeyLaws.{level_keys}
use Rattle.chunk_index.specs.Kept.{entry_from}
use Rattle.chunk_index.specs.Keys.{IsInOrder, has_key, key_of, number_at, before, behind, not_before, put, without}
use Rattle.chunk_index.specs.declared.ends.End.{End}
use Rattle.chunk_index.specs.declared.ends.End.TheVariants.{First, Last}
use Rattle.chunk_index.specs.Ends.{at_end, seen_from, Takes}
use Rattle.chunk_index.specs.Merges.{put_all, ComesAt}
use Rattle.chunk_index.specs.Pairs.{pair_key, pair_of, all_numbers}
use Rattle.chunk_index.proofs.Lists.{turned, IsCut, cut, put-low, put-high, without-level, has-level, has-high, put-level, put-without, lacks_without, without_in_order, has-low, unequal}
use Rattle.chunk_index.proofs.Finds.{number-has}
use Rattle.chunk_index.proofs.Maps.{Numbers, test, same_test, false_true}
use Rattle.chunk_index.proofs.Merges.{map-put, map-without, map-order, map-has, all-put, put-all, all-without, all-kept, all_order, has-all, map-kept, step_nearer, step_second, step_alone, either, item_at, at-all, all_length}

all_pairs : (k : Key) (es : Numbers) → AllByRecursion (λ y. key_cmp k y ≡ Less) (keys_of es) → AllByRecursion (λ e. key_cmp k (pair_key e) ≡ Less) es
all_pairs k [] all = tt
all_pairs k (e ∷ es) all = (all.0, all_pairs k es all.1)

pub pairs_in_order : (es : Numbers) → IsStrictlySortedBy key_cmp (keys_of es) → IsInOrder pair_key es
unfolding IsStrictlySortedBy IsInOrder
pairs_in_order [] sorted = tt
pairs_in_order (e ∷ es) sorted = (all_pairs e.0 es sorted.0, pairs_in_order es sorted.1)

module _ (k : Key) (e : Key × ℕ) (es : Numbers) (order : IsInOrder pair_key (e ∷ es)) where
  first : IsCut pair_key [] e es
  first = cut pair_key [] e es order

not_there : (k : Key) (e : Key × ℕ) (es : Numbers) → IsInOrder pair_key (e ∷ es) → key_cmp k e.0 ≡ Equal → has_key pair_key (e ∷ es) k ≡ false → ⊥
not_there k e es order level lacks = false_true (sym lacks ∙ has-level pair_key [] e es (first k e es order) k level)

pub pairs-insert : (es : Numbers) (k : Key) (v : ℕ) → IsInOrder pair_key es → has_key pair_key es k ≡ false
    → insert_entry key_cmp es k v ≡ put pair_key es (k, v)
unfolding put before behind
pairs-insert [] k v order lacks = refl
pairs-insert (e ∷ es) k v order lacks = by (key_cmp k e.0) refl (pairs-insert es k v (first k e es order).right)
  where
    c : IsCut pair_key [] e es
    c = first k e es order

    by : (o : Ordering) → key_cmp k e.0 ≡ o → (has_key pair_key es k ≡ false → insert_entry key_cmp es k v ≡ put pair_key es (k, v))
        → insert_entry key_cmp (e ∷ es) k v ≡ put pair_key (e ∷ es) (k, v)
    by Less is rest = rw is (sym (put-low pair_key [] e es c k (k, v) refl is))
    by Equal is rest = absurd (not_there k e es order is lacks)
    by Greater is rest =
        rw is (ap (λ (s : Numbers). e ∷ s) (rest (sym (has-high pair_key [] e es c k is) ∙ lacks)) ∙ sym (put-high pair_key [] e es c k (k, v) refl is))

-- also where it is there
pairs-set : (es : Numbers) (k : Key) (v : ℕ) → IsInOrder pair_key es → insert_entry key_cmp es k v ≡ put pair_key es (k, v)
unfolding put before behind
pairs-set [] k v order = refl
pairs-set (e ∷ es) k v order = by (key_cmp k e.0) refl (pairs-set es k v c.right)
  where
    c : IsCut pair_key [] e es
    c = first k e es order

    by : (o : Ordering) → key_cmp k e.0 ≡ o → insert_entry key_cmp es k v ≡ put pair_key es (k, v)
        → insert_entry key_cmp (e ∷ es) k v ≡ put pair_key (e ∷ es) (k, v)
    by Less is rest = rw is (sym (put-low pair_key [] e es c k (k, v) refl is))
    by Equal is rest =
        rw is (ap (λ (q : Key). (q, v) ∷ es) (sym (level_keys k e.0 is)) ∙ sym (put-level pair_key [] e es c k (k, v) refl is))
    by Greater is rest = rw is (ap (λ (s : Numbers). e ∷ s) rest ∙ sym (put-high pair_key [] e es c k (k, v) refl is))

pub pairs-remove : (es : Numbers) (k : Key) → IsInOrder pair_key es → remove_entry (test k) es ≡ without pair_key es k
unfolding without
pairs-remove [] k order = refl
pairs-remove (e ∷ es) k order = by (key_cmp k e.0) refl (pairs-remove es k (first k e es order).right)
  where
    c : IsCut pair_key [] e es
    c = first k e es order

    other : (o : Ordering) → key_cmp k e.0 ≡ o → is_eq o ≡ false → remove_entry (test k) es ≡ without pair_key es k
        → remove_entry (test k) (e ∷ es) ≡ without pair_key (e ∷ es) k
    other o is differs rest =
        let here = ap is_eq is ∙ differs in
        let there = unequal (key_cmp e.0 k) (same_test k e.0 ∙ here) in
        rw (here, there) (ap (λ (s : Numbers). e ∷ s) rest)

    by : (o : Ordering) → key_cmp k e.0 ≡ o → remove_entry (test k) es ≡ without pair_key es k
        → remove_entry (test k) (e ∷ es) ≡ without pair_key (e ∷ es) k
    by Less is rest = other Less is refl rest
    by Equal is rest = let here = ap is_eq is in rw here (sym (without-level pair_key [] e es c k is))
    by Greater is rest = other Greater is refl rest

-- ---- a range of a map
pub all_between : (es : Numbers) → entries_between key_cmp Unbounded Unbounded es ≡ es
all_between [] = refl
all_between (e ∷ es) = ap (λ (t : Numbers). e ∷ t) (all_between es)

turn_le : (o : Ordering) → (is_le o && true) ≡ is_ge (ordering_reverse o)
turn_le Less = refl
turn_le Equal = refl
turn_le Greater = refl

pub between_from : (k : Key) (es : Numbers) → entries_between key_cmp (Included k) Unbounded es ≡ not_before pair_key es k
unfolding not_before
between_from k [] = refl
between_from k (e ∷ es) = by (is_ge (key_cmp e.0 k)) refl (between_from k es)
  where
    tested : (is_le (key_cmp k e.0) && true) ≡ is_ge (key_cmp e.0 k)
    tested = turn_le (key_cmp k e.0) ∙ sym (ap is_ge (turned k e.0 (key_cmp k e.0) refl))

    by : (stays : Bool) → is_ge (key_cmp e.0 k) ≡ stays → entries_between key_cmp (Included k) Unbounded es ≡ not_before pair_key es k
        → entries_between key_cmp (Included k) Unbounded (e ∷ es) ≡ not_before pair_key (e ∷ es) k
    by true is rest = let here = tested ∙ is in rw (here, is) (ap (λ (s : Numbers). e ∷ s) rest)
    by false is rest = let here = tested ∙ is in rw (here, is) rest

-- ---- a map with late ones
module _ (es : Numbers) (late : List Entry) (map_order : IsInOrder pair_key es) (late_order : IsInOrder key_of late) where
  same : (e : Entry) → pair_key (pair_of e) ≡ key_of e
  same e = refl

  pub late_pairs : IsInOrder pair_key (map pair_of late)
  late_pairs = map-order key_of pair_key pair_of same late late_order

  pub listed_order : IsInOrder pair_key (all_numbers es late)
  listed_order = all_order pair_key es (map pair_of late) map_order

  pub listed-late : (e : Entry) → all_numbers es (put key_of late e) ≡ put pair_key (all_numbers es late) (pair_of e)
  listed-late e =
      ap (put_all pair_key es) (map-put key_of pair_key pair_of same late e)
      ∙ all-put pair_key es (map pair_of late) (pair_of e) map_order late_pairs

  lacks : (k : Key) → has_key pair_key (all_numbers es late) k ≡ false
      → (has_key pair_key es k ≡ false) × (has_key key_of late k ≡ false)
  lacks k none =
      let both = or_parts (has_key pair_key (map pair_of late) k) (has_key pair_key es k) (sym (has-all pair_key es (map pair_of late) k late_pairs) ∙ none) in
      (both.1, sym (map-has key_of pair_key pair_of same late k) ∙ both.0)

  pub lacks_map : (k : Key) → has_key pair_key (all_numbers es late) k ≡ false → has_key pair_key es k ≡ false
  lacks_map k none = (lacks k none).0

  pub lacks_late : (k : Key) → has_key pair_key (all_numbers es late) k ≡ false → has_key key_of late k ≡ false
  lacks_late k none = (lacks k none).1

  pub listed-insert : (k : Key) (n : ℕ) → has_key pair_key (all_numbers es late) k ≡ false
      → all_numbers (insert_entry key_cmp es k n) late ≡ put pair_key (all_numbers es late) (k, n)
  listed-insert k n none =
      ap (λ (s : Numbers). put_all pair_key s (map pair_of late)) (pairs-insert es k n map_order (lacks_map k none))
      ∙ put-all pair_key es (map pair_of late) (k, n) map_order late_pairs (map-has key_of pair_key pair_of same late k ∙ lacks_late k none)

  pub listed-without : (k : Key) → all_numbers (remove_entry (test k) es) (without key_of late k) ≡ without pair_key (all_numbers es late) k
  listed-without k =
      ap (λ (s : Numbers). put_all pair_key s (map pair_of (without key_of late k))) (pairs-remove es k map_order)
      ∙ ap (put_all pair_key (without pair_key es k)) (map-without key_of pair_key pair_of same late k)
      ∙ sym (all-without pair_key es (map pair_of late) k map_order late_pairs)

  pub listed-from : (k : Key) → all_numbers (entries_between key_cmp (Included k) Unbounded es) (not_before key_of late k)
      ≡ not_before pair_key (all_numbers es late) k
  unfolding not_before
  listed-from k =
      ap (λ (s : Numbers). put_all pair_key s (map pair_of (not_before key_of late k))) (between_from k es)
      ∙ ap (put_all pair_key (not_before pair_key es k)) (map-kept key_of pair_key pair_of same is_ge k late)
      ∙ sym (all-kept pair_key is_ge k es (map pair_of late) map_order late_pairs)

-- ---- a late one comes into the map
none_is_some : {n : ℕ} → None ≡ Some n → ⊥
none_is_some e = cc

same_number : (n m : ℕ) → Some n ≡ Some m → n ≡ m
same_number n m e = cc

nothing : (k : Key) → has_key key_of [] k ≡ true → ⊥
unfolding has_key
nothing k e = cc

-- what is there is put where it was
number_put : (late : List Entry) (k : Key) (n : ℕ) → IsInOrder key_of late → number_at late k ≡ Some n → put key_of late (entry_from k n) ≡ late
unfolding number_at
number_put [] k n order at = absurd (none_is_some at)
number_put (e ∷ late) k n order at = by (key_cmp k (key_of e)) refl (number_put late k n c.right)
  where
    c : IsCut key_of [] e late
    c = cut key_of [] e late order

    by : (o : Ordering) → key_cmp k (key_of e) ≡ o → (number_at late k ≡ Some n → put key_of late (entry_from k n) ≡ late)
        → put key_of (e ∷ late) (entry_from k n) ≡ e ∷ late
    by Less is rest =
        absurd (nothing k (sym (has-low key_of [] e late c k is) ∙ number-has (e ∷ late) k ∙ ap is_some at))
    by Equal is rest =
        let tested = same_test k (key_of e) ∙ ap is_eq is in
        let number : e.number ≡ n = same_number e.number n (sym (ap (λ b. cond b (Some e.number) (number_at late k)) tested) ∙ at) in
        put-level key_of [] e late c k (entry_from k n) refl is
        ∙ ap (λ (q : Key). entry_from q n ∷ late) (level_keys k (key_of e) is)
        ∙ ap (λ i. entry_from (key_of e) i ∷ late) (sym number)
    by Greater is rest =
        let tested = same_test k (key_of e) ∙ ap is_eq is in
        put-high key_of [] e late c k (entry_from k n) refl is
        ∙ ap (λ (t : List Entry). e ∷ t) (rest (sym (ap (λ b. cond b (Some e.number) (number_at late k)) tested) ∙ at))

pub listed_caught : (es : Numbers) (late : List Entry) → IsInOrder pair_key es → IsInOrder key_of late → (k : Key) (n : ℕ) → number_at late k ≡ Some n
    → all_numbers (insert_entry key_cmp es k n) (without key_of late k) ≡ all_numbers es late
listed_caught es late map_order late_order k n at =
    let rest = without key_of late k in
    let rest_order = without_in_order key_of late k late_order in
    ap (λ (s : Numbers). all_numbers s rest) (pairs-set es k n map_order)
    ∙ put-all pair_key es (map pair_of rest) (k, n) map_order (late_pairs es rest map_order rest_order)
    (map-has key_of pair_key pair_of (λ e. refl) rest k ∙ lacks_without key_of late k)
    ∙ sym (listed-late es rest map_order rest_order (entry_from k n))
    ∙ ap (all_numbers es) (put-without key_of late (entry_from k n) ∙ number_put late k n late_order at)

-- ---- a step over a map with late ones
part_pairs : (l : List Entry) → IsInOrder key_of l → IsInOrder pair_key (map pair_of l)
part_pairs l order = map-order key_of pair_key pair_of (λ e. refl) l order

pairs_at : (end : End) (e : Entry) (es : List Entry) → map pair_of (at_end end e es) ≡ at_end end (pair_of e) (map pair_of es)
pairs_at First e es = refl
pairs_at Last e es = map-append pair_of es (e ∷ [])

module _ (end : End) (m rest : Numbers) (l : List Entry) where
  pub span_nearer : (x : Key × ℕ) (e : Entry) (es l2 : List Entry) → m ≡ at_end end x rest → l ≡ at_end end e es → IsInOrder pair_key m
      → IsInOrder key_of l → seen_from end (key_cmp x.0 (key_of e)) ≡ Less → l2 ≡ l → all_numbers m l ≡ at_end end x (all_numbers rest l2)
  span_nearer x e es l2 is late order late_order near same =
      step_nearer pair_key end m rest (map pair_of l) x (pair_of e) (map pair_of es) (map pair_of l2) is (ap (map pair_of) late ∙ pairs_at end e es)
      order (part_pairs l late_order) near (ap (map pair_of) same)

  pub span_late : (k : Key) (e : Entry) (es : List Entry) → ComesAt pair_key end k m rest → k ≡ key_of e → l ≡ at_end end e es → IsInOrder key_of l
      → all_numbers m l ≡ at_end end (k, e.number) (all_numbers rest es)
  span_late k e es comes is late late_order =
      step_second pair_key end m rest (map pair_of l) k (pair_of e) (map pair_of es) comes is (ap (map pair_of) late ∙ pairs_at end e es)
      (part_pairs l late_order)
      ∙ ap (λ (q : Key). at_end end (q, e.number) (all_numbers rest es)) (sym is)

  pub span_alone : (o : Option (Key × ℕ)) (l2 : List Entry) → l ≡ [] → l2 ≡ [] → Takes end m o rest
      → Takes end (all_numbers m l) o (all_numbers rest l2)
  span_alone o l2 none none2 = step_alone pair_key end m rest (map pair_of l) o (map pair_of l2) (ap (map pair_of) none) (ap (map pair_of) none2)

pub listed_length : (es : Numbers) (l : List Entry) → IsInOrder pair_key es → length (all_numbers es l) ≤ length es + length l
listed_length es l order = omega (arith, all_length pair_key es (map pair_of l) order, length-map l pair_of)

-- ---- a look-up in a map with late ones
lookup-item : (es : Numbers) (k : Key) → lookup (test k) es ≡ option_map (λ (e : Key × ℕ). e.1) (item_at pair_key es k)
lookup-item [] k = refl
lookup-item (e ∷ es) k = by (is_eq (key_cmp e.0 k)) refl (lookup-item es k)
  where
    by : (same : Bool) → is_eq (key_cmp e.0 k) ≡ same → lookup (test k) es ≡ option_map (λ (e : Key × ℕ). e.1) (item_at pair_key es k)
        → lookup (test k) (e ∷ es) ≡ option_map (λ (e : Key × ℕ). e.1) (item_at pair_key (e ∷ es) k)
    by true s rest = let there = sym (same_test k e.0) ∙ s in rw (s, there) refl
    by false s rest = let there = sym (same_test k e.0) ∙ s in rw (s, there) rest

number-item : (l : List Entry) (k : Key) → number_at l k ≡ option_map (λ (e : Key × ℕ). e.1) (item_at pair_key (map pair_of l) k)
unfolding number_at
number-item [] k = refl
number-item (e ∷ l) k = by (is_eq (key_cmp (key_of e) k)) refl (number-item l k)
  where
    by : (same : Bool) → is_eq (key_cmp (key_of e) k) ≡ same → number_at l k ≡ option_map (λ (e : Key × ℕ). e.1) (item_at pair_key (map pair_of l) k)
        → number_at (e ∷ l) k ≡ option_map (λ (e : Key × ℕ). e.1) (item_at pair_key (map pair_of (e ∷ l)) k)
    by true s rest = rw s refl
    by false s rest = rw s rest

pub lookup-listed : (es : Numbers) (l : List Entry) (k : Key) → IsInOrder key_of l
    → lookup (test k) (all_numbers es l) ≡ either (number_at l k) (lookup (test k) es)
lookup-listed es l k order =
    lookup-item (all_numbers es l) k
    ∙ ap (option_map (λ (e : Key × ℕ). e.1)) (at-all pair_key es (map pair_of l) k (part_pairs l order))
    ∙ share (item_at pair_key (map pair_of l) k) (item_at pair_key es k)
    ∙ ap (λ (o : Option ℕ). either o (option_map (λ (e : Key × ℕ). e.1) (item_at pair_key es k))) (sym (number-item l k))
    ∙ ap (either (number_at l k)) (sym (lookup-item es k))
  where
    share : (o p : Option (Key × ℕ)) → option_map (λ (e : Key × ℕ). e.1) (either o p)
        ≡ either (option_map (λ (e : Key × ℕ). e.1) o) (option_map (λ (e : Key × ℕ). e.1) p)
    share (Some x) p = refl
    share None p = refl
