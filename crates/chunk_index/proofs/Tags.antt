-- The entries of one tag: what each change of the items is on them.
use Rattle.std.proofs.Common.{◌≡◌, ◌≤◌, Bool, true, false, List, [], ◌∷◌, ◌++◌, refl, sym, ap, ◌∙◌}
use Rattle.std.specs.List.{AllByRecursion}
use Rattle.std.specs.declared.cmp.Ordering.{Ordering}
use Rattle.std.specs.declared.cmp.Ordering.TheVariants.{Less, Equal, Greater}
use Rattle.std.specs.Ordering.{is_eq, is_ne, is_lt, is_gt}
use Rattle.std.proofs.lemmas.Bool.{or_parts}
use Rattle.chunk_index.specs.declared.entry.Entry.{Entry}
use Rattle.chunk_index.specs.declared.entry.Tag.{Tag}
use Rattle.chunk_index.specs.declared.key.Key.{Key}
use Rattle.chunk_index.specs.KeyOrder.{key_cmp}
use Rattle.chunk_index.specs.Keys.{key_of, IsInOrder, has_key, before, behind, put, without}
use Rattle.chunk_index.specs.Items.{Items, item_key, AreInOrder, entries_by, tag_set}
use Rattle.chunk_index.specs.Kept.{moved}
use Rattle.chunk_index.proofs.Lists.{kept_by, without_absent, around, put-without}

module _ (p : Tag → Bool) where
  -- a test of keys may come before or after the test of tags
  pub kept-by : (f : Ordering → Bool) (k : Key) (xs : Items) → entries_by p (kept_by item_key f k xs) ≡ kept_by key_of f k (entries_by p xs)
  unfolding entries_by
  kept-by f k [] = refl
  kept-by f k (x ∷ xs) = by (p x.1) refl (f (key_cmp (item_key x) k)) refl (kept-by f k xs)
    where
      by : (tagged : Bool) → p x.1 ≡ tagged → (kept : Bool) → f (key_cmp (item_key x) k) ≡ kept → entries_by p (kept_by item_key f k xs)
          ≡ kept_by key_of f k (entries_by p xs)
          → entries_by p (kept_by item_key f k (x ∷ xs)) ≡ kept_by key_of f k (entries_by p (x ∷ xs))
      by true t true h rest = rw (t, h) (rw t (ap (λ (s : List Entry). x.0 ∷ s) rest))
      by true t false h rest = rw (t, h) rest
      by false t true h rest = rw (t, h) (rw t rest)
      by false t false h rest = rw (t, h) rest

  pub entries-append : (xs ys : Items) → entries_by p (xs ++ ys) ≡ entries_by p xs ++ entries_by p ys
  unfolding entries_by
  entries-append [] ys = refl
  entries-append (x ∷ xs) ys = by (p x.1) refl (entries-append xs ys)
    where
      by : (tagged : Bool) → p x.1 ≡ tagged → entries_by p (xs ++ ys) ≡ entries_by p xs ++ entries_by p ys → entries_by p (x ∷ xs ++ ys)
          ≡ entries_by p (x ∷ xs) ++ entries_by p ys
      by true t rest = rw t (ap (λ (s : List Entry). x.0 ∷ s) rest)
      by false t rest = rw t rest

  -- ---- a removal takes the entry out where it was
  pub entries-without : (xs : Items) (k : Key) → entries_by p (without item_key xs k) ≡ without key_of (entries_by p xs) k
  unfolding without
  entries-without xs k = kept-by is_ne k xs

  -- ---- what is put under a tag that passes is put there
  pub entries-put : (xs : Items) (e : Entry) (t : Tag) → p t ≡ true → entries_by p (put item_key xs (e, t)) ≡ put key_of (entries_by p xs) e
  unfolding put before behind entries_by
  entries-put xs e t tagged =
      entries-append (kept_by item_key is_lt (key_of e) xs) ((e, t) ∷ kept_by item_key is_gt (key_of e) xs)
      ∙ rw tagged (ap (λ (s : List Entry). s ++ e ∷ entries_by p (kept_by item_key is_gt (key_of e) xs)) (kept-by is_lt (key_of e) xs)
      ∙ ap (λ (s : List Entry). kept_by key_of is_lt (key_of e) (entries_by p xs) ++ e ∷ s) (kept-by is_gt (key_of e) xs))

  -- ---- and where it doesn't pass, the others stay
  pub entries-past : (xs : Items) (e : Entry) (t : Tag) → p t ≡ false
      → entries_by p (put item_key xs (e, t)) ≡ kept_by key_of is_lt (key_of e) (entries_by p xs) ++ kept_by key_of is_gt (key_of e) (entries_by p xs)
  unfolding put before behind entries_by
  entries-past xs e t other =
      entries-append (kept_by item_key is_lt (key_of e) xs) ((e, t) ∷ kept_by item_key is_gt (key_of e) xs)
      ∙ rw other (ap (λ (s : List Entry). s ++ entries_by p (kept_by item_key is_gt (key_of e) xs)) (kept-by is_lt (key_of e) xs)
      ∙ ap (λ (s : List Entry). kept_by key_of is_lt (key_of e) (entries_by p xs) ++ s) (kept-by is_gt (key_of e) xs))

  -- ---- they are in order, and no more than the items
  all-entries : (k : Key) (xs : Items) → AllByRecursion (λ i. key_cmp k (item_key i) ≡ Less) xs → AllByRecursion (λ e. key_cmp k (key_of e)
      ≡ Less) (entries_by p xs)
  unfolding entries_by
  all-entries k [] all = tt
  all-entries k (x ∷ xs) all = by (p x.1) refl (all-entries k xs all.1)
    where
      by : (tagged : Bool) → p x.1 ≡ tagged → AllByRecursion (λ e. key_cmp k (key_of e) ≡ Less) (entries_by p xs) → AllByRecursion (λ e. key_cmp k
          (key_of e) ≡ Less) (entries_by p (x ∷ xs))
      by true t rest = rw t (all.0, rest)
      by false t rest = rw t rest

  pub entries_in_order : (xs : Items) → AreInOrder xs → IsInOrder key_of (entries_by p xs)
  unfolding entries_by IsInOrder
  entries_in_order [] order = tt
  entries_in_order (x ∷ xs) order = by (p x.1) refl (entries_in_order xs order.1)
    where
      by : (tagged : Bool) → p x.1 ≡ tagged → IsInOrder key_of (entries_by p xs) → IsInOrder key_of (entries_by p (x ∷ xs))
      by true t rest = rw t (all-entries (item_key x) xs order.0, rest)
      by false t rest = rw t rest

  -- ---- a key that no item has, no entry has
  pub lacks-entries : (xs : Items) (k : Key) → has_key item_key xs k ≡ false → has_key key_of (entries_by p xs) k ≡ false
  unfolding entries_by has_key
  lacks-entries [] k lacks = refl
  lacks-entries (x ∷ xs) k lacks = by (p x.1) refl (both.0) (lacks-entries xs k both.1)
    where
      both : (is_eq (key_cmp (item_key x) k) ≡ false) × (has_key item_key xs k ≡ false)
      both = or_parts (is_eq (key_cmp (item_key x) k)) (has_key item_key xs k) lacks

      by : (tagged : Bool) → p x.1 ≡ tagged → is_eq (key_cmp (item_key x) k) ≡ false → has_key key_of (entries_by p xs) k ≡ false
          → has_key key_of (entries_by p (x ∷ xs)) k ≡ false
      by true t differs rest = rw (t, differs) rest
      by false t differs rest = rw t rest

  -- so what is put under another tag changes nothing
  pub entries-other : (xs : Items) (e : Entry) (t : Tag) → AreInOrder xs → has_key item_key xs (key_of e) ≡ false → p t ≡ false
      → entries_by p (put item_key xs (e, t)) ≡ entries_by p xs
  entries-other xs e t order lacks other =
      entries-past xs e t other ∙ around key_of (entries_by p xs) (key_of e) (entries_in_order xs order)
      ∙ without_absent key_of (entries_by p xs) (key_of e) (lacks-entries xs (key_of e) lacks)

  -- ---- an item put anew, by whether its tag passes
  pub entries-moved : (xs : Items) (e : Entry) (t : Tag) → AreInOrder xs → entries_by p (put item_key xs (e, t)) ≡ moved (p t) (entries_by p xs) e
  entries-moved xs e t order = by (p t) refl
    where
      by : (passes : Bool) → p t ≡ passes → entries_by p (put item_key xs (e, t)) ≡ moved (p t) (entries_by p xs) e
      by true is = rw is (entries-put xs e t is ∙ sym (put-without key_of (entries_by p xs) e))
      by false is = rw is (entries-past xs e t is ∙ around key_of (entries_by p xs) (key_of e) (entries_in_order xs order))

  -- ---- where a tag that doesn't pass is set, the entry is out
  pub entries-set : (xs : Items) (k : Key) (t : Tag) → p t ≡ false → entries_by p (tag_set xs k t) ≡ without key_of (entries_by p xs) k
  unfolding entries_by tag_set without
  entries-set [] k t other = refl
  entries-set (x ∷ xs) k t other = by (key_cmp (item_key x) k) refl (p x.1) refl (entries-set xs k t other)
    where
      differs : (o : Ordering) → key_cmp (item_key x) k ≡ o → is_eq o ≡ false → is_ne o ≡ true → (tagged : Bool) → p x.1 ≡ tagged
          → entries_by p (tag_set xs k t) ≡ without key_of (entries_by p xs) k
          → entries_by p (tag_set (x ∷ xs) k t) ≡ without key_of (entries_by p (x ∷ xs)) k
      differs o is not_eq ne true tagged rest =
          let first = ap is_eq is ∙ not_eq in
          let second = ap is_ne is ∙ ne in
          rw first (rw tagged (rw second (ap (λ (s : List Entry). x.0 ∷ s) rest)))
      differs o is not_eq ne false tagged rest = let first = ap is_eq is ∙ not_eq in rw first (rw tagged rest)

      by : (o : Ordering) → key_cmp (item_key x) k ≡ o → (tagged : Bool) → p x.1 ≡ tagged → entries_by p (tag_set xs k t) ≡ without key_of
          (entries_by p xs) k
          → entries_by p (tag_set (x ∷ xs) k t) ≡ without key_of (entries_by p (x ∷ xs)) k
      by Less is tagged h rest = differs Less is refl refl tagged h rest
      by Equal is true h rest =
          let first = ap is_eq is in
          let second = ap is_ne is in
          rw first (rw (other, h) (rw second rest))
      by Equal is false h rest = let first = ap is_eq is in rw first (rw (other, h) rest)
      by Greater is tagged h rest = differs Greater is refl refl tagged h rest
