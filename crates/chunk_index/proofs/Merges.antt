-- Two lists in key order as one: what it has under each key, and where it begins and ends.
use Rattle.std.proofs.Common.{◌≡◌, ◌+◌, ◌≤◌, Bool, true, false, cond, List, [], ◌∷◌, ◌++◌, length, map, Option, Some, None, is_some, ◌||◌, refl, sym, ap, ◌∙◌, subst, arith}
use Rattle.std.proofs.lemmas.List.{length-append, map-append}
use Rattle.std.specs.List.{AllByRecursion}
use Rattle.std.specs.declared.cmp.Ordering.{Ordering}
use Rattle.std.specs.declared.cmp.Ordering.TheVariants.{Less, Equal, Greater}
use Rattle.std.specs.Ordering.{is_lt, is_eq, is_ne, is_gt, ordering_reverse}
use Rattle.std.specs.Cmp.{Equal-is, tied_itself}
use Rattle.std.proofs.lemmas.Bool.{or_parts}
use Rattle.chunk_index.specs.declared.key.Key.{Key}
use Rattle.chunk_index.specs.KeyOrder.{key_cmp}
use Rattle.chunk_index.specs.KeyLaws.{key_cmp_total, level_keys}
use Rattle.chunk_index.specs.Keys.{IsInOrder, has_key, before, behind, put, without}
use Rattle.chunk_index.specs.declared.ends.End.{End}
use Rattle.chunk_index.specs.declared.ends.End.TheVariants.{First, Last}
use Rattle.chunk_index.specs.Ends.{at_end, seen_from, Takes}
use Rattle.chunk_index.specs.Merges.{put_all, ComesAt}
use Rattle.chunk_index.proofs.Lists.{turned, kept_by, kept-all, kept-none, all-filter, all-turned, all-less, filter_in_order, AllStand, IsCut, cut, put-low, put-high, put-level, around, length_without}

-- the first of two that is there
abbrev pub either : {A : Type 0} → Option A → Option A → Option A
either (Some x) o = Some x
either None o = o

pub either-none : {A : Type 0} (o : Option A) → either o None ≡ o
either-none (Some x) = refl
either-none None = refl

some_none : {A : Type 0} {x : A} → Some x ≡ None → ⊥
some_none e = cc

some_is : {A : Type 0} {x y : A} → Some x ≡ Some y → x ≡ y
some_is e = cc

reversed_twice : (o : Ordering) → ordering_reverse (ordering_reverse o) ≡ o
reversed_twice Less = refl
reversed_twice Equal = refl
reversed_twice Greater = refl

pub unreversed : (o p : Ordering) → ordering_reverse o ≡ p → o ≡ ordering_reverse p
unreversed o p is = sym (reversed_twice o) ∙ ap ordering_reverse is

pub seen_level : (end : End) (o : Ordering) → seen_from end o ≡ Equal → o ≡ Equal
seen_level First o is = is
seen_level Last o is = unreversed o Equal is

module _ {A : Type 0} (key : A → Key) where
  -- the item of a key
  abbrev pub item_at : List A → Key → Option A
  item_at [] k = None
  item_at (x ∷ xs) k = cond (is_eq (key_cmp (key x) k)) (Some x) (item_at xs k)

  pub at-append : (xs ys : List A) (k : Key) → item_at (xs ++ ys) k ≡ either (item_at xs k) (item_at ys k)
  at-append [] ys k = refl
  at-append (x ∷ xs) ys k = by (is_eq (key_cmp (key x) k)) refl (at-append xs ys k)
    where
      by : (same : Bool) → is_eq (key_cmp (key x) k) ≡ same → item_at (xs ++ ys) k ≡ either (item_at xs k) (item_at ys k)
          → item_at (x ∷ xs ++ ys) k ≡ either (item_at (x ∷ xs) k) (item_at ys k)
      by true s rest = rw s refl
      by false s rest = rw s rest

  -- a test of what keys are to q keeps the item of a key, or doesn't
  pub at-kept : (f : Ordering → Bool) (q k : Key) (xs : List A) → item_at (kept_by key f q xs) k ≡ cond (f (key_cmp k q)) (item_at xs k) None
  at-kept f q k [] = sym (none (f (key_cmp k q)))
    where
      none : (b : Bool) → cond b (item_at [] k) None ≡ None
      none true = refl
      none false = refl
  at-kept f q k (x ∷ xs) = by (f (key_cmp (key x) q)) refl (is_eq (key_cmp (key x) k)) refl (at-kept f q k xs)
    where
      there : is_eq (key_cmp (key x) k) ≡ true → f (key_cmp k q) ≡ f (key_cmp (key x) q)
      there same = ap f (sym (key_cmp_total.congr (key x) k q ((Equal-is (key_cmp (key x) k)).0 same)))

      by : (stays : Bool) → f (key_cmp (key x) q) ≡ stays → (same : Bool) → is_eq (key_cmp (key x) k) ≡ same
          → item_at (kept_by key f q xs) k ≡ cond (f (key_cmp k q)) (item_at xs k) None
          → item_at (kept_by key f q (x ∷ xs)) k ≡ cond (f (key_cmp k q)) (item_at (x ∷ xs) k) None
      by true h true s rest = let passes = there s ∙ h in rw (h, s, passes) refl
      by true h false s rest = rw (h, s) rest
      by false h true s rest = let drops = there s ∙ h in rw (h, s, drops) (rest ∙ rw drops refl)
      by false h false s rest = rw (h, s) rest

  pub at-put : (xs : List A) (x : A) (k : Key) → item_at (put key xs x) k ≡ cond (is_eq (key_cmp (key x) k)) (Some x) (item_at xs k)
  unfolding put before behind
  at-put xs x k =
      at-append (kept_by key is_lt (key x) xs) (x ∷ kept_by key is_gt (key x) xs) k
      ∙ ap (λ o. either o (cond (is_eq (key_cmp (key x) k)) (Some x) (item_at (kept_by key is_gt (key x) xs) k))) (at-kept is_lt (key x) k xs)
      ∙ ap (λ o. either (cond (is_lt (key_cmp k (key x))) (item_at xs k) None) (cond (is_eq (key_cmp (key x) k)) (Some x) o)) (at-kept is_gt (key x) k xs)
      ∙ by (key_cmp k (key x)) refl
    where
      by : (o : Ordering) → key_cmp k (key x) ≡ o
          → either (cond (is_lt (key_cmp k (key x))) (item_at xs k) None) (cond (is_eq (key_cmp (key x) k)) (Some x) (cond (is_gt (key_cmp k (key x)))
          (item_at xs k) None))
          ≡ cond (is_eq (key_cmp (key x) k)) (Some x) (item_at xs k)
      by Less is = let back = turned k (key x) Less is in rw (is, back) (either-none (item_at xs k))
      by Equal is = let back = turned k (key x) Equal is in rw (is, back) refl
      by Greater is = let back = turned k (key x) Greater is in rw (is, back) refl

  -- ---- a key that stands before all isn't there
  pub at-none : (xs : List A) (k : Key) → AllByRecursion (λ y. key_cmp k (key y) ≡ Less) xs → item_at xs k ≡ None
  at-none [] k all = refl
  at-none (x ∷ xs) k all = let back = turned k (key x) Less all.0 in rw back (at-none xs k all.1)

  pub at-lacks : (xs : List A) (k : Key) → has_key key xs k ≡ false → item_at xs k ≡ None
  unfolding has_key
  at-lacks [] k lacks = refl
  at-lacks (x ∷ xs) k lacks =
      let both = or_parts (is_eq (key_cmp (key x) k)) (has_key key xs k) lacks in
      rw both.0 (at-lacks xs k both.1)

  same_item : (x : A) → is_eq (key_cmp (key x) (key x)) ≡ true
  same_item x = ap is_eq (tied_itself key_cmp_total (key x))

  -- ---- lists in order that have the same under each key are the same
  tails : (x : A) (xs ys : List A) → AllByRecursion (λ y. key_cmp (key x) (key y) ≡ Less) xs
      → AllByRecursion (λ y. key_cmp (key x) (key y) ≡ Less) ys
      → ((k : Key) → item_at (x ∷ xs) k ≡ item_at (x ∷ ys) k) → (k : Key) → item_at xs k ≡ item_at ys k
  tails x xs ys low_x low_y same k = by (is_eq (key_cmp (key x) k)) refl
    where
      by : (here : Bool) → is_eq (key_cmp (key x) k) ≡ here → item_at xs k ≡ item_at ys k
      by true s =
          let is = level_keys (key x) k ((Equal-is (key_cmp (key x) k)).0 s) in
          subst (λ (q : Key). item_at xs q ≡ item_at ys q) is (at-none xs (key x) low_x ∙ sym (at-none ys (key x) low_y))
      by false s =
          sym (ap (λ b. cond b (Some x) (item_at xs k)) s) ∙ same k ∙ ap (λ b. cond b (Some x) (item_at ys k)) s

  lower : (x y : A) (ys : List A) → key_cmp (key x) (key y) ≡ Less → AllByRecursion (λ z. key_cmp (key y) (key z) ≡ Less) ys
      → AllByRecursion (λ z. key_cmp (key x) (key z) ≡ Less) ys
  lower x y [] less all = tt
  lower x y (z ∷ ys) less all = (key_cmp_total.trans (key x) (key y) (key z) less all.0, lower x y ys less all.1)

  pub all-lower : (k q : Key) (ys : List A) → key_cmp k q ≡ Less → AllByRecursion (λ z. key_cmp q (key z) ≡ Less) ys
      → AllByRecursion (λ z. key_cmp k (key z) ≡ Less) ys
  all-lower k q [] less all = tt
  all-lower k q (z ∷ ys) less all = (key_cmp_total.trans k q (key z) less all.0, all-lower k q ys less all.1)

  -- an item whose key stands before all of a list in order isn't in it
  not_lower : (x : A) (xs : List A) (y : A) (ys : List A) → IsInOrder key (y ∷ ys) → key_cmp (key x) (key y) ≡ Less
      → item_at (x ∷ xs) (key x) ≡ item_at (y ∷ ys) (key x) → ⊥
  unfolding IsInOrder
  not_lower x xs y ys order less same =
      let here : item_at (x ∷ xs) (key x) ≡ Some x = ap (λ b. cond b (Some x) (item_at xs (key x))) (same_item x) in
      some_none (sym here ∙ same ∙ at-none (y ∷ ys) (key x) (less, lower x y ys less order.0))

  pub all_same : (xs ys : List A) → IsInOrder key xs → IsInOrder key ys → ((k : Key) → item_at xs k ≡ item_at ys k) → xs ≡ ys
  unfolding IsInOrder
  all_same [] [] ox oy same = refl
  all_same [] (y ∷ ys) ox oy same =
      absurd (some_none (sym (ap (λ b. cond b (Some y) (item_at ys (key y))) (same_item y)) ∙ sym (same (key y))))
  all_same (x ∷ xs) [] ox oy same =
      absurd (some_none (sym (ap (λ b. cond b (Some x) (item_at xs (key x))) (same_item x)) ∙ same (key x)))
  all_same (x ∷ xs) (y ∷ ys) ox oy same = by (key_cmp (key x) (key y)) refl (all_same xs ys ox.1 oy.1)
    where
      by : (o : Ordering) → key_cmp (key x) (key y) ≡ o → (((k : Key) → item_at xs k ≡ item_at ys k) → xs ≡ ys) → x ∷ xs ≡ y ∷ ys
      by Less is rest = absurd (not_lower x xs y ys oy is (same (key x)))
      by Equal is rest =
          let back = ap is_eq (turned (key x) (key y) Equal is) in
          let one : x ≡ y = some_is (sym (ap (λ b. cond b (Some x) (item_at xs (key x))) (same_item x)) ∙ same (key x)
          ∙ ap (λ b. cond b (Some y) (item_at ys (key x))) back) in
          let low = subst (λ (z : A). AllByRecursion (λ w. key_cmp (key z) (key w) ≡ Less) ys) (sym one) oy.0 in
          let alike = subst (λ (z : A). (k : Key) → item_at (x ∷ xs) k ≡ item_at (z ∷ ys) k) (sym one) same in
          ap (λ (z : A). z ∷ xs) one ∙ ap (λ (t : List A). y ∷ t) (rest (tails x xs ys ox.0 low alike))
      by Greater is rest = absurd (not_lower y ys x xs ox (turned (key x) (key y) Greater is) (sym (same (key y))))

  -- ---- what is put in a list in order keeps the order
  lt_is : (o : Ordering) → is_lt o ≡ true → o ≡ Less
  lt_is Less e = refl
  lt_is Equal e = absurd (apart e)
    where
      apart : false ≡ true → ⊥
      apart e = cc
  lt_is Greater e = absurd (apart e)
    where
      apart : false ≡ true → ⊥
      apart e = cc

  gt_is : (o : Ordering) → is_gt o ≡ true → o ≡ Greater
  gt_is Greater e = refl
  gt_is Equal e = absurd (apart e)
    where
      apart : false ≡ true → ⊥
      apart e = cc
  gt_is Less e = absurd (apart e)
    where
      apart : false ≡ true → ⊥
      apart e = cc

  -- what a test keeps stands as the test says
  stand : (f : Ordering → Bool) (o : Ordering) → ((p : Ordering) → f p ≡ true → p ≡ o) → (k : Key) (xs : List A) → AllStand key (kept_by key f k xs) k o
  stand f o says k [] = tt
  stand f o says k (x ∷ xs) = by (f (key_cmp (key x) k)) refl (stand f o says k xs)
    where
      by : (stays : Bool) → f (key_cmp (key x) k) ≡ stays → AllStand key (kept_by key f k xs) k o → AllStand key (kept_by key f k (x ∷ xs)) k o
      by true e rest = rw e (says (key_cmp (key x) k) e, rest)
      by false e rest = rw e rest

  pub all-join : (P : A → Type 0) (xs ys : List A) → AllByRecursion P xs → AllByRecursion P ys → AllByRecursion P (xs ++ ys)
  all-join P [] ys p q = q
  all-join P (x ∷ xs) ys p q = (p.0, all-join P xs ys p.1 q)

  turn_all : (k : Key) (xs : List A) → AllStand key xs k Greater → AllByRecursion (λ y. key_cmp k (key y) ≡ Less) xs
  turn_all k [] all = tt
  turn_all k (x ∷ xs) all = (turned (key x) k Greater all.0, turn_all k xs all.1)

  pub joined_order : (l : List A) (h : A) (r : List A) → IsInOrder key l → IsInOrder key r → AllStand key l (key h) Less → AllStand key r (key h) Greater
      → IsInOrder key (l ++ h ∷ r)
  unfolding IsInOrder
  joined_order [] h r ol or less greater = (turn_all (key h) r greater, or)
  joined_order (x ∷ l) h r ol or less greater = (
    all-join (λ y. key_cmp (key x) (key y) ≡ Less) l (h ∷ r) ol.0 (less.0, lower x h r less.0 (turn_all (key h) r greater)),
    joined_order l h r ol.1 or less.1 greater,
  )

  pub put_order : (xs : List A) (x : A) → IsInOrder key xs → IsInOrder key (put key xs x)
  unfolding put before behind
  put_order xs x order =
      joined_order (kept_by key is_lt (key x) xs) x (kept_by key is_gt (key x) xs)
      (filter_in_order key (λ y. is_lt (key_cmp (key y) (key x))) xs order) (filter_in_order key (λ y. is_gt (key_cmp (key y) (key x))) xs order)
      (stand is_lt Less lt_is (key x) xs) (stand is_gt Greater gt_is (key x) xs)

  pub all_order : (xs ys : List A) → IsInOrder key xs → IsInOrder key (put_all key xs ys)
  unfolding put_all
  all_order xs [] order = order
  all_order xs (y ∷ ys) order = all_order (put key xs y) ys (put_order xs y order)

  -- ---- what is under a key of two lists
  pub at-all : (xs ys : List A) (k : Key) → IsInOrder key ys → item_at (put_all key xs ys) k ≡ either (item_at ys k) (item_at xs k)
  unfolding put_all IsInOrder
  at-all xs [] k order = refl
  at-all xs (y ∷ ys) k order =
      at-all (put key xs y) ys k order.1 ∙ ap (either (item_at ys k)) (at-put xs y k) ∙ by (is_eq (key_cmp (key y) k)) refl
    where
      by : (same : Bool) → is_eq (key_cmp (key y) k) ≡ same
          → either (item_at ys k) (cond (is_eq (key_cmp (key y) k)) (Some y) (item_at xs k)) ≡ either (item_at (y ∷ ys) k) (item_at xs k)
      by true s =
          let is = level_keys (key y) k ((Equal-is (key_cmp (key y) k)).0 s) in
          let none : item_at ys k ≡ None = subst (λ (q : Key). item_at ys q ≡ None) is (at-none ys (key y) order.0) in
          rw (s, none) refl
      by false s = rw s refl

  -- ---- a test of keys may come before or after
  pub all-kept : (f : Ordering → Bool) (k : Key) (xs ys : List A) → IsInOrder key xs → IsInOrder key ys
      → kept_by key f k (put_all key xs ys) ≡ put_all key (kept_by key f k xs) (kept_by key f k ys)
  all-kept f k xs ys ox oy =
      all_same (kept_by key f k (put_all key xs ys)) (put_all key (kept_by key f k xs) (kept_by key f k ys))
      (kept_order (put_all key xs ys) (all_order xs ys ox)) (all_order (kept_by key f k xs) (kept_by key f k ys) (kept_order xs ox))
      (λ q. at-kept f k q (put_all key xs ys) ∙ ap (λ o. cond (f (key_cmp q k)) o None) (at-all xs ys q oy)
      ∙ share (f (key_cmp q k)) (item_at ys q) (item_at xs q)
      ∙ ap (λ o. either o (cond (f (key_cmp q k)) (item_at xs q) None)) (sym (at-kept f k q ys))
      ∙ ap (either (item_at (kept_by key f k ys) q)) (sym (at-kept f k q xs))
      ∙ sym (at-all (kept_by key f k xs) (kept_by key f k ys) q (kept_order ys oy)))
    where
      kept_order : (zs : List A) → IsInOrder key zs → IsInOrder key (kept_by key f k zs)
      kept_order zs order = filter_in_order key (λ y. f (key_cmp (key y) k)) zs order

      share : (b : Bool) (o p : Option A) → cond b (either o p) None ≡ either (cond b o None) (cond b p None)
      share true o p = refl
      share false o p = refl

  pub all-without : (xs ys : List A) (k : Key) → IsInOrder key xs → IsInOrder key ys
      → without key (put_all key xs ys) k ≡ put_all key (without key xs k) (without key ys k)
  unfolding without
  all-without xs ys k ox oy = all-kept is_ne k xs ys ox oy

  -- ---- one more among the second, or among the first
  pub all-put : (xs ys : List A) (y : A) → IsInOrder key xs → IsInOrder key ys → put_all key xs (put key ys y) ≡ put key (put_all key xs ys) y
  all-put xs ys y ox oy =
      all_same (put_all key xs (put key ys y)) (put key (put_all key xs ys) y) (all_order xs (put key ys y) ox)
      (put_order (put_all key xs ys) y (all_order xs ys ox))
      (λ q. at-all xs (put key ys y) q (put_order ys y oy) ∙ ap (λ o. either o (item_at xs q)) (at-put ys y q)
      ∙ by (is_eq (key_cmp (key y) q)) (item_at ys q) (item_at xs q)
      ∙ ap (λ o. cond (is_eq (key_cmp (key y) q)) (Some y) o) (sym (at-all xs ys q oy))
      ∙ sym (at-put (put_all key xs ys) y q))
    where
      by : (b : Bool) (o p : Option A) → either (cond b (Some y) o) p ≡ cond b (Some y) (either o p)
      by true o p = refl
      by false o p = refl

  pub put-all : (xs ys : List A) (x : A) → IsInOrder key xs → IsInOrder key ys → has_key key ys (key x) ≡ false
      → put_all key (put key xs x) ys ≡ put key (put_all key xs ys) x
  put-all xs ys x ox oy lacks =
      all_same (put_all key (put key xs x) ys) (put key (put_all key xs ys) x) (all_order (put key xs x) ys (put_order xs x ox))
      (put_order (put_all key xs ys) x (all_order xs ys ox))
      (λ q. at-all (put key xs x) ys q oy ∙ ap (either (item_at ys q)) (at-put xs x q)
      ∙ by q (is_eq (key_cmp (key x) q)) refl
      ∙ ap (λ o. cond (is_eq (key_cmp (key x) q)) (Some x) o) (sym (at-all xs ys q oy))
      ∙ sym (at-put (put_all key xs ys) x q))
    where
      by : (q : Key) (b : Bool) → is_eq (key_cmp (key x) q) ≡ b
          → either (item_at ys q) (cond (is_eq (key_cmp (key x) q)) (Some x) (item_at xs q))
          ≡ cond (is_eq (key_cmp (key x) q)) (Some x) (either (item_at ys q) (item_at xs q))
      by q true s =
          let is = level_keys (key x) q ((Equal-is (key_cmp (key x) q)).0 s) in
          let none : item_at ys q ≡ None = subst (λ (k : Key). item_at ys k ≡ None) is (at-lacks ys (key x) lacks) in
          rw (s, none) refl
      by q false s = rw s refl

  -- ---- which keys are there
  has-item : (xs : List A) (k : Key) → has_key key xs k ≡ is_some (item_at xs k)
  unfolding has_key
  has-item [] k = refl
  has-item (x ∷ xs) k = by (is_eq (key_cmp (key x) k)) refl (has-item xs k)
    where
      by : (same : Bool) → is_eq (key_cmp (key x) k) ≡ same → has_key key xs k ≡ is_some (item_at xs k)
          → has_key key (x ∷ xs) k ≡ is_some (item_at (x ∷ xs) k)
      by true s rest = rw s refl
      by false s rest = rw s rest

  pub has-all : (xs ys : List A) (k : Key) → IsInOrder key ys → has_key key (put_all key xs ys) k ≡ (has_key key ys k || has_key key xs k)
  has-all xs ys k order =
      has-item (put_all key xs ys) k ∙ ap is_some (at-all xs ys k order) ∙ by (item_at ys k) (item_at xs k)
      ∙ ap (λ b. b || is_some (item_at xs k)) (sym (has-item ys k)) ∙ ap (λ b. has_key key ys k || b) (sym (has-item xs k))
    where
      by : (o p : Option A) → is_some (either o p) ≡ (is_some o || is_some p)
      by (Some x) p = refl
      by None p = refl

  -- ---- where it begins
  no_cut : (x : A) (xs : List A) → IsInOrder key (x ∷ xs) → IsCut key [] x xs
  no_cut x xs order = cut key [] x xs order

  pub first_left : (x : A) (xs ys : List A) → IsInOrder key (x ∷ xs) → AllByRecursion (λ y. key_cmp (key x) (key y) ≡ Less) ys
      → put_all key (x ∷ xs) ys ≡ x ∷ put_all key xs ys
  unfolding put_all
  first_left x xs [] order all = refl
  first_left x xs (y ∷ ys) order all =
      let next = put-high key [] x xs (no_cut x xs order) (key y) y refl (turned (key x) (key y) Less all.0) in
      ap (λ (t : List A). put_all key t ys) next
      ∙ first_left x (put key xs y) ys (subst (IsInOrder key) next (put_order (x ∷ xs) y order)) all.1

  put_first : (xs : List A) (y : A) → AllByRecursion (λ x. key_cmp (key y) (key x) ≡ Less) xs → put key xs y ≡ y ∷ xs
  unfolding put before behind
  put_first xs y all =
      let high = all-turned key (key y) xs all in
      ap (λ (t : List A). t ++ y ∷ kept_by key is_gt (key y) xs) (kept-none key is_lt (key y) Greater xs refl high)
      ∙ ap (λ (t : List A). y ∷ t) (kept-all key is_gt (key y) Greater xs refl high)

  pub first_right : (xs : List A) (y : A) (ys : List A) → IsInOrder key xs → IsInOrder key (y ∷ ys)
      → AllByRecursion (λ x. key_cmp (key y) (key x) ≡ Less) xs → put_all key xs (y ∷ ys) ≡ y ∷ put_all key xs ys
  unfolding put_all IsInOrder
  first_right xs y ys ox oy all =
      let next = put_first xs y all in
      ap (λ (t : List A). put_all key t ys) next ∙ first_left y xs ys (all, ox) oy.0

  pub first_both : (x : A) (xs : List A) (y : A) (ys : List A) → IsInOrder key (x ∷ xs) → IsInOrder key (y ∷ ys)
      → key_cmp (key y) (key x) ≡ Equal → put_all key (x ∷ xs) (y ∷ ys) ≡ y ∷ put_all key xs ys
  unfolding put_all IsInOrder
  first_both x xs y ys ox oy level =
      let next = put-level key [] x xs (no_cut x xs ox) (key y) y refl level in
      ap (λ (t : List A). put_all key t ys) next
      ∙ first_left y xs ys (subst (IsInOrder key) next (put_order (x ∷ xs) y ox)) oy.0

  -- ---- and where it ends
  pub last_left : (xs : List A) (x : A) (ys : List A) → IsInOrder key (xs ++ x ∷ []) → AllStand key ys (key x) Less
      → put_all key (xs ++ x ∷ []) ys ≡ put_all key xs ys ++ x ∷ []
  unfolding put_all
  last_left xs x [] order all = refl
  last_left xs x (y ∷ ys) order all =
      let next = put-low key xs x [] (cut key xs x [] order) (key y) y refl all.0 in
      ap (λ (t : List A). put_all key t ys) next
      ∙ last_left (put key xs y) x ys (subst (IsInOrder key) next (put_order (xs ++ x ∷ []) y order)) all.1

  all-append : (xs ys zs : List A) → put_all key xs (ys ++ zs) ≡ put_all key (put_all key xs ys) zs
  unfolding put_all
  all-append xs [] zs = refl
  all-append xs (y ∷ ys) zs = all-append (put key xs y) ys zs

  put_last : (zs : List A) (y : A) → AllStand key zs (key y) Less → put key zs y ≡ zs ++ y ∷ []
  unfolding put before behind
  put_last zs y low =
      ap (λ (t : List A). t ++ y ∷ kept_by key is_gt (key y) zs) (kept-all key is_lt (key y) Less zs refl low)
      ∙ ap (λ (t : List A). zs ++ y ∷ t) (kept-none key is_gt (key y) Less zs refl low)

  put_stands : (k : Key) (o : Ordering) (xs : List A) (y : A) → AllStand key xs k o → key_cmp (key y) k ≡ o → AllStand key (put key xs y) k o
  unfolding put before behind
  put_stands k o xs y all here =
      all-join (λ x. key_cmp (key x) k ≡ o) (kept_by key is_lt (key y) xs) (y ∷ kept_by key is_gt (key y) xs)
      (all-filter key (λ x. key_cmp (key x) k ≡ o) (λ x. is_lt (key_cmp (key x) (key y))) xs all)
      (here, all-filter key (λ x. key_cmp (key x) k ≡ o) (λ x. is_gt (key_cmp (key x) (key y))) xs all)

  pub all_stand : (k : Key) (o : Ordering) (xs ys : List A) → AllStand key xs k o → AllStand key ys k o → AllStand key (put_all key xs ys) k o
  unfolding put_all
  all_stand k o xs [] p q = p
  all_stand k o xs (y ∷ ys) p q = all_stand k o (put key xs y) ys (put_stands k o xs y p q.0) q.1

  pub last_right : (xs ys : List A) (y : A) → IsInOrder key (ys ++ y ∷ []) → AllStand key xs (key y) Less
      → put_all key xs (ys ++ y ∷ []) ≡ put_all key xs ys ++ y ∷ []
  unfolding put_all
  last_right xs ys y order all =
      all-append xs ys (y ∷ []) ∙ put_last (put_all key xs ys) y (all_stand (key y) Less xs ys all (cut key ys y [] order).less)

  pub last_both : (xs : List A) (x : A) (ys : List A) (y : A) → IsInOrder key (xs ++ x ∷ []) → IsInOrder key (ys ++ y ∷ [])
      → key_cmp (key y) (key x) ≡ Equal → put_all key (xs ++ x ∷ []) (ys ++ y ∷ []) ≡ put_all key xs ys ++ y ∷ []
  unfolding put_all
  last_both xs x ys y ox oy level =
      let one : key y ≡ key x = level_keys (key y) (key x) level in
      let low = subst (λ (k : Key). AllStand key ys k Less) one (cut key ys y [] oy).less in
      let next = last_left xs x ys ox low in
      let order = subst (IsInOrder key) next (all_order (xs ++ x ∷ []) ys ox) in
      all-append (xs ++ x ∷ []) ys (y ∷ []) ∙ ap (λ (t : List A). put key t y) next
      ∙ put-level key (put_all key xs ys) x [] (cut key (put_all key xs ys) x [] order) (key y) y refl level

  -- ---- how many there are
  put_length : (xs : List A) (x : A) → IsInOrder key xs → length (put key xs x) ≤ length xs + 1
  unfolding put before behind
  put_length xs x order =
      omega (
        arith,
        length-append (kept_by key is_lt (key x) xs) (x ∷ kept_by key is_gt (key x) xs),
        length-append (kept_by key is_lt (key x) xs) (kept_by key is_gt (key x) xs),
        ap length (around key xs (key x) order),
        length_without key xs (key x),
      )

  pub all_length : (xs ys : List A) → IsInOrder key xs → length (put_all key xs ys) ≤ length xs + length ys
  unfolding put_all
  all_length xs [] order = omega arith
  all_length xs (y ∷ ys) order =
      let rest = all_length (put key xs y) ys (put_order xs y order) in
      omega (arith, rest, put_length xs y order)

  -- what is left is in order where all was
  pub rest_order : (end : End) (x : A) (xs : List A) → IsInOrder key (at_end end x xs) → IsInOrder key xs
  unfolding IsInOrder
  rest_order First x xs order = order.1
  rest_order Last x xs order = (cut key xs x [] order).left

  pub none_order : IsInOrder key []
  unfolding IsInOrder
  none_order = tt

  pub taken_order : (end : End) (o : Option A) (xs ys : List A) → Takes end xs o ys → IsInOrder key xs → IsInOrder key ys
  taken_order end None xs ys step order = subst (IsInOrder key) (sym step.1) none_order
  taken_order end (Some x) xs ys step order = rest_order end x ys (subst (IsInOrder key) step order)

  -- ---- a key that stands nearer to an end than all others
  module _ (k : Key) where
    pub none_comes : (end : End) → ComesAt key end k [] []
    unfolding IsInOrder
    none_comes First y ys is order = first_right [] y ys tt order tt
    none_comes Last y ys is order = last_right [] ys y order tt

    pub farther_comes : (end : End) (x : A) (xs : List A) → IsInOrder key (at_end end x xs) → seen_from end (key_cmp (key x) k) ≡ Greater
        → ComesAt key end k (at_end end x xs) (at_end end x xs)
    unfolding IsInOrder
    farther_comes First x xs ox far y ys is order =
        let low : key_cmp (key y) (key x) ≡ Less = ap (λ (q : Key). key_cmp q (key x)) is ∙ turned (key x) k Greater far in
        first_right (x ∷ xs) y ys ox order (low, lower y x xs low ox.0)
    farther_comes Last x xs ox far y ys is order =
        let low : key_cmp (key x) (key y) ≡ Less = ap (key_cmp (key x)) is ∙ unreversed (key_cmp (key x) k) Greater far in
        last_right (xs ++ x ∷ []) ys y order (all-join (λ z. key_cmp (key z) (key y) ≡ Less) xs (x ∷ [])
        (all-less key xs (key x) (key y) (cut key xs x [] ox).less low) (low, tt))

    pub level_comes : (end : End) (x : A) (xs : List A) → IsInOrder key (at_end end x xs) → seen_from end (key_cmp (key x) k) ≡ Equal
        → ComesAt key end k (at_end end x xs) xs
    level_comes First x xs ox level y ys is order =
        first_both x xs y ys ox order (ap (λ (q : Key). key_cmp q (key x)) is ∙ turned (key x) k Equal level)
    level_comes Last x xs ox level y ys is order =
        last_both xs x ys y ox order
        (ap (λ (q : Key). key_cmp q (key x)) is ∙ turned (key x) k Equal (unreversed (key_cmp (key x) k) Equal level))

  pub all_alone : (ys : List A) → IsInOrder key ys → put_all key [] ys ≡ ys
  unfolding put_all IsInOrder
  all_alone [] order = refl
  all_alone (y ∷ ys) order = first_right [] y ys tt order tt ∙ ap (λ (t : List A). y ∷ t) (all_alone ys order.1)

  -- ---- a step from an end, where the first list has the item there
  nearest : (end : End) (x : A) (xs : List A) (y : A) (ys : List A) → IsInOrder key (at_end end x xs) → IsInOrder key (at_end end y ys)
      → seen_from end (key_cmp (key x) (key y)) ≡ Less
      → put_all key (at_end end x xs) (at_end end y ys) ≡ at_end end x (put_all key xs (at_end end y ys))
  unfolding IsInOrder
  nearest First x xs y ys ox oy near = first_left x xs (y ∷ ys) ox (near, lower x y ys near oy.0)
  nearest Last x xs y ys ox oy near =
      let low = turned (key x) (key y) Greater (unreversed (key_cmp (key x) (key y)) Less near) in
      last_left xs x (ys ++ y ∷ []) ox (all-join (λ z. key_cmp (key z) (key x) ≡ Less) ys (y ∷ [])
      (all-less key ys (key y) (key x) (cut key ys y [] oy).less low) (low, tt))

  module _ (end : End) (l l2 f : List A) where
    pub step_nearer : (x y : A) (ys f2 : List A) → l ≡ at_end end x l2 → f ≡ at_end end y ys → IsInOrder key l → IsInOrder key f
        → seen_from end (key_cmp (key x) (key y)) ≡ Less → f2 ≡ f → put_all key l f ≡ at_end end x (put_all key l2 f2)
    step_nearer x y ys f2 is second order second_order near same =
        ap (λ (t : List A). put_all key t f) is ∙ ap (put_all key (at_end end x l2)) second
        ∙ nearest end x l2 y ys (subst (IsInOrder key) is order) (subst (IsInOrder key) second second_order) near
        ∙ ap (λ (t : List A). at_end end x (put_all key l2 t)) (sym (same ∙ second))

    -- and where the second has it
    pub step_second : (k : Key) (y : A) (ys : List A) → ComesAt key end k l l2 → k ≡ key y → f ≡ at_end end y ys → IsInOrder key f
        → put_all key l f ≡ at_end end y (put_all key l2 ys)
    step_second k y ys comes is second order = ap (put_all key l) second ∙ comes y ys (sym is) (subst (IsInOrder key) second order)

    -- and where the second has none left
    pub step_alone : (o : Option A) (f2 : List A) → f ≡ [] → f2 ≡ [] → Takes end l o l2 → Takes end (put_all key l f) o (put_all key l2 f2)
    unfolding put_all
    step_alone o f2 none none2 step = rw (none, none2) step

-- ---- lists whose items have the same keys
module _ {A B : Type 0} (key : A → Key) (other : B → Key) (f : A → B) (same : (x : A) → other (f x) ≡ key x) where
  pub map-kept : (t : Ordering → Bool) (k : Key) (xs : List A) → map f (kept_by key t k xs) ≡ kept_by other t k (map f xs)
  map-kept t k [] = refl
  map-kept t k (x ∷ xs) = by (t (key_cmp (key x) k)) refl (map-kept t k xs)
    where
      by : (stays : Bool) → t (key_cmp (key x) k) ≡ stays → map f (kept_by key t k xs) ≡ kept_by other t k (map f xs)
          → map f (kept_by key t k (x ∷ xs)) ≡ kept_by other t k (map f (x ∷ xs))
      by true s rest = let there = ap (λ (q : Key). t (key_cmp q k)) (same x) ∙ s in rw (s, there) (ap (λ (ys : List B). f x ∷ ys) rest)
      by false s rest = let there = ap (λ (q : Key). t (key_cmp q k)) (same x) ∙ s in rw (s, there) rest

  pub map-put : (xs : List A) (x : A) → map f (put key xs x) ≡ put other (map f xs) (f x)
  unfolding put before behind
  map-put xs x =
      map-append f (kept_by key is_lt (key x) xs) (x ∷ kept_by key is_gt (key x) xs)
      ∙ ap (λ (t : List B). t ++ f x ∷ map f (kept_by key is_gt (key x) xs)) (map-kept is_lt (key x) xs)
      ∙ ap (λ (t : List B). kept_by other is_lt (key x) (map f xs) ++ f x ∷ t) (map-kept is_gt (key x) xs)
      ∙ ap (λ (k : Key). kept_by other is_lt k (map f xs) ++ f x ∷ kept_by other is_gt k (map f xs)) (sym (same x))

  pub map-without : (xs : List A) (k : Key) → map f (without key xs k) ≡ without other (map f xs) k
  unfolding without
  map-without xs k = map-kept is_ne k xs

  pub map-has : (xs : List A) (k : Key) → has_key other (map f xs) k ≡ has_key key xs k
  unfolding has_key
  map-has [] k = refl
  map-has (x ∷ xs) k =
      ap (λ (q : Key). is_eq (key_cmp q k) || has_key other (map f xs) k) (same x)
      ∙ ap (λ b. is_eq (key_cmp (key x) k) || b) (map-has xs k)

  map-all : (k : Key) (xs : List A) → AllByRecursion (λ x. key_cmp k (key x) ≡ Less) xs → AllByRecursion (λ y. key_cmp k (other y) ≡ Less) (map f xs)
  map-all k [] all = tt
  map-all k (x ∷ xs) all = (ap (key_cmp k) (same x) ∙ all.0, map-all k xs all.1)

  pub map-order : (xs : List A) → IsInOrder key xs → IsInOrder other (map f xs)
  unfolding IsInOrder
  map-order [] order = tt
  map-order (x ∷ xs) order =
      (subst (λ (k : Key). AllByRecursion (λ y. key_cmp k (other y) ≡ Less) (map f xs)) (sym (same x)) (map-all (key x) xs order.0), map-order xs order.1)
