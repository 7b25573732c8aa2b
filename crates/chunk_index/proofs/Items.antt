-- Changes of the tags of items, one after another.
use Rattle.std.proofs.Common.{◌≡◌, ◌+◌, ◌≤◌, ℕ, Bool, true, false, cond, ◌&&◌, ◌||◌, [], ◌∷◌, ◌++◌, length, Option, Some, None, unwrap_or, refl, sym, ap, ◌∙◌, arith}
use Rattle.std.proofs.lemmas.List.{map-append}
use Rattle.std.specs.declared.cmp.Ordering.{Ordering}
use Rattle.std.specs.declared.cmp.Ordering.TheVariants.{Less, Equal, Greater}
use Rattle.std.specs.Ordering.{is_eq, is_ne, is_lt, is_gt}
use Rattle.std.specs.Cmp.{tied_itself}
use Rattle.std.proofs.lemmas.Bool.{or_parts}
use Rattle.chunk_index.specs.declared.entry.Entry.{Entry}
use Rattle.chunk_index.specs.declared.entry.Tag.{Tag}
use Rattle.chunk_index.specs.declared.entry.Tag.TheVariants.{Both, MainOnly, TopOnly}
use Rattle.chunk_index.specs.declared.key.Key.{Key}
use Rattle.chunk_index.specs.KeyOrder.{key_cmp}
use Rattle.chunk_index.specs.KeyLaws.{key_cmp_total, level_keys}
use Rattle.chunk_index.specs.Keys.{key_of, has_key, before, behind, put, without}
use Rattle.chunk_index.specs.Items.{Items, item_key, AreInOrder, found, tag_set, same_tag, entries_by}
use Rattle.chunk_index.proofs.Lists.{kept_by, IsCut, cut, put-level, put-high, has-low, lacks-level, length_without}
use Rattle.chunk_index.proofs.Changes.{has-kept}
use Rattle.chunk_index.proofs.Maps.{same_test}
use Rattle.chunk_index.proofs.Tags.{entries-without, entries-set}

none_some : {A : Type 0} (a : A) → None ≡ Some a → ⊥
none_some a e = cc

itself : (k : Key) → is_eq (key_cmp k k) ≡ true
itself k = ap is_eq (tied_itself key_cmp_total k)

-- ---- where a key is missing, nothing is set or found
pub tag-none : (xs : Items) (k : Key) (t : Tag) → has_key item_key xs k ≡ false → tag_set xs k t ≡ xs
unfolding tag_set has_key
tag-none [] k t lacks = refl
tag-none (x ∷ xs) k t lacks =
    let both = or_parts (is_eq (key_cmp (item_key x) k)) (has_key item_key xs k) lacks in
    rw both.0 (ap (λ (s : Items). x ∷ s) (tag-none xs k t both.1))

found-past : (xs ys : Items) (k : Key) → has_key item_key xs k ≡ false → found (xs ++ ys) k ≡ found ys k
unfolding found has_key
found-past [] ys k lacks = refl
found-past (x ∷ xs) ys k lacks =
    let both = or_parts (is_eq (key_cmp (item_key x) k)) (has_key item_key xs k) lacks in
    rw both.0 (found-past xs ys k both.1)

-- ---- a tag that is set twice
pub tag-twice : (xs : Items) (k : Key) (a b : Tag) → tag_set (tag_set xs k a) k b ≡ tag_set xs k b
unfolding tag_set
tag-twice [] k a b = refl
tag-twice (x ∷ xs) k a b = by (is_eq (key_cmp (item_key x) k)) refl (tag-twice xs k a b)
  where
    by : (same : Bool) → is_eq (key_cmp (item_key x) k) ≡ same → tag_set (tag_set xs k a) k b ≡ tag_set xs k b
        → tag_set (tag_set (x ∷ xs) k a) k b ≡ tag_set (x ∷ xs) k b
    by true is rest = rw is (rw is (ap (λ (s : Items). (x.0, b) ∷ s) rest))
    by false is rest = rw is (rw is (ap (λ (s : Items). x ∷ s) rest))

-- ---- and then the entry is taken out
pub without-tag : (xs : Items) (k : Key) (a : Tag) → without item_key (tag_set xs k a) k ≡ without item_key xs k
unfolding tag_set without
without-tag [] k a = refl
without-tag (x ∷ xs) k a = by (key_cmp (item_key x) k) refl (without-tag xs k a)
  where
    by : (o : Ordering) → key_cmp (item_key x) k ≡ o → without item_key (tag_set xs k a) k ≡ without item_key xs k
        → without item_key (tag_set (x ∷ xs) k a) k ≡ without item_key (x ∷ xs) k
    by Less is rest =
        let first = ap is_eq is in
        let second = ap is_ne is in
        rw first (rw second (ap (λ (s : Items). x ∷ s) rest))
    by Equal is rest =
        let first = ap is_eq is in
        let second = ap is_ne is in
        rw first (rw second rest)
    by Greater is rest =
        let first = ap is_eq is in
        let second = ap is_ne is in
        rw first (rw second (ap (λ (s : Items). x ∷ s) rest))

-- ---- what was put
kept-lacks : (f : Ordering → Bool) → f Equal ≡ false → (k : Key) (xs : Items) → has_key item_key (kept_by item_key f k xs) k ≡ false
kept-lacks f drops k xs =
    has-kept item_key f k k xs ∙ ap (λ b. b && has_key item_key xs k) (ap f (tied_itself key_cmp_total k) ∙ drops)

tag-past : (xs ys : Items) (k : Key) (t : Tag) → tag_set (xs ++ ys) k t ≡ tag_set xs k t ++ tag_set ys k t
unfolding tag_set
tag-past xs ys k t = map-append (λ i. cond (is_eq (key_cmp (item_key i) k)) (i.0, t) i) xs ys

tag-first : (ys : Items) (e : Entry) (a b : Tag) → has_key item_key ys (key_of e) ≡ false → tag_set ((e, a) ∷ ys) (key_of e) b ≡ (e, b) ∷ ys
unfolding tag_set
tag-first ys e a b lacks = let here = itself (key_of e) in rw here (ap (λ (s : Items). (e, b) ∷ s) (tag-none ys (key_of e) b lacks))

pub tag-put : (xs : Items) (e : Entry) (a b : Tag) → tag_set (put item_key xs (e, a)) (key_of e) b ≡ put item_key xs (e, b)
unfolding put before behind
tag-put xs e a b =
    tag-past (kept_by item_key is_lt (key_of e) xs) ((e, a) ∷ kept_by item_key is_gt (key_of e) xs) (key_of e) b
    ∙ ap (λ (s : Items). s ++ tag_set ((e, a) ∷ kept_by item_key is_gt (key_of e) xs) (key_of e) b)
    (tag-none (kept_by item_key is_lt (key_of e) xs) (key_of e) b (kept-lacks is_lt refl (key_of e) xs))
    ∙ ap (λ (s : Items). kept_by item_key is_lt (key_of e) xs ++ s)
    (tag-first (kept_by item_key is_gt (key_of e) xs) e a b (kept-lacks is_gt refl (key_of e) xs))

found-first : (ys : Items) (e : Entry) (a : Tag) → found ((e, a) ∷ ys) (key_of e) ≡ Some (e.number, a)
unfolding found
found-first ys e a = let here = itself (key_of e) in rw here refl

pub found-put : (xs : Items) (e : Entry) (a : Tag) → found (put item_key xs (e, a)) (key_of e) ≡ Some (e.number, a)
unfolding put before behind
found-put xs e a =
    found-past (kept_by item_key is_lt (key_of e) xs) ((e, a) ∷ kept_by item_key is_gt (key_of e) xs) (key_of e) (kept-lacks is_lt refl (key_of e) xs)
    ∙ found-first (kept_by item_key is_gt (key_of e) xs) e a

-- ---- a key under which something is found is there, and is found with the tag that is set
pub has-found : (xs : Items) (k : Key) (x : ℕ × Tag) → found xs k ≡ Some x → has_key item_key xs k ≡ true
unfolding has_key found
has-found [] k x at = absurd (none_some x at)
has-found (i ∷ xs) k x at = by (is_eq (key_cmp (item_key i) k)) refl (has-found xs k x)
  where
    by : (here : Bool) → is_eq (key_cmp (item_key i) k) ≡ here → (found xs k ≡ Some x → has_key item_key xs k ≡ true)
        → has_key item_key (i ∷ xs) k ≡ true
    by true is rest = rw is refl
    by false is rest =
        rw is (rest (sym (ap (λ b. cond b (Some (i.0.number, i.1)) (found xs k)) is) ∙ at))

-- and what is there is found
pub finds : (xs : Items) (k : Key) → has_key item_key xs k ≡ true → (n : ℕ) × ((a : Tag) × (found xs k ≡ Some (n, a)))
unfolding has_key found
finds [] k there = absurd (apart there)
  where
    apart : false ≡ true → ⊥
    apart e = cc
finds (i ∷ xs) k there = by (is_eq (key_cmp (item_key i) k)) refl (finds xs k)
  where
    by : (here : Bool) → is_eq (key_cmp (item_key i) k) ≡ here
        → (has_key item_key xs k ≡ true → (n : ℕ) × ((a : Tag) × (found xs k ≡ Some (n, a)))) → (n : ℕ) × ((a : Tag) × (found (i ∷ xs) k ≡ Some (n, a)))
    by true is rest = (i.0.number, (i.1, rw is refl))
    by false is rest =
        let later = rest (sym (ap (λ b. b || has_key item_key xs k) is) ∙ there) in
        (later.0, (later.1.0, ap (λ b. cond b (Some (i.0.number, i.1)) (found xs k)) is ∙ later.1.1))

number_of : {n m : ℕ} {a b : Tag} → ◌≡◌ {A = Option (ℕ × Tag)} (Some (n, a)) (Some (m, b)) → n ≡ m
number_of {n} {m} {a} {b} e = ap (λ (o : Option (ℕ × Tag)). (unwrap_or o (n, a)).0) e

pub found-tag : (xs : Items) (k : Key) (n : ℕ) (a b : Tag) → found xs k ≡ Some (n, a) → found (tag_set xs k b) k ≡ Some (n, b)
unfolding found tag_set
found-tag [] k n a b at = absurd (none_some (n, a) at)
found-tag (i ∷ xs) k n a b at = by (is_eq (key_cmp (item_key i) k)) refl (found-tag xs k n a b)
  where
    by : (here : Bool) → is_eq (key_cmp (item_key i) k) ≡ here → (found xs k ≡ Some (n, a) → found (tag_set xs k b) k ≡ Some (n, b))
        → found (tag_set (i ∷ xs) k b) k ≡ Some (n, b)
    by true is rest =
        let same : i.0.number ≡ n = number_of (sym (ap (λ c. cond c (Some (i.0.number, i.1)) (found xs k)) is) ∙ at) in
        rw is (rw is (ap (λ m. Some (m, b)) same))
    by false is rest =
        rw is (rw is (rest (sym (ap (λ c. cond c (Some (i.0.number, i.1)) (found xs k)) is) ∙ at)))

-- ---- a tag set at an entry that is there is the entry put anew
same_entry : (d e : Entry) → key_of d ≡ key_of e → d.number ≡ e.number → d ≡ e
same_entry d e keys numbers =
    let built : of_key (key_of d) d.number ≡ of_key (key_of e) e.number = ap (λ (k : Key). of_key k d.number) keys ∙ ap (of_key (key_of e)) numbers in
    built
  where
    of_key : Key → ℕ → Entry
    of_key k n = record { rate = k.rate; serial = k.serial; position = k.position; number = n }

nothing : (k : Key) → has_key item_key [] k ≡ true → ⊥
unfolding has_key
nothing k e = cc

pub tag-moves : (xs : Items) (e : Entry) (a b : Tag) → AreInOrder xs → found xs (key_of e) ≡ Some (e.number, a) → tag_set xs (key_of e) b
    ≡ put item_key xs (e, b)
unfolding tag_set found
tag-moves [] e a b order at = absurd (none_some (e.number, a) at)
tag-moves (i ∷ xs) e a b order at = by (key_cmp (key_of e) (item_key i)) refl (tag-moves xs e a b c.right)
  where
    c : IsCut item_key [] i xs
    c = cut item_key [] i xs order

    by : (o : Ordering) → key_cmp (key_of e) (item_key i) ≡ o → (found xs (key_of e) ≡ Some (e.number, a) → tag_set xs (key_of e) b
        ≡ put item_key xs (e, b)) → tag_set (i ∷ xs) (key_of e) b ≡ put item_key (i ∷ xs) (e, b)
    by Less is rest =
        let lacks = has-low item_key [] i xs c (key_of e) is in
        let there = has-found (i ∷ xs) (key_of e) (e.number, a) at in
        absurd (nothing (key_of e) (sym lacks ∙ there))
    by Equal is rest =
        let tested = same_test (key_of e) (item_key i) ∙ ap is_eq is in
        let number : i.0.number ≡ e.number = number_of (sym (ap (λ d. cond d (Some (i.0.number, i.1)) (found xs (key_of e))) tested) ∙ at) in
        let entry : i.0 ≡ e = same_entry i.0 e (sym (level_keys (key_of e) (item_key i) is)) number in
        rw tested (ap (λ (x : Entry). (x, b) ∷ tag_set xs (key_of e) b) entry
        ∙ ap (λ (s : Items). (e, b) ∷ s) (tag-none xs (key_of e) b (lacks-level item_key [] i xs c (key_of e) is))
        ∙ sym (put-level item_key [] i xs c (key_of e) (e, b) refl is))
    by Greater is rest =
        let tested = same_test (key_of e) (item_key i) ∙ ap is_eq is in
        rw tested (ap (λ (s : Items). i ∷ s) (rest (sym (ap (λ d. cond d (Some (i.0.number, i.1)) (found xs (key_of e))) tested) ∙ at))
        ∙ sym (put-high item_key [] i xs c (key_of e) (e, b) refl is))

-- ---- how many stand in one level alone
pub two-tags : (xs : Items) → length (entries_by (same_tag MainOnly) xs) + length (entries_by (same_tag TopOnly) xs) ≤ length xs
unfolding entries_by
two-tags [] = omega arith
two-tags (x ∷ xs) = by x.1 refl (two-tags xs)
  where
    by : (t : Tag) → x.1 ≡ t → length (entries_by (same_tag MainOnly) xs) + length (entries_by (same_tag TopOnly) xs) ≤ length xs
        → length (entries_by (same_tag MainOnly) (x ∷ xs)) + length (entries_by (same_tag TopOnly) (x ∷ xs)) ≤ length (x ∷ xs)
    by Both is rest = rw is (omega (arith, rest))
    by MainOnly is rest = rw is (omega (arith, rest))
    by TopOnly is rest = rw is (omega (arith, rest))

pub less_without : (xs : Items) (k : Key) → has_key item_key xs k ≡ true → length (without item_key xs k) + 1 ≤ length xs
unfolding without has_key
less_without [] k there = absurd (apart there)
  where
    apart : false ≡ true → ⊥
    apart e = cc
less_without (x ∷ xs) k there = by (key_cmp (item_key x) k) refl (length_without item_key xs k) (less_without xs k)
  where
    other : (o : Ordering) → key_cmp (item_key x) k ≡ o → is_eq o ≡ false → is_ne o ≡ true → (has_key item_key xs k ≡ true
        → length (without item_key xs k) + 1 ≤ length xs) → length (without item_key (x ∷ xs) k) + 1 ≤ length (x ∷ xs)
    other o is not_eq ne rest =
        let first = ap is_eq is ∙ not_eq in
        let second = ap is_ne is ∙ ne in
        let fewer = rest (sym (ap (λ b. b || has_key item_key xs k) first) ∙ there) in
        rw second (omega (arith, fewer))

    by : (o : Ordering) → key_cmp (item_key x) k ≡ o → length (without item_key xs k) ≤ length xs → (has_key item_key xs k ≡ true
        → length (without item_key xs k) + 1 ≤ length xs) → length (without item_key (x ∷ xs) k) + 1 ≤ length (x ∷ xs)
    by Less is few rest = other Less is refl refl rest
    by Equal is few rest = let second = ap is_ne is in rw second (omega (arith, few))
    by Greater is few rest = other Greater is refl refl rest

-- an entry that stands in both levels is none of them
pub two-tags-less : (xs : Items) (k : Key) → has_key item_key xs k ≡ true → tag_set xs k Both ≡ xs
    → length (entries_by (same_tag MainOnly) xs) + length (entries_by (same_tag TopOnly) xs) + 1 ≤ length xs
two-tags-less xs k there shared =
    omega (arith, ap length (out (same_tag MainOnly) refl), ap length (out (same_tag TopOnly) refl), two-tags (without item_key xs k), less_without xs k there)
  where
    out : (p : Tag → Bool) → p Both ≡ false → entries_by p xs ≡ entries_by p (without item_key xs k)
    out p drops = sym (ap (entries_by p) shared) ∙ entries-set p xs k Both drops ∙ sym (entries-without p xs k)
