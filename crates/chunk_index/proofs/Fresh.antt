-- What each change of the numbers, of the trees and of the fresh entries is on all items.
use Rattle.std.proofs.Common.{◌≡◌, ℕ, Bool, true, false, cond, ◌&&◌, ◌||◌, not, List, [], ◌∷◌, map, Option, Some, None, option_map, is_some, unwrap_or, refl, sym, ap, ◌∙◌, subst}
use Rattle.std.specs.List.{AllByRecursion}
use Rattle.std.specs.declared.cmp.Ordering.TheVariants.{Equal}
use Rattle.std.specs.Ordering.{is_eq}
use Rattle.std.specs.Cmp.{Equal-is, tied_itself}
use Rattle.lists.proofs.Cases.{and_false, or_true}
use Rattle.std.proofs.lemmas.Bool.{or_parts}
use Rattle.chunk_index.specs.declared.entry.Entry.{Entry}
use Rattle.chunk_index.specs.declared.entry.Tag.{Tag}
use Rattle.chunk_index.specs.declared.entry.Tag.TheVariants.{Both, TopOnly}
use Rattle.chunk_index.specs.declared.key.Key.{Key}
use Rattle.chunk_index.specs.KeyOrder.{key_cmp}
use Rattle.chunk_index.specs.KeyLaws.{key_cmp_total, level_keys}
use Rattle.chunk_index.specs.Keys.{IsInOrder, key_of, has_key, number_at, put, without}
use Rattle.chunk_index.specs.Items.{Items, item_key, AreInOrder, found, tag_set, with_entry, entries_by}
use Rattle.chunk_index.specs.Merges.{put_all}
use Rattle.chunk_index.specs.Pairs.{pair_key}
use Rattle.chunk_index.specs.Fresh.{fresh_item, with_fresh}
use Rattle.chunk_index.proofs.Lists.{around, IsCut, cut, lacks-level, without_absent, put-without, turned, lacks_without}
use Rattle.chunk_index.proofs.Changes.{has-put, has-without}
use Rattle.chunk_index.proofs.Finds.{number-has}
use Rattle.chunk_index.proofs.Items.{tag-none, tag-moves}
use Rattle.chunk_index.proofs.Maps.{Numbers}
use Rattle.chunk_index.proofs.Merges.{either, item_at, at-all, map-put, map-without, map-has, map-order, has-all, put-all, all-put, all-without, all_order, put_order}
use Rattle.chunk_index.proofs.Tags.{entries-put, entries-past, entries_in_order}

pub true_false : true ≡ false → ⊥
true_false e = cc

the_tag : {n m : ℕ} {a b : Tag} → ◌≡◌ {A = Option (ℕ × Tag)} (Some (n, a)) (Some (m, b)) → a ≡ b
the_tag {n} {m} {a} {b} e = ap (λ (o : Option (ℕ × Tag)). (unwrap_or o (n, a)).1) e

the_number : {n m : ℕ} {a b : Tag} → ◌≡◌ {A = Option (ℕ × Tag)} (Some (n, a)) (Some (m, b)) → n ≡ m
the_number {n} {m} {a} {b} e = ap (λ (o : Option (ℕ × Tag)). (unwrap_or o (n, a)).0) e

-- ---- what is found
abbrev seen_of : Entry × Tag → ℕ × Tag
seen_of i = (i.0.number, i.1)

abbrev fresh_of : ℕ → ℕ × Tag
fresh_of n = (n, TopOnly)

found-item : (xs : Items) (k : Key) → found xs k ≡ option_map seen_of (item_at item_key xs k)
unfolding found
found-item [] k = refl
found-item (x ∷ xs) k = by (is_eq (key_cmp (item_key x) k)) refl (found-item xs k)
  where
    by : (same : Bool) → is_eq (key_cmp (item_key x) k) ≡ same
        → found xs k ≡ option_map seen_of (item_at item_key xs k)
        → found (x ∷ xs) k ≡ option_map seen_of (item_at item_key (x ∷ xs) k)
    by true s rest = rw s refl
    by false s rest = rw s rest

pub found-fresh : (f : List Entry) (k : Key) → found (map fresh_item f) k ≡ option_map fresh_of (number_at f k)
unfolding found number_at
found-fresh [] k = refl
found-fresh (e ∷ f) k = by (is_eq (key_cmp (key_of e) k)) refl (found-fresh f k)
  where
    by : (same : Bool) → is_eq (key_cmp (key_of e) k) ≡ same → found (map fresh_item f) k ≡ option_map fresh_of (number_at f k)
        → found (map fresh_item (e ∷ f)) k ≡ option_map fresh_of (number_at (e ∷ f) k)
    by true s rest = rw s refl
    by false s rest = rw s rest

-- ---- a tag that an entry has
pub tag-same : (xs : Items) (k : Key) (n : ℕ) (a : Tag) → AreInOrder xs → found xs k ≡ Some (n, a) → tag_set xs k a ≡ xs
unfolding tag_set found
tag-same [] k n a order at = refl
tag-same (x ∷ xs) k n a order at = by (is_eq (key_cmp (item_key x) k)) refl (tag-same xs k n a c.right)
  where
    c : IsCut item_key [] x xs
    c = cut item_key [] x xs order

    by : (same : Bool) → is_eq (key_cmp (item_key x) k) ≡ same → (found xs k ≡ Some (n, a) → tag_set xs k a ≡ xs) → tag_set (x ∷ xs) k a ≡ x ∷ xs
    by true s rest =
        let is : x.1 ≡ a = the_tag (sym (ap (λ b. cond b (Some (x.0.number, x.1)) (found xs k)) s) ∙ at) in
        let level = turned (item_key x) k Equal ((Equal-is (key_cmp (item_key x) k)).0 s) in
        rw s (ap (λ (t : Items). (x.0, a) ∷ t) (tag-none xs k a (lacks-level item_key [] x xs c k level)) ∙ ap (λ (t : Tag). (x.0, t) ∷ xs) (sym is))
    by false s rest = rw s (ap (λ (t : Items). x ∷ t) (rest (sym (ap (λ b. cond b (Some (x.0.number, x.1)) (found xs k)) s) ∙ at)))

tag_key : (k : Key) (a : Tag) (i : Entry × Tag) → item_key (cond (is_eq (key_cmp (item_key i) k)) (i.0, a) i) ≡ item_key i
tag_key k a i = by (is_eq (key_cmp (item_key i) k))
  where
    by : (b : Bool) → item_key (cond b (i.0, a) i) ≡ item_key i
    by true = refl
    by false = refl

tag-all : (xs ys : Items) (k : Key) (a : Tag) → tag_set (put_all item_key xs ys) k a ≡ put_all item_key (tag_set xs k a) (tag_set ys k a)
unfolding put_all tag_set
tag-all xs [] k a = refl
tag-all xs (y ∷ ys) k a =
    tag-all (put item_key xs y) ys k a
    ∙ ap (λ (t : Items). put_all item_key t (tag_set ys k a))
    (map-put item_key item_key (λ i. cond (is_eq (key_cmp (item_key i) k)) (i.0, a) i) (tag_key k a) xs y)

module _ (os : Items) (f : List Entry) (order : AreInOrder os) (fresh : IsInOrder key_of f) where
  same : (e : Entry) → item_key (fresh_item e) ≡ key_of e
  same e = refl

  fresh_order : AreInOrder (map fresh_item f)
  fresh_order = map-order key_of item_key fresh_item same f fresh

  pub view_order : AreInOrder (with_fresh os f)
  view_order = all_order item_key os (map fresh_item f) order

  pub view-has : (k : Key) → has_key item_key (with_fresh os f) k ≡ (has_key key_of f k || has_key item_key os k)
  view-has k =
      has-all item_key os (map fresh_item f) k fresh_order ∙ ap (λ b. b || has_key item_key os k) (map-has key_of item_key fresh_item same f k)

  pub view_lacks : (k : Key) → has_key item_key (with_fresh os f) k ≡ false → (has_key key_of f k ≡ false) × (has_key item_key os k ≡ false)
  view_lacks k lacks = or_parts (has_key key_of f k) (has_key item_key os k) (sym (view-has k) ∙ lacks)

  pub view-found : (k : Key) → found (with_fresh os f) k ≡ either (option_map fresh_of (number_at f k)) (found os k)
  view-found k =
      found-item (with_fresh os f) k
      ∙ ap (option_map seen_of) (at-all item_key os (map fresh_item f) k fresh_order)
      ∙ share (item_at item_key (map fresh_item f) k) (item_at item_key os k)
      ∙ ap (λ (o : Option (ℕ × Tag)). either o (option_map seen_of (item_at item_key os k)))
      (sym (found-item (map fresh_item f) k) ∙ found-fresh f k)
      ∙ ap (either (option_map fresh_of (number_at f k))) (sym (found-item os k))
    where
      share : (o p : Option (Entry × Tag)) → option_map seen_of (either o p)
          ≡ either (option_map seen_of o) (option_map seen_of p)
      share (Some x) p = refl
      share None p = refl

  -- where no fresh entry has the key
  pub found_listed : (k : Key) (o : Option (ℕ × Tag)) → number_at f k ≡ None → found (with_fresh os f) k ≡ o → found os k ≡ o
  found_listed k o none at =
      sym (view-found k ∙ ap (λ (p : Option ℕ). either (option_map fresh_of p) (found os k)) none) ∙ at

  -- an entry of another tag is no fresh one
  pub not_fresh : (k : Key) (n : ℕ) (a : Tag) → (TopOnly ≡ a → ⊥) → found (with_fresh os f) k ≡ Some (n, a) → number_at f k ≡ None
  not_fresh k n a other at = by (number_at f k) refl
    where
      by : (o : Option ℕ) → number_at f k ≡ o → o ≡ None
      by None is = refl
      by (Some m) is = absurd (other (the_tag (sym (view-found k
          ∙ ap (λ (p : Option ℕ). either (option_map fresh_of p) (found os k)) is) ∙ at)))

  -- a fresh one is in staging alone
  pub found_fresh : (k : Key) (m n : ℕ) (a : Tag) → number_at f k ≡ Some m → found (with_fresh os f) k ≡ Some (n, a) → (m ≡ n) × (TopOnly ≡ a)
  found_fresh k m n a is at =
      both (sym (view-found k ∙ ap (λ (p : Option ℕ). either (option_map fresh_of p) (found os k)) is) ∙ at)
    where
      both : {p q : ℕ} {u v : Tag} → ◌≡◌ {A = Option (ℕ × Tag)} (Some (p, u)) (Some (q, v)) → (p ≡ q) × (u ≡ v)
      both e = (the_number e, the_tag e)

  pub fresh_lacks : (k : Key) → number_at f k ≡ None → has_key key_of f k ≡ false
  fresh_lacks k none = number-has f k ∙ ap is_some none

  -- ---- what changes of the others
  pub view-enter : (e : Entry) (a : Tag) → has_key key_of f (key_of e) ≡ false → with_fresh (with_entry os e a) f ≡ with_entry (with_fresh os f) e a
  view-enter e a lacks =
      put-all item_key os (map fresh_item f) (e, a) order fresh_order (map-has key_of item_key fresh_item same f (key_of e) ∙ lacks)

  pub view-leave : (k : Key) → has_key key_of f k ≡ false → with_fresh (without item_key os k) f ≡ without item_key (with_fresh os f) k
  view-leave k lacks =
      ap (put_all item_key (without item_key os k))
      (sym (without_absent item_key (map fresh_item f) k (map-has key_of item_key fresh_item same f k ∙ lacks)))
      ∙ sym (all-without item_key os (map fresh_item f) k order fresh_order)

  pub view-tag : (k : Key) (a : Tag) → has_key key_of f k ≡ false → with_fresh (tag_set os k a) f ≡ tag_set (with_fresh os f) k a
  view-tag k a lacks =
      ap (put_all item_key (tag_set os k a)) (sym (tag-none (map fresh_item f) k a (map-has key_of item_key fresh_item same f k ∙ lacks)))
      ∙ sym (tag-all os (map fresh_item f) k a)

  -- ---- what changes of the fresh ones
  pub view-begin : (e : Entry) → with_fresh os (put key_of f e) ≡ with_entry (with_fresh os f) e TopOnly
  view-begin e =
      ap (put_all item_key os) (map-put key_of item_key fresh_item same f e) ∙ all-put item_key os (map fresh_item f) (e, TopOnly) order fresh_order

  pub view-end : (k : Key) → has_key item_key os k ≡ false → with_fresh os (without key_of f k) ≡ without item_key (with_fresh os f) k
  view-end k lacks =
      ap (put_all item_key os) (map-without key_of item_key fresh_item same f k)
      ∙ ap (λ (t : Items). put_all item_key t (without item_key (map fresh_item f) k)) (sym (without_absent item_key os k lacks))
      ∙ sym (all-without item_key os (map fresh_item f) k order fresh_order)

-- ---- a fresh one that comes into main
module _ (os : Items) (f : List Entry) (order : AreInOrder os) (fresh : IsInOrder key_of f) where
  pub view-list : (e : Entry) (a : Tag) → has_key item_key os (key_of e) ≡ false → IsInOrder key_of (without key_of f (key_of e))
      → has_key key_of (without key_of f (key_of e)) (key_of e) ≡ false → found (with_fresh os f) (key_of e) ≡ Some (e.number, a)
      → with_fresh (with_entry os e Both) (without key_of f (key_of e)) ≡ tag_set (with_fresh os f) (key_of e) Both
  view-list e a absent fresh2 gone at =
      view-enter os (without key_of f (key_of e)) order fresh2 e Both gone
      ∙ ap (λ (t : Items). put item_key t (e, Both)) (view-end os f order fresh (key_of e) absent)
      ∙ put-without item_key (with_fresh os f) (e, Both)
      ∙ sym (tag-moves (with_fresh os f) e a Both (view_order os f order fresh) at)

-- ---- keys that only fresh ones have
module _ (es : Numbers) (f : List Entry) (apart : (k : Key) → has_key key_of f k ≡ true → has_key pair_key es k ≡ false) where
  pub apart-enter : (k : Key) (n : ℕ) → has_key key_of f k ≡ false → (q : Key) → has_key key_of f q ≡ true → has_key pair_key (put pair_key es (k, n)) q ≡ false
  apart-enter k n lacks q has = has-put pair_key es (k, n) q ∙ by (is_eq (key_cmp q k)) refl
    where
      by : (b : Bool) → is_eq (key_cmp q k) ≡ b → (is_eq (key_cmp q k) || has_key pair_key es q) ≡ false
      by true s = absurd (true_false (sym has ∙ ap (has_key key_of f) (level_keys q k ((Equal-is (key_cmp q k)).0 s)) ∙ lacks))
      by false s = rw s (apart q has)

  pub apart-leave : (k : Key) (q : Key) → has_key key_of f q ≡ true → has_key pair_key (without pair_key es k) q ≡ false
  apart-leave k q has = has-without pair_key es k q ∙ ap (λ b. not (is_eq (key_cmp q k)) && b) (apart q has) ∙ and_false (not (is_eq (key_cmp q k)))

  pub apart-begin : (e : Entry) → has_key pair_key es (key_of e) ≡ false → (q : Key) → has_key key_of (put key_of f e) q ≡ true → has_key pair_key es q ≡ false
  apart-begin e lacks q has = by (is_eq (key_cmp q (key_of e))) refl
    where
      by : (b : Bool) → is_eq (key_cmp q (key_of e)) ≡ b → has_key pair_key es q ≡ false
      by true s = ap (has_key pair_key es) (level_keys q (key_of e) ((Equal-is (key_cmp q (key_of e))).0 s)) ∙ lacks
      by false s = apart q (sym (ap (λ b. b || has_key key_of f q) s) ∙ sym (has-put key_of f e q) ∙ has)

  fresh_before : (k q : Key) → has_key key_of (without key_of f k) q ≡ true → has_key key_of f q ≡ true
  fresh_before k q has = by (not (is_eq (key_cmp q k))) (has_key key_of f q) (sym (has-without key_of f k q) ∙ has)
    where
      by : (a b : Bool) → (a && b) ≡ true → b ≡ true
      by true b e = e
      by false b e = absurd (true_false (sym e))

  pub apart-end : (k q : Key) → has_key key_of (without key_of f k) q ≡ true → has_key pair_key es q ≡ false
  apart-end k q has = apart q (fresh_before k q has)

module _ (es : Numbers) (f : List Entry) (apart : (k : Key) → has_key key_of f k ≡ true → has_key pair_key es k ≡ false) where
  pub apart-list : (k : Key) (n : ℕ) (q : Key) → has_key key_of (without key_of f k) q ≡ true → has_key pair_key (put pair_key es (k, n)) q ≡ false
  apart-list k n q has = apart-enter es (without key_of f k) (apart-end es f apart k) k n gone q has
    where
      gone : has_key key_of (without key_of f k) k ≡ false
      gone = lacks_without key_of f k

-- ---- the entries of some tags
module _ (p : Tag → Bool) where
  pub entries-fresh : p TopOnly ≡ true → (os : Items) (f : List Entry) → entries_by p (with_fresh os f) ≡ put_all key_of (entries_by p os) f
  unfolding put_all
  entries-fresh passes os [] = refl
  entries-fresh passes os (e ∷ f) =
      entries-fresh passes (put item_key os (e, TopOnly)) f
      ∙ ap (λ (t : List Entry). put_all key_of t f) (entries-put p os e TopOnly passes)

  pub entries-old : p TopOnly ≡ false → (os : Items) (f : List Entry) → AreInOrder os
      → AllByRecursion (λ e. has_key key_of (entries_by p os) (key_of e) ≡ false) f → entries_by p (with_fresh os f) ≡ entries_by p os
  unfolding put_all
  entries-old drops os [] order all = refl
  entries-old drops os (e ∷ f) order all =
      let same : entries_by p (put item_key os (e, TopOnly)) ≡ entries_by p os =
      entries-past p os e TopOnly drops ∙ around key_of (entries_by p os) (key_of e) (entries_in_order p os order)
      ∙ without_absent key_of (entries_by p os) (key_of e) all.0 in
      entries-old drops (put item_key os (e, TopOnly)) f (put_order item_key os (e, TopOnly) order)
      (subst (λ (xs : List Entry). AllByRecursion (λ d. has_key key_of xs (key_of d) ≡ false) f) (sym same) all.1)
      ∙ same

pub all_apart : (lacks : Key → Bool) (f : List Entry) → ((k : Key) → has_key key_of f k ≡ true → lacks k ≡ false)
    → AllByRecursion (λ e. lacks (key_of e) ≡ false) f
unfolding has_key
all_apart lacks [] apart = tt
all_apart lacks (e ∷ f) apart = (
  apart (key_of e) (rw (ap is_eq (tied_itself key_cmp_total (key_of e))) refl),
  all_apart lacks f (λ k has. apart k (ap (λ b. is_eq (key_cmp (key_of e) k) || b) has ∙ or_true (is_eq (key_cmp (key_of e) k)))),
)
