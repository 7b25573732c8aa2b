-- The tags that two trees tell: what changes of the trees are on them, and on the items.
use Rattle.std.proofs.Common.{◌≡◌, ℕ, Bool, true, false, cond, not, ◌&&◌, ◌||◌, List, [], ◌∷◌, Option, None, Some, unwrap_or, refl, sym, ap, ◌∙◌}
use Rattle.std.specs.Ordering.{is_eq}
use Rattle.std.specs.Cmp.{Equal-is}
use Rattle.lists.proofs.Cases.{and_false}
use Rattle.chunk_index.specs.declared.entry.Entry.{Entry}
use Rattle.chunk_index.specs.declared.entry.Tag.{Tag}
use Rattle.chunk_index.specs.declared.entry.Tag.TheVariants.{Both, MainOnly, TopOnly}
use Rattle.chunk_index.specs.declared.key.Key.{Key}
use Rattle.chunk_index.specs.KeyOrder.{key_cmp}
use Rattle.chunk_index.specs.KeyLaws.{level_keys}
use Rattle.chunk_index.specs.Keys.{key_of, has_key, put, without}
use Rattle.chunk_index.specs.Items.{Items, item_key, found, entries_by, tag_set}
use Rattle.chunk_index.specs.Kept.{entry_from, tag_in, item_of, items_of}
use Rattle.chunk_index.proofs.Changes.{has-put, has-without}
use Rattle.chunk_index.proofs.Maps.{Numbers}

same_key : (q k : Key) → is_eq (key_cmp q k) ≡ true → q ≡ k
same_key q k same = level_keys q k ((Equal-is (key_cmp q k)).0 same)

none_some : {x : ℕ × Tag} → None ≡ Some x → ⊥
none_some e = cc

second_is : {n m : ℕ} {a b : Tag} → ◌≡◌ {A = Option (ℕ × Tag)} (Some (n, a)) (Some (m, b)) → a ≡ b
second_is {n} {m} {a} {b} e = ap (λ (o : Option (ℕ × Tag)). (unwrap_or o (n, a)).1) e

-- ---- what a tag says of the trees
told : Bool → Bool → Tag
told in_main in_top = cond in_main MainOnly (cond in_top TopOnly Both)

told_main : (a b : Bool) → told a b ≡ MainOnly → a ≡ true
unfolding told
told_main true b is = refl
told_main false true is = absurd (apart is)
  where
    apart : TopOnly ≡ MainOnly → ⊥
    apart e = cc
told_main false false is = absurd (apart is)
  where
    apart : Both ≡ MainOnly → ⊥
    apart e = cc

told_top : (a b : Bool) → told a b ≡ TopOnly → (a ≡ false) × (b ≡ true)
unfolding told
told_top true b is = absurd (apart is)
  where
    apart : MainOnly ≡ TopOnly → ⊥
    apart e = cc
told_top false true is = (refl, refl)
told_top false false is = absurd (apart is)
  where
    apart : Both ≡ TopOnly → ⊥
    apart e = cc

module _ (m t : List Entry) where
  pub is_main : (k : Key) → tag_in m t k ≡ MainOnly → has_key key_of m k ≡ true
  unfolding tag_in told
  is_main k is = told_main (has_key key_of m k) (has_key key_of t k) is

  pub is_top : (k : Key) → tag_in m t k ≡ TopOnly → (has_key key_of m k ≡ false) × (has_key key_of t k ≡ true)
  unfolding tag_in told
  is_top k is = told_top (has_key key_of m k) (has_key key_of t k) is

  -- ---- what is found under a key has the tag that the trees tell
  pub found-told : (k : Key) (es : Numbers) (n : ℕ) (a : Tag) → found (items_of es m t) k ≡ Some (n, a) → tag_in m t k ≡ a
  unfolding found
  found-told k [] n a at = absurd (none_some at)
  found-told k (e ∷ es) n a at = by (is_eq (key_cmp e.0 k)) refl (found-told k es n a)
    where
      by : (here : Bool) → is_eq (key_cmp e.0 k) ≡ here → (found (items_of es m t) k ≡ Some (n, a) → tag_in m t k ≡ a) → tag_in m t k ≡ a
      by true s rest =
          ap (tag_in m t) (sym (same_key e.0 k s)) ∙ second_is (sym (ap (λ b. cond b (Some (e.1, tag_in m t e.0)) (found (items_of es m t) k)) s) ∙ at)
      by false s rest = rest (sym (ap (λ b. cond b (Some (e.1, tag_in m t e.0)) (found (items_of es m t) k)) s) ∙ at)

  -- ---- a tree's entries of a tag have a key where that is its tag
  pub has-tagged : (p : Tag → Bool) (es : Numbers) (k : Key) → has_key key_of (entries_by p (items_of es m t)) k
      ≡ (p (tag_in m t k) && has_key item_key (items_of es m t) k)
  unfolding entries_by has_key
  has-tagged p [] k = sym (and_false (p (tag_in m t k)))
  has-tagged p (e ∷ es) k = by (p (tag_in m t e.0)) refl (is_eq (key_cmp e.0 k)) refl (has-tagged p es k)
    where
      there : is_eq (key_cmp e.0 k) ≡ true → p (tag_in m t k) ≡ p (tag_in m t e.0)
      there same = ap (λ (q : Key). p (tag_in m t q)) (sym (same_key e.0 k same))

      by : (tagged : Bool) → p (tag_in m t e.0) ≡ tagged → (same : Bool) → is_eq (key_cmp e.0 k) ≡ same
          → has_key key_of (entries_by p (items_of es m t)) k ≡ (p (tag_in m t k) && has_key item_key (items_of es m t) k)
          → has_key key_of (entries_by p (items_of (e ∷ es) m t)) k ≡ (p (tag_in m t k) && has_key item_key (items_of (e ∷ es) m t) k)
      by true h true s rest = let passes = there s ∙ h in rw (h, s, passes) refl
      by true h false s rest = rw (h, s) rest
      by false h true s rest = let drops = there s ∙ h in rw (h, s, drops) (rest ∙ rw drops refl)
      by false h false s rest = rw (h, s) rest

  -- ---- where other trees tell another tag at one key alone, that tag is set there
  pub items-set : (n u : List Entry) (k : Key) (a : Tag) → ((q : Key) → tag_in n u q ≡ cond (is_eq (key_cmp q k)) a (tag_in m t q)) → (es : Numbers)
      → items_of es n u ≡ tag_set (items_of es m t) k a
  unfolding tag_set
  items-set n u k a tells [] = refl
  items-set n u k a tells (e ∷ es) = by (is_eq (key_cmp e.0 k)) refl (items-set n u k a tells es)
    where
      by : (same : Bool) → is_eq (key_cmp e.0 k) ≡ same → items_of es n u ≡ tag_set (items_of es m t) k a
          → items_of (e ∷ es) n u ≡ tag_set (items_of (e ∷ es) m t) k a
      by true s rest =
          let here : tag_in n u e.0 ≡ a = tells e.0 ∙ ap (λ b. cond b a (tag_in m t e.0)) s in
          rw (s, here) (ap (λ (xs : Items). (entry_from e.0 e.1, a) ∷ xs) rest)
      by false s rest =
          let here : tag_in n u e.0 ≡ tag_in m t e.0 = tells e.0 ∙ ap (λ b. cond b a (tag_in m t e.0)) s in
          rw (s, here) (ap (λ (xs : Items). item_of m t e ∷ xs) rest)

  pub tells-without : (k q : Key) → tag_in (without key_of m k) (without key_of t k) q ≡ cond (is_eq (key_cmp q k)) Both (tag_in m t q)
  unfolding tag_in
  tells-without k q =
      ap (λ b. cond b MainOnly (cond (has_key key_of (without key_of t k) q) TopOnly Both)) (has-without key_of m k q)
      ∙ ap (λ b. cond (not (is_eq (key_cmp q k)) && has_key key_of m q) MainOnly (cond b TopOnly Both)) (has-without key_of t k q)
      ∙ by (is_eq (key_cmp q k)) refl
    where
      by : (same : Bool) → is_eq (key_cmp q k) ≡ same
          → cond (not (is_eq (key_cmp q k)) && has_key key_of m q) MainOnly (cond (not (is_eq (key_cmp q k)) && has_key key_of t q) TopOnly Both)
          ≡ cond (is_eq (key_cmp q k)) Both (cond (has_key key_of m q) MainOnly (cond (has_key key_of t q) TopOnly Both))
      by true s = rw s refl
      by false s = rw s refl

  pub tells-main : (e : Entry) (q : Key) → tag_in (put key_of m e) t q ≡ cond (is_eq (key_cmp q (key_of e))) MainOnly (tag_in m t q)
  unfolding tag_in
  tells-main e q = ap (λ b. cond b MainOnly (cond (has_key key_of t q) TopOnly Both)) (has-put key_of m e q) ∙ by (is_eq (key_cmp q (key_of e))) refl
    where
      by : (same : Bool) → is_eq (key_cmp q (key_of e)) ≡ same
          → cond (is_eq (key_cmp q (key_of e)) || has_key key_of m q) MainOnly (cond (has_key key_of t q) TopOnly Both)
          ≡ cond (is_eq (key_cmp q (key_of e))) MainOnly (cond (has_key key_of m q) MainOnly (cond (has_key key_of t q) TopOnly Both))
      by true s = rw s refl
      by false s = rw s refl

  pub tells-top : (e : Entry) → has_key key_of m (key_of e) ≡ false → (q : Key)
      → tag_in m (put key_of t e) q ≡ cond (is_eq (key_cmp q (key_of e))) TopOnly (tag_in m t q)
  unfolding tag_in
  tells-top e lacks q =
      ap (λ b. cond (has_key key_of m q) MainOnly (cond b TopOnly Both)) (has-put key_of t e q) ∙ by (is_eq (key_cmp q (key_of e))) refl
    where
      by : (same : Bool) → is_eq (key_cmp q (key_of e)) ≡ same
          → cond (has_key key_of m q) MainOnly (cond (is_eq (key_cmp q (key_of e)) || has_key key_of t q) TopOnly Both)
          ≡ cond (is_eq (key_cmp q (key_of e))) TopOnly (cond (has_key key_of m q) MainOnly (cond (has_key key_of t q) TopOnly Both))
      by true s =
          let other : has_key key_of m q ≡ false = ap (has_key key_of m) (same_key q (key_of e) s) ∙ lacks in
          rw (s, other) refl
      by false s = rw s refl
