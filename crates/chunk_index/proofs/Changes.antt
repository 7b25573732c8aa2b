-- Which keys are there after a change.
use Rattle.std.proofs.Common.{◌≡◌, Bool, true, false, not, ◌&&◌, ◌||◌, List, [], ◌∷◌, refl, sym, ap, ◌∙◌, subst}
use Rattle.std.proofs.lemmas.List.Folds.{list_any-append}
use Rattle.std.specs.declared.cmp.Ordering.{Ordering}
use Rattle.std.specs.declared.cmp.Ordering.TheVariants.{Less, Equal, Greater}
use Rattle.std.specs.Ordering.{is_lt, is_eq, is_ne, is_gt, ordering_reverse}
use Rattle.std.specs.Cmp.{Equal-is, tied_itself}
use Rattle.lists.proofs.Cases.{and_false}
use Rattle.chunk_index.specs.declared.entry.Entry.{Entry}
use Rattle.chunk_index.specs.declared.entry.Tag.{Tag}
use Rattle.chunk_index.specs.declared.key.Key.{Key}
use Rattle.chunk_index.specs.KeyOrder.{key_cmp}
use Rattle.chunk_index.specs.KeyLaws.{key_cmp_total, level_keys}
use Rattle.chunk_index.specs.Keys.{key_of, has_key, before, behind, put, without}
use Rattle.chunk_index.specs.Items.{Items, item_key, has, with_entry, without_entry, tag_set}
use Rattle.chunk_index.specs.Changes.{is_same, ChangesOneKey}
use Rattle.chunk_index.proofs.Lists.{kept_by}
use Rattle.chunk_index.proofs.Maps.{same_test}

ne_eq : (o : Ordering) → is_ne o ≡ not (is_eq o)
ne_eq Less = refl
ne_eq Equal = refl
ne_eq Greater = refl

of_answer : (o : Ordering) (h : Bool) → ((is_lt o && h) || (is_eq (ordering_reverse o) || (is_gt o && h))) ≡ (is_eq o || h)
of_answer Less true = refl
of_answer Less false = refl
of_answer Equal true = refl
of_answer Equal false = refl
of_answer Greater true = refl
of_answer Greater false = refl

module _ {A : Type 0} (key : A → Key) where
  -- a test of what keys are to k keeps those of the key q, or none of them
  pub has-kept : (f : Ordering → Bool) (k q : Key) (xs : List A) → has_key key (kept_by key f k xs) q ≡ (f (key_cmp q k) && has_key key xs q)
  unfolding has_key
  has-kept f k q [] = sym (and_false (f (key_cmp q k)))
  has-kept f k q (x ∷ xs) = by (f (key_cmp (key x) k)) refl (is_eq (key_cmp (key x) q)) refl (has-kept f k q xs)
    where
      answer : is_eq (key_cmp (key x) q) ≡ true → f (key_cmp q k) ≡ f (key_cmp (key x) k)
      answer same = ap f (sym (key_cmp_total.congr (key x) q k ((Equal-is (key_cmp (key x) q)).0 same)))

      by : (kept : Bool) → f (key_cmp (key x) k) ≡ kept → (same : Bool) → is_eq (key_cmp (key x) q) ≡ same
          → has_key key (kept_by key f k xs) q ≡ (f (key_cmp q k) && has_key key xs q)
          → has_key key (kept_by key f k (x ∷ xs)) q ≡ (f (key_cmp q k) && has_key key (x ∷ xs) q)
      by true h true s rest = let there = answer s ∙ h in rw (h, s, there) refl
      by true h false s rest = rw (h, s) rest
      by false h true s rest = let there = answer s ∙ h in rw (h, s) (rest ∙ rw there refl)
      by false h false s rest = rw (h, s) rest

  pub has-put : (xs : List A) (x : A) (q : Key) → has_key key (put key xs x) q ≡ (is_eq (key_cmp q (key x)) || has_key key xs q)
  unfolding put before behind has_key
  has-put xs x q =
      list_any-append (λ y. is_eq (key_cmp (key y) q)) (kept_by key is_lt (key x) xs) (x ∷ kept_by key is_gt (key x) xs)
      ∙ ap (λ b. b || (is_eq (key_cmp (key x) q) || has_key key (kept_by key is_gt (key x) xs) q)) (has-kept is_lt (key x) q xs)
      ∙ ap (λ b. (is_lt (key_cmp q (key x)) && has_key key xs q) || (is_eq (key_cmp (key x) q) || b)) (has-kept is_gt (key x) q xs)
      ∙ ap (λ o. (is_lt (key_cmp q (key x)) && has_key key xs q) || (is_eq o || (is_gt (key_cmp q (key x)) && has_key key xs q)))
      (key_cmp_total.antisymm (key x) q)
      ∙ of_answer (key_cmp q (key x)) (has_key key xs q)

  pub has-without : (xs : List A) (k q : Key) → has_key key (without key xs k) q ≡ (not (is_eq (key_cmp q k)) && has_key key xs q)
  unfolding without
  has-without xs k q = has-kept is_ne k q xs ∙ ap (λ b. b && has_key key xs q) (ne_eq (key_cmp q k))

has-inserted : (items : Items) (e d : Entry) (t : Tag) → has (with_entry items e t) d ≡ (is_same e d || has items d)
has-inserted items e d t = has-put item_key items (e, t) (key_of d) ∙ ap (λ b. b || has items d) (same_test (key_of e) (key_of d))

has-removed : (items : Items) (e d : Entry) → has (without_entry items e) d ≡ (not (is_same e d) && has items d)
has-removed items e d = has-without item_key items (key_of e) (key_of d) ∙ ap (λ b. not b && has items d) (same_test (key_of e) (key_of d))

has-retagged : (items : Items) (k q : Key) (t : Tag) → has_key item_key (tag_set items k t) q ≡ has_key item_key items q
unfolding tag_set has_key
has-retagged [] k q t = refl
has-retagged (x ∷ xs) k q t = by (is_eq (key_cmp (item_key x) k)) refl (has-retagged xs k q t)
  where
    by : (same : Bool) → is_eq (key_cmp (item_key x) k) ≡ same → has_key item_key (tag_set xs k t) q ≡ has_key item_key xs q
        → has_key item_key (tag_set (x ∷ xs) k t) q ≡ has_key item_key (x ∷ xs) q
    by true s rest = rw s (ap (λ b. is_eq (key_cmp (item_key x) q) || b) rest)
    by false s rest = rw s (ap (λ b. is_eq (key_cmp (item_key x) q) || b) rest)

pub one_key : ChangesOneKey
one_key = record {
  same = λ e d. (
    λ s. level_keys (key_of e) (key_of d) ((Equal-is (key_cmp (key_of e) (key_of d))).0 s),
    λ s. subst (λ (k : Key). is_eq (key_cmp
        (key_of e) k) ≡ true) s (ap is_eq (tied_itself key_cmp_total (key_of e))),
  );
  inserted = has-inserted;
  removed = has-removed;
  retagged = λ items e d t. has-retagged items (key_of e) (key_of d) t;
}
