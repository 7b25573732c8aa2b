-- What a look-up of a key finds after each change of an index.
use Rattle.std.proofs.Common.{◌≡◌, ℕ, Bool, true, false, cond, [], ◌∷◌, ◌++◌, Option, Some, None, is_some, unwrap_or, refl, sym, ap, ◌∙◌}
use Rattle.std.specs.List.{filter}
use Rattle.std.specs.declared.cmp.Ordering.{Ordering}
use Rattle.std.specs.declared.cmp.Ordering.TheVariants.{Less, Equal, Greater}
use Rattle.std.specs.Ordering.{is_lt, is_eq, is_ne, is_gt, ordering_reverse}
use Rattle.std.specs.Cmp.{Equal-is, tied_itself}
use Rattle.chunk_index.specs.declared.entry.Entry.{Entry}
use Rattle.chunk_index.specs.declared.entry.Tag.{Tag}
use Rattle.chunk_index.specs.declared.key.Key.{Key}
use Rattle.chunk_index.specs.KeyOrder.{key_cmp}
use Rattle.chunk_index.specs.KeyLaws.{key_cmp_total, level_keys}
use Rattle.chunk_index.specs.Keys.{key_of, has_key, before, behind, put, without}
use Rattle.chunk_index.specs.Items as indexes
use Rattle.chunk_index.specs.Items.{Items, item_key, has, with_entry, without_entry, with_tag, tag_set}
use Rattle.cluster_store.specs.Kept.{same_key, found, AreNumbered}

pub same_is : (k l : Key) → same_key k l ≡ true → k ≡ l
same_is k l s = level_keys k l ((Equal-is (key_cmp k l)).0 s)

pub same_self : (k : Key) → same_key k k ≡ true
same_self k = ap is_eq (tied_itself key_cmp_total k)

turn_eq : (o : Ordering) → is_eq (ordering_reverse o) ≡ is_eq o
turn_eq Less = refl
turn_eq Equal = refl
turn_eq Greater = refl

pub same_turned : (k l : Key) → same_key k l ≡ same_key l k
same_turned k l = ap is_eq (key_cmp_total.antisymm k l) ∙ turn_eq (key_cmp l k)

abbrev pub first_of : Option Tag → Option Tag → Option Tag
first_of None o = o
first_of (Some t) o = Some t

pub found-append : (xs ys : Items) (k : Key) → found (xs ++ ys) k ≡ first_of (found xs k) (found ys k)
unfolding found
found-append [] ys k = refl
found-append (x ∷ xs) ys k = by (same_key (item_key x) k) refl (found-append xs ys k)
  where
    by : (b : Bool) → same_key (item_key x) k ≡ b → found (xs ++ ys) k ≡ first_of (found xs k) (found ys k)
        → found (x ∷ xs ++ ys) k ≡ first_of (found (x ∷ xs) k) (found ys k)
    by true s rest = rw s refl
    by false s rest = rw s rest

-- a test of what keys are to q keeps those of the key k, or none of them
found-kept : (f : Ordering → Bool) (q k : Key) (xs : Items) → found (filter (λ x. f (key_cmp (item_key x) q)) xs) k ≡ cond (f (key_cmp k q)) (found xs k) None
unfolding found
found-kept f q k [] = sym (either (f (key_cmp k q)))
  where
    either : (b : Bool) → ◌≡◌ {A = Option Tag} (cond b None None) None
    either true = refl
    either false = refl
found-kept f q k (x ∷ xs) = by (f (key_cmp (item_key x) q)) refl (same_key (item_key x) k) refl (found-kept f q k xs)
  where
    answer : same_key (item_key x) k ≡ true → f (key_cmp k q) ≡ f (key_cmp (item_key x) q)
    answer s = ap (λ (l : Key). f (key_cmp l q)) (sym (same_is (item_key x) k s))

    by : (kept : Bool) → f (key_cmp (item_key x) q) ≡ kept → (same : Bool) → same_key (item_key x) k ≡ same
        → found (filter (λ x. f (key_cmp (item_key x) q)) xs) k ≡ cond (f (key_cmp k q)) (found xs k) None
        → found (filter (λ x. f (key_cmp (item_key x) q)) (x ∷ xs)) k ≡ cond (f (key_cmp k q)) (found (x ∷ xs) k) None
    by true h true s rest = let there = answer s ∙ h in rw (h, s, there) refl
    by true h false s rest = rw (h, s) rest
    by false h true s rest = let there = answer s ∙ h in rw (h, s) (rest ∙ rw there refl)
    by false h false s rest = rw (h, s) rest

of_answer : (o : Ordering) (t : Tag) (h : Option Tag)
    → first_of (cond (is_lt o) h None) (cond (is_eq o) (Some t) (cond (is_gt o) h None)) ≡ cond (is_eq o) (Some t) h
of_answer Less t (Some u) = refl
of_answer Less t None = refl
of_answer Equal t h = refl
of_answer Greater t h = refl

pub found-put : (items : Items) (e : Entry) (t : Tag) (k : Key) → found (with_entry items e t) k ≡ cond (same_key (key_of e) k) (Some t) (found items k)
unfolding put before behind found
found-put items e t k =
    found-append (filter (λ x. is_lt (key_cmp (item_key x) (key_of e))) items) ((e, t) ∷ filter (λ x. is_gt (key_cmp (item_key x) (key_of e))) items) k
    ∙ ap (λ o. first_of o (cond (same_key (key_of e) k) (Some t) (found (filter (λ x. is_gt (key_cmp (item_key x) (key_of e))) items) k)))
    (found-kept is_lt (key_of e) k items)
    ∙ ap (λ o. first_of (cond (is_lt (key_cmp k (key_of e))) (found items k) None) (cond (same_key (key_of e) k) (Some t) o))
    (found-kept is_gt (key_of e) k items)
    ∙ ap (λ b. first_of (cond (is_lt (key_cmp k (key_of e))) (found items k) None) (cond b (Some t) (cond (is_gt (key_cmp k (key_of e))) (found items k) None)))
    (same_turned (key_of e) k)
    ∙ of_answer (key_cmp k (key_of e)) t (found items k)
    ∙ ap (λ b. cond b (Some t) (found items k)) (same_turned k (key_of e))

ne_case : (o : Ordering) (h : Option Tag) → cond (is_ne o) h None ≡ cond (is_eq o) None h
ne_case Less h = refl
ne_case Equal h = refl
ne_case Greater h = refl

pub found-without : (items : Items) (e : Entry) (k : Key) → found (without_entry items e) k ≡ cond (same_key (key_of e) k) None (found items k)
unfolding without
found-without items e k =
    found-kept is_ne (key_of e) k items ∙ ne_case (key_cmp k (key_of e)) (found items k)
    ∙ ap (λ b. cond b None (found items k)) (same_turned k (key_of e))

abbrev pub again : Tag → Option Tag → Option Tag
again t None = None
again t (Some u) = Some t

pub found-tagged : (items : Items) (e : Entry) (t : Tag) (k : Key)
    → found (with_tag items e t) k ≡ cond (same_key (key_of e) k) (again t (found items k)) (found items k)
unfolding tag_set found
found-tagged [] e t k = sym (either (same_key (key_of e) k))
  where
    either : (b : Bool) → ◌≡◌ {A = Option Tag} (cond b None None) None
    either true = refl
    either false = refl
found-tagged (x ∷ xs) e t k = by (same_key (item_key x) (key_of e)) refl (same_key (item_key x) k) refl (found-tagged xs e t k)
  where
    by : (at : Bool) → same_key (item_key x) (key_of e) ≡ at → (same : Bool) → same_key (item_key x) k ≡ same
        → found (with_tag xs e t) k ≡ cond (same_key (key_of e) k) (again t (found xs k)) (found xs k)
        → found (with_tag (x ∷ xs) e t) k ≡ cond (same_key (key_of e) k) (again t (found (x ∷ xs) k)) (found (x ∷ xs) k)
    by true h true s rest =
        let there : same_key (key_of e) k ≡ true = ap (λ (l : Key). same_key l k) (sym (same_is (item_key x) (key_of e) h)) ∙ s in
        rw (h, s, there) refl
    by true h false s rest = rw (h, s) rest
    by false h true s rest =
        let there : same_key (key_of e) k ≡ false =
        same_turned (key_of e) k ∙ ap (λ (l : Key). same_key l (key_of e)) (sym (same_is (item_key x) k s)) ∙ h in
        rw (h, s, there) refl
    by false h false s rest = rw (h, s) rest

pub has-found : (items : Items) (e : Entry) → has items e ≡ is_some (found items (key_of e))
unfolding has_key found
has-found [] e = refl
has-found (x ∷ xs) e = by (same_key (item_key x) (key_of e)) refl (has-found xs e)
  where
    by : (b : Bool) → same_key (item_key x) (key_of e) ≡ b → has xs e ≡ is_some (found xs (key_of e)) → has (x ∷ xs) e ≡ is_some (found (x ∷ xs) (key_of e))
    by true s rest = rw s refl
    by false s rest = rw s rest

none_some : {t : Tag} → None ≡ Some t → ⊥
none_some e = cc

-- where a tag is found, it is found with a number
pub found-item : (items : Items) (k : Key) (t : Tag) → found items k ≡ Some t → (number : ℕ) × (indexes.found items k ≡ Some (number, t))
unfolding found indexes.found
found-item [] k t at = absurd (none_some at)
found-item (x ∷ xs) k t at = by (same_key (item_key x) k) refl (found-item xs k t)
  where
    by : (b : Bool) → same_key (item_key x) k ≡ b → (found xs k ≡ Some t → (number : ℕ) × (indexes.found xs k ≡ Some (number, t)))
        → (number : ℕ) × (indexes.found (x ∷ xs) k ≡ Some (number, t))
    by true s rest =
        let tag : Some x.1 ≡ Some t = sym (ap (λ b. cond b (Some x.1) (found xs k)) s) ∙ at in
        (x.0.number, rw s (ap (λ (o : Option Tag). Some (x.0.number, unwrap_or o t)) tag))
    by false s rest =
        let later = rest (sym (ap (λ b. cond b (Some x.1) (found xs k)) s) ∙ at) in
        (later.0, ap (λ b. cond b (Some (x.0.number, x.1)) (indexes.found xs k)) s ∙ later.1)

-- that is the number of an entry with the key, where the serial of each entry is the number of its record
pub found-entry : (items : Items) (e : Entry) (t : Tag) → e.number ≡ e.serial → AreNumbered items → found items (key_of e) ≡ Some t
    → indexes.found items (key_of e) ≡ Some (e.number, t)
unfolding found indexes.found
found-entry [] e t own numbered at = absurd (none_some at)
found-entry (x ∷ xs) e t own numbered at = by (same_key (item_key x) (key_of e)) refl (found-entry xs e t own numbered.1)
  where
    by : (b : Bool) → same_key (item_key x) (key_of e) ≡ b → (found xs (key_of e) ≡ Some t → indexes.found xs (key_of e) ≡ Some (e.number, t))
        → indexes.found (x ∷ xs) (key_of e) ≡ Some (e.number, t)
    by true s rest =
        let number : x.0.number ≡ e.number = numbered.0 ∙ ap (λ (k : Key). k.serial) (same_is (item_key x) (key_of e) s) ∙ sym own in
        let tag : Some x.1 ≡ Some t = sym (ap (λ b. cond b (Some x.1) (found xs (key_of e))) s) ∙ at in
        rw s (ap (λ (n : ℕ). Some (n, x.1)) number ∙ ap (λ (o : Option Tag). Some (e.number, unwrap_or o t)) tag)
    by false s rest = rw s (rest (sym (ap (λ b. cond b (Some x.1) (found xs (key_of e))) s) ∙ at))
