-- Which parts the entries of the index stand for.
use Rattle.std.proofs.Common.{◌≡◌, ℕ, ◌<◌, Bool, true, false, cond, List, [], ◌∷◌, map, length, get_or, Option, Some, None, is_some, IsSome, Contains, inl, inr, ◌⊎◌, refl, sym, ap, ◌∙◌, subst, arith}
use Rattle.std.proofs.lemmas.Option.{none-some, same_Some, slice_get-get_or, slice_get_within, get_or_from_slice_get}
use Rattle.std.specs.List.{filter, slice_get, AllByRecursion}
use Rattle.std.specs.Ordering.{is_eq}
use Rattle.std.specs.declared.cmp.Ordering.TheVariants.{Less}
use Rattle.std.specs.FinMap as finmap
use Rattle.fee_rate.specs.declared.rates.FeeRate.{FeeRate}
use Rattle.graphs.specs.Certificates.{Part}
use Rattle.lists.proofs.Entries.{Contains-head, Contains-later, Contains-cases, none_in_empty, map-Contains, Contains-map, filter-Contains}
use Rattle.graphs.specs.declared.names.Level.{Level}
use Rattle.chunk_index.specs.declared.entry.Entry.{Entry}
use Rattle.chunk_index.specs.declared.entry.Tag.{Tag}
use Rattle.chunk_index.specs.declared.key.Key.{Key}
use Rattle.chunk_index.specs.KeyOrder.{key_cmp}
use Rattle.chunk_index.specs.Keys.{IsInOrder}
use Rattle.chunk_index.specs.Items.{Items, item_key, is_in, AreInOrder, entries_by}
use Rattle.cluster_store.specs.Held.{cluster_in, held_at, held_at_entry, held_in}
use Rattle.cluster_store.specs.Keys.{key_part}
use Rattle.cluster_store.specs.Stores.{Stored, no_part, parts_by, parts_in, part_in, key_at, key_in, passes, places_by, shown_at, shown_by, IsOrdered}
use Rattle.cluster_store.specs.Kept.{Slots, at, shelved, place_of, same_key, found, is_rate, has_rate, tag_for, IsShown}
use Rattle.cluster_store.specs.Walks.{shown_of, HasParts}
use Rattle.cluster_store.proofs.Founds.{same_is, same_self}
use Rattle.cluster_store.proofs.Fresh.{key_here, rate_here}
use Rattle.cluster_store.proofs.Shelves.{get_shelved}

-- ---- an entry is found

true_false : false ≡ true → ⊥
true_false e = cc

pub all_at : {X : Type 0} (P : X → Type 0) (xs : List X) (y : X) → AllByRecursion P xs → Contains xs y → P y
all_at P [] y all here = absurd (none_in_empty y here)
all_at P (x ∷ xs) y all here = elim (Contains-cases x y xs here) [ inl same ↦ subst P same all.0 | inr later ↦ all_at P xs y all.1 later ]

pub listed_found : (items : Items) (i : Entry × Tag) → AreInOrder items → Contains items i → found items (item_key i) ≡ Some i.1
unfolding found IsInOrder
listed_found [] i order here = absurd (none_in_empty i here)
listed_found (x ∷ items) i order here = by (Contains-cases x i items here) (λ later. listed_found items i order.1 later)
  where
    by : (x ≡ i) ⊎ Contains items i → (Contains items i → found items (item_key i) ≡ Some i.1) → found (x ∷ items) (item_key i) ≡ Some i.1
    by (inl same) rest =
        let hit : same_key (item_key x) (item_key i) ≡ true = ap (λ (y : Entry × Tag). same_key (item_key y) (item_key i)) same ∙ same_self (item_key i) in
        rw hit (ap (λ (y : Entry × Tag). Some y.1) same)
    by (inr later) rest =
        let miss : same_key (item_key x) (item_key i) ≡ false =
        ap is_eq (all_at (λ (y : Entry × Tag). key_cmp (item_key x) (item_key y) ≡ Less) items i order.0 later) in
        rw miss (rest later)

pub found_listed : (items : Items) (k : Key) → IsSome (found items k) → (i : Entry × Tag) × Contains items i × (item_key i ≡ k)
unfolding found
found_listed [] k some = absurd (true_false some)
found_listed (x ∷ items) k some = by (same_key (item_key x) k) refl some (λ later. found_listed items k later)
  where
    by : (b : Bool) → same_key (item_key x) k ≡ b → IsSome (found (x ∷ items) k)
        → (IsSome (found items k) → (i : Entry × Tag) × Contains items i × (item_key i ≡ k)) → (i : Entry × Tag) × Contains (x ∷ items) i × (item_key i ≡ k)
    by true s here rest = (x, Contains-head x items, same_is (item_key x) k s)
    by false s here rest = let more = rest (rw s at here) in (more.0, Contains-later x more.0 items more.1, more.2)

-- ---- what is found is a part

rate_some : (r : FeeRate) (o : Option Part) → is_rate r o ≡ true → (part : Part) × (o ≡ Some part) × (is_rate r (Some part) ≡ true)
rate_some r None is = absurd (true_false is)
rate_some r (Some part) is = (part, refl, is)

-- a part of a stored cluster with the rate of the key
pub record IsPartOf (o : Option Stored) (k : Key) (t : Tag) : Type 0 where
  pub stored : Stored
  pub there : o ≡ Some stored
  pub tag : stored.tag ≡ t
  pub part : Part
  pub here : slice_get stored.cluster.parts k.position ≡ Some part
  pub key : key_part k.serial k.position part ≡ k

pub tag_part : (o : Option Stored) (k : Key) (t : Tag) → tag_for o k ≡ Some t → IsPartOf o k t
unfolding has_rate
tag_part None k t is = absurd (none-some t is)
tag_part (Some s) k t is = by (is_rate k.rate (slice_get s.cluster.parts k.position)) refl is
  where
    by : (b : Bool) → is_rate k.rate (slice_get s.cluster.parts k.position) ≡ b → cond b (Some s.tag) None ≡ Some t → IsPartOf (Some s) k t
    by true r e =
        let some = rate_some k.rate (slice_get s.cluster.parts k.position) r in
        record {
          stored = s;
          there = refl;
          tag = same_Some s.tag t e;
          part = some.0;
          here = some.1;
          key = key_here k.serial k.position some.0 k refl refl some.2;
        }
    by false r e = absurd (none-some t e)

module _ (slots : Slots) (items : Items) (shown : IsShown slots items) where
  pub part_of_item : (i : Entry × Tag) → Contains items i → IsPartOf (at slots i.0.serial) (item_key i) i.1
  part_of_item i here = tag_part (at slots i.0.serial) (item_key i) i.1 (sym (shown.tags (item_key i)) ∙ listed_found items i shown.sorted.0 here)

  pub listed_tag : (p : Tag → Bool) (xs : Items) (e : Entry) → Contains (entries_by p xs) e → (t : Tag) × Contains xs (e, t)
  unfolding entries_by
  listed_tag p xs e here =
      let found_it = map-Contains (λ (i : Entry × Tag). i.0) (filter (λ i. p i.1) xs) e here in
      let kept = filter-Contains (λ (i : Entry × Tag). p i.1) xs found_it.0 found_it.1 in
      (found_it.0.1, subst (λ (d : Entry). Contains xs (d, found_it.0.1)) found_it.2 kept.1)

  pub has_parts : (p : Tag → Bool) → HasParts (λ (s : Stored). s.cluster.parts) slots (entries_by p items)
  has_parts p e here =
      let tagged = listed_tag p items e here in
      let is = part_of_item (e, tagged.0) tagged.1 in
      subst (λ o. e.position < length (parts_by (λ (s : Stored). s.cluster.parts) o))
      (sym is.there) (slice_get_within is.stored.cluster.parts e.position is.part is.here)

  -- ---- the parts in order

  same_key_at : (i : Entry × Tag) → Contains items i → key_at (shelved slots) (place_of i) ≡ item_key i
  same_key_at i here =
      let is = part_of_item i here in
      ap (λ o. key_in o (place_of i)) (get_shelved slots i.0.serial ∙ is.there)
      ∙ ap (λ (part : Part). key_part i.0.serial i.0.position part)
      (get_or_from_slice_get is.stored.cluster.parts i.0.position is.part no_part is.here) ∙ is.key

  in_order : (xs : Items) → ((i : Entry × Tag) → Contains xs i → Contains items i) → AreInOrder xs → IsInOrder (key_at (shelved slots)) (map place_of xs)
  unfolding IsInOrder
  in_order [] inside sorted = tt
  in_order (x ∷ xs) inside sorted = (
    all_less xs (λ i here. inside i (Contains-later x i xs here)) sorted.0,
    in_order xs (λ i here. inside i (Contains-later x i xs here)) sorted.1,
  )
    where
      first_key : key_at (shelved slots) (place_of x) ≡ item_key x
      first_key = same_key_at x (inside x (Contains-head x xs))

      all_less : (ys : Items) → ((i : Entry × Tag) → Contains ys i → Contains items i)
          → AllByRecursion (λ (y : Entry × Tag). key_cmp (item_key x) (item_key y) ≡ Less) ys
          → AllByRecursion (λ (y : ℕ × ℕ). key_cmp (key_at (shelved slots) (place_of x)) (key_at (shelved slots) y) ≡ Less) (map place_of ys)
      all_less [] within less = tt
      all_less (y ∷ ys) within less = (
        ap (λ (k : Key). key_cmp k (key_at (shelved slots) (place_of y))) first_key
            ∙ ap (key_cmp (item_key x)) (same_key_at y (within y (Contains-head y ys))) ∙ less.0,
        all_less ys (λ i here. within i (Contains-later y i ys here)) less.1,
      )

  listed_low : (place : ℕ × ℕ) → Contains (map place_of items) place → place.1 < length (parts_in (finmap.get (shelved slots) place.0))
  listed_low place here =
      let one = map-Contains place_of items place here in
      let is = part_of_item one.0 one.1 in
      let low : one.0.0.position < length (parts_in (finmap.get (shelved slots) one.0.0.serial)) =
      subst (λ o. one.0.0.position < length (parts_in o)) (sym (get_shelved slots one.0.0.serial ∙ is.there))
      (slice_get_within is.stored.cluster.parts one.0.0.position is.part is.here) in
      subst (λ (p : ℕ × ℕ). p.1 < length (parts_in (finmap.get (shelved slots) p.0))) one.2 low

  low_found : (n position : ℕ) (o : Option Stored) → at slots n ≡ o → position < length (parts_in o) → Contains (map place_of items) (n, position)
  unfolding has_rate
  low_found n position None is low = absurd (omega arith)
  low_found n position (Some s) is low =
      let part = get_or s.cluster.parts position no_part in
      let here : slice_get s.cluster.parts position ≡ Some part = slice_get-get_or s.cluster.parts position no_part low in
      let k = key_part n position part in
      let rate : is_rate k.rate (slice_get s.cluster.parts position) ≡ true = ap (is_rate k.rate) here ∙ rate_here part in
      let tag : found items k ≡ Some s.tag = shown.tags k ∙ ap (λ p. tag_for p k) is ∙ ap (λ b. cond b (Some s.tag) None) rate in
      let one = found_listed items k (ap is_some tag) in
      subst (Contains (map place_of items)) (ap (λ (l : Key). (l.serial, l.position)) one.2) (Contains-map place_of items one.0 one.1)

  pub is_ordered : IsOrdered (shelved slots) (map place_of items)
  is_ordered = record {
    exact = λ place. (
      λ here. listed_low place here,
      λ low. low_found place.0 place.1 (at slots place.0) refl (subst (λ o. place.1 < length (parts_in o)) (get_shelved slots place.0) low),
    );
    sorted = in_order items (λ i here. here) shown.sorted.0;
  }

  -- ---- what a walk shows

  passes_at : (p : Tag → Bool) (i : Entry × Tag) → Contains items i → passes p (finmap.get (shelved slots) i.0.serial) ≡ p i.1
  passes_at p i here = let is = part_of_item i here in ap (passes p) (get_shelved slots i.0.serial ∙ is.there) ∙ ap p is.tag

  shows : (i : Entry × Tag) → shown_of (λ (s : Stored). s.cluster.parts) slots i.0 ≡ shown_at (shelved slots) (place_of i)
  shows i = ap (λ o. record { number = i.0.serial; part = part_in o i.0.position }) (sym (get_shelved slots i.0.serial))

  holds : (i : Entry × Tag) → held_at_entry slots i.0 ≡ held_at (shelved slots) (place_of i)
  holds i =
      ap (λ (o : Option Stored). record { part = part_in o i.0.position; cluster = cluster_in o })
      (sym (get_shelved slots i.0.serial))

  -- what is shown of each entry is what is shown of its place
  walks : {X : Type 0} (of : Entry → X) (at_place : ℕ × ℕ → X) → ((i : Entry × Tag) → of i.0 ≡ at_place (place_of i))
      → (p : Tag → Bool) (xs : Items) → ((i : Entry × Tag) → Contains xs i → Contains items i)
      → map of (entries_by p xs) ≡ map at_place (filter (λ (place : ℕ × ℕ). passes p (finmap.get (shelved slots) place.0)) (map place_of xs))
  unfolding entries_by
  walks of at_place alike p [] inside = refl
  walks of at_place alike p (x ∷ xs) inside = by (p x.1) refl (walks of at_place alike p xs (λ i here. inside i (Contains-later x i xs here)))
    where
      same : passes p (finmap.get (shelved slots) x.0.serial) ≡ p x.1
      same = passes_at p x (inside x (Contains-head x xs))

      by : (b : Bool) → p x.1 ≡ b
          → map of (map (λ i. i.0) (filter (λ i. p i.1) xs))
          ≡ map at_place (filter (λ (place : ℕ × ℕ). passes p (finmap.get (shelved slots) place.0)) (map place_of xs))
          → map of (map (λ i. i.0) (filter (λ i. p i.1) (x ∷ xs)))
          ≡ map at_place (filter (λ (place : ℕ × ℕ). passes p (finmap.get (shelved slots) place.0)) (map place_of (x ∷ xs)))
      by true is rest = let there = same ∙ is in
          rw (is, there) (ap (λ y. y ∷ map of (map (λ i. i.0) (filter (λ i. p i.1) xs))) (alike x)
          ∙ ap (λ ys. at_place (place_of x) ∷ ys) rest)
      by false is rest = let there = same ∙ is in rw (is, there) rest

  pub walk_shows : (p : Tag → Bool) (least : ℕ)
      → map (shown_of (λ (s : Stored). s.cluster.parts) slots) (entries_by p items)
      ≡ shown_by p (record { clusters = shelved slots; order = map place_of items; least = least })
  unfolding places_by
  walk_shows p least = walks (shown_of (λ (s : Stored). s.cluster.parts) slots) (shown_at (shelved slots)) shows p items (λ i here. here)

  pub walk_holds : (level : Level) (least : ℕ)
      → map (held_at_entry slots) (entries_by (is_in level) items)
      ≡ held_in level (record { clusters = shelved slots; order = map place_of items; least = least })
  unfolding places_by
  walk_holds level least = walks (held_at_entry slots) (held_at (shelved slots)) holds (is_in level) items (λ i here. here)
