-- What each change of the map, of the trees and of the nodes leaves of an index.
use Rattle.std.proofs.Common.{◌≡◌, ℕ, ◌+◌, ◌-◌, ◌≤◌, Bool, true, false, List, [], ◌∷◌, length, Some, refl, sym, ap, ◌∙◌, subst, arith}
use Rattle.std.specs.List.{AllByRecursion}
use Rattle.std.specs.declared.cmp.Ordering.TheVariants.{Less}
use Rattle.chunk_index.specs.declared.entry.Entry.{Entry}
use Rattle.chunk_index.specs.declared.entry.Tag.{Tag}
use Rattle.chunk_index.specs.declared.entry.Tag.TheVariants.{Both, MainOnly, TopOnly}
use Rattle.chunk_index.specs.declared.key.Key.{Key}
use Rattle.chunk_index.specs.KeyOrder.{key_cmp}
use Rattle.chunk_index.specs.Keys.{key_of, IsInOrder, has_key, put, without}
use Rattle.chunk_index.specs.Items.{Items, item_key, AreInOrder, HasEntry, found, has, same_tag, entries_by, tag_set, with_tag, with_entry}
use Rattle.chunk_index.specs.Kept.{tag_in, item_of, items_of, IsKept}
use Rattle.chunk_index.specs.Pairs.{pair_key}
use Rattle.chunk_index.proofs.Lists.{without_absent, without_in_order, lacks_without, put-without}
use Rattle.chunk_index.proofs.Maps.{Numbers, length-items}
use Rattle.chunk_index.proofs.Merges.{map-put, map-without, put_order}
use Rattle.chunk_index.proofs.Tags.{entries_in_order, lacks-entries, entries-without, entries-moved, entries-set, entries-other}
use Rattle.chunk_index.proofs.Items.{has-found, tag-moves, two-tags, two-tags-less}
use Rattle.chunk_index.proofs.Trees.{found-told, has-tagged, items-set, tells-without, tells-main, tells-top}

-- the keys' order is theirs whatever the trees are
module _ (m t n u : List Entry) where
  all-again : (k : Key) (es : Numbers) → AllByRecursion (λ i. key_cmp k (item_key i) ≡ Less) (items_of es m t)
      → AllByRecursion (λ i. key_cmp k (item_key i) ≡ Less) (items_of es n u)
  all-again k [] all = tt
  all-again k (e ∷ es) all = (all.0, all-again k es all.1)

  order-again : (es : Numbers) → AreInOrder (items_of es m t) → AreInOrder (items_of es n u)
  unfolding IsInOrder
  order-again [] order = tt
  order-again (e ∷ es) order = (all-again e.0 es order.0, order-again es order.1)

module _ {es : Numbers} {m t : List Entry} {count more kept room : ℕ} (is : IsKept es m t count more kept room) where
  -- ---- what the trees are
  pub main-order : IsInOrder key_of m
  main-order = subst (IsInOrder key_of) (sym is.main) (entries_in_order (same_tag MainOnly) (items_of es m t) is.order)

  pub top-order : IsInOrder key_of t
  top-order = subst (IsInOrder key_of) (sym is.top) (entries_in_order (same_tag TopOnly) (items_of es m t) is.order)

  pub few : length m + length t ≤ length es
  few = omega (arith, ap length is.main, ap length is.top, two-tags (items_of es m t), length-items m t es)

  -- a key that main's tree has, staging's hasn't
  pub apart : (k : Key) → tag_in m t k ≡ MainOnly → has_key key_of t k ≡ false
  apart k tag = ap (λ (xs : List Entry). has_key key_of xs k) is.top ∙ has-tagged m t (same_tag TopOnly) es k ∙ rw tag refl

  -- what is found under a key has the tag that the trees tell
  pub told : (k : Key) {items : Items} {a : Tag} → items_of es m t ≡ items → (n : ℕ) × (found items k ≡ Some (n, a)) → tag_in m t k ≡ a
  told k {items} {a} seen at = found-told m t k es at.0 a (ap (λ (xs : Items). found xs k) seen ∙ at.1)

  -- ---- a key that comes out of both trees
  module _ (k : Key) (n u : List Entry) (main : n ≡ without key_of m k) (top : u ≡ without key_of t k) where
    out_of_both : items_of es n u ≡ tag_set (items_of es m t) k Both
    out_of_both =
        ap (λ (xs : List Entry). items_of es xs u) main
        ∙ ap (λ (xs : List Entry). items_of es (without key_of m k) xs) top
        ∙ items-set m t (without key_of m k) (without key_of t k) k Both (tells-without m t k) es

    pub shared-items : {items : Items} → items_of es m t ≡ items → items_of es n u ≡ tag_set items k Both
    shared-items seen = out_of_both ∙ ap (λ (xs : Items). tag_set xs k Both) seen

    comes_out : (p : Tag → Bool) (old new : List Entry) → p Both ≡ false → old ≡ entries_by p (items_of es m t) → new ≡ without key_of old k
        → new ≡ entries_by p (items_of es n u)
    comes_out p old new drops was out =
        out ∙ ap (λ (xs : List Entry). without key_of xs k) was ∙ sym (entries-set p (items_of es m t) k Both drops)
        ∙ ap (entries_by p) (sym out_of_both)

    pub shared-kept : (kept2 room2 : ℕ) → kept2 + length n + length u ≡ kept + length m + length t → room2 ≡ room → IsKept es n u count more kept2 room2
    shared-kept kept2 room2 same same_room = record {
      order = order-again m t n u es is.order;
      main = comes_out (same_tag MainOnly) m n refl is.main main;
      top = comes_out (same_tag TopOnly) t u refl is.top top;
      counted = is.counted;
      nodes = omega (arith, is.nodes, same);
      fits = omega (arith, is.fits, same, same_room);
    }

  -- ---- a key of an entry that stands in both levels
  module _ (k : Key) {items : Items} (seen : items_of es m t ≡ items) (in_both : tag_set items k Both ≡ items) where
    shared : tag_set (items_of es m t) k Both ≡ items_of es m t
    shared = ap (λ (xs : Items). tag_set xs k Both) seen ∙ in_both ∙ sym seen

    lacks : (p : Tag → Bool) (list : List Entry) → p Both ≡ false → list ≡ entries_by p (items_of es m t) → has_key key_of list k ≡ false
    lacks p list drops was =
        ap (λ (xs : List Entry). has_key key_of xs k) (was ∙ ap (entries_by p) (sym shared) ∙ entries-set p (items_of es m t) k Both drops)
        ∙ lacks_without key_of (entries_by p (items_of es m t)) k

    pub main-lacks : has_key key_of m k ≡ false
    main-lacks = lacks (same_tag MainOnly) m refl is.main

    pub top-lacks : has_key key_of t k ≡ false
    top-lacks = lacks (same_tag TopOnly) t refl is.top

    -- ---- its number goes
    module _ (new : Numbers) (gone : new ≡ without pair_key es k) where
      left : items_of new m t ≡ without item_key (items_of es m t) k
      left = ap (λ (ns : Numbers). items_of ns m t) gone ∙ map-without pair_key item_key (item_of m t) (λ e. refl) es k

      pub leave-items : items_of new m t ≡ without item_key items k
      leave-items = left ∙ ap (λ (xs : Items). without item_key xs k) seen

      stays_out : (p : Tag → Bool) (list : List Entry) → has_key key_of list k ≡ false → list ≡ entries_by p (items_of es m t)
          → list ≡ entries_by p (items_of new m t)
      stays_out p list lacking was =
          sym (without_absent key_of list k lacking) ∙ ap (λ (xs : List Entry). without key_of xs k) was ∙ sym (entries-without p (items_of es m t) k)
          ∙ ap (entries_by p) (sym left)

      pub leave-few : length m + length t ≤ length new
      leave-few = omega (
        arith,
        ap length (stays_out (same_tag MainOnly) m main-lacks is.main),
        ap length (stays_out (same_tag TopOnly) t top-lacks is.top),
        two-tags (items_of new m t),
        length-items m t new,
      )

      pub leave-kept : (count2 kept2 room2 : ℕ) → length new ≤ count2 → count2 + more - (length m + length t) ≤ kept2 → kept2 ≤ kept → room2 ≡ room
          → IsKept new m t count2 more kept2 room2
      leave-kept count2 kept2 room2 counted enough less same_room = record {
        order = subst AreInOrder (sym left) (without_in_order item_key (items_of es m t) k is.order);
        main = stays_out (same_tag MainOnly) m main-lacks is.main;
        top = stays_out (same_tag TopOnly) t top-lacks is.top;
        counted = counted;
        nodes = omega (arith, enough);
        fits = omega (arith, is.fits, less, same_room);
      }

  -- ---- an entry that stands in both levels gets a tag
  module _ (e : Entry) {items : Items} (seen : items_of es m t ≡ items) (has_it : HasEntry items e) (in_both : with_tag items e Both ≡ items) where
    there : HasEntry (items_of es m t) e
    there = subst (λ (xs : Items). HasEntry xs e) (sym seen) has_it

    pub has_node : length m + length t + 1 ≤ length es
    has_node = omega (
      arith,
      ap length is.main,
      ap length is.top,
      length-items m t es,
      two-tags-less (items_of es m t) (key_of e) (has-found (items_of es m t) (key_of e) _ there.1) (shared (key_of e) seen in_both),
    )

    goes_in : (p : Tag → Bool) (list : List Entry) (a : Tag) → p a ≡ true → list ≡ entries_by p (items_of es m t)
        → put key_of list e ≡ entries_by p (with_tag (items_of es m t) e a)
    goes_in p list a passes was =
        ap (λ (xs : List Entry). put key_of xs e) was
        ∙ sym (put-without key_of (entries_by p (items_of es m t)) e)
        ∙ sym (entries-moved p (items_of es m t) e a is.order ∙ rw passes refl)
        ∙ ap (entries_by p) (sym (tag-moves (items_of es m t) e there.0 a is.order there.1))

    stays : (p : Tag → Bool) (list : List Entry) (a : Tag) → p a ≡ false → has_key key_of list (key_of e) ≡ false
        → list ≡ entries_by p (items_of es m t) → list ≡ entries_by p (with_tag (items_of es m t) e a)
    stays p list a drops lacking was =
        sym (without_absent key_of list (key_of e) lacking) ∙ ap (λ (xs : List Entry). without key_of xs (key_of e)) was
        ∙ sym (entries-set p (items_of es m t) (key_of e) a drops)

    in_main : (n : List Entry) → n ≡ put key_of m e → items_of es n t ≡ with_tag (items_of es m t) e MainOnly
    in_main n put_in = ap (λ (xs : List Entry). items_of es xs t) put_in ∙ items-set m t (put key_of m e) t (key_of e) MainOnly (tells-main m t e) es

    pub main-items : (n : List Entry) → n ≡ put key_of m e → items_of es n t ≡ with_tag items e MainOnly
    main-items n put_in = in_main n put_in ∙ ap (λ (xs : Items). with_tag xs e MainOnly) seen

    pub main-kept : (n : List Entry) (kept2 room2 : ℕ) → n ≡ put key_of m e → length n ≡ length m + 1 → kept2 + 1 ≡ kept → room2 ≡ room
        → IsKept es n t count more kept2 room2
    main-kept n kept2 room2 put_in longer less same_room = record {
      order = order-again m t n t es is.order;
      main = put_in ∙ goes_in (same_tag MainOnly) m MainOnly refl is.main
          ∙ ap (entries_by (same_tag MainOnly)) (sym (in_main n put_in));
      counted = is.counted;
      top = stays (same_tag TopOnly) t MainOnly refl (top-lacks (key_of e) seen in_both) is.top ∙ ap (entries_by (same_tag TopOnly)) (sym (in_main n put_in));
      nodes = omega (arith, is.nodes, longer, less);
      fits = omega (arith, is.fits, longer, less, same_room);
    }

    in_top : (u : List Entry) → u ≡ put key_of t e → items_of es m u ≡ with_tag (items_of es m t) e TopOnly
    in_top u put_in = ap (λ (xs : List Entry). items_of es m xs) put_in
        ∙ items-set m t m (put key_of t e) (key_of e) TopOnly (tells-top m t e (main-lacks (key_of e) seen in_both)) es

    pub top-items : (u : List Entry) → u ≡ put key_of t e → items_of es m u ≡ with_tag items e TopOnly
    top-items u put_in = in_top u put_in ∙ ap (λ (xs : Items). with_tag xs e TopOnly) seen

    pub top-kept : (u : List Entry) (kept2 room2 : ℕ) → u ≡ put key_of t e → length u ≡ length t + 1 → kept2 + 1 ≡ kept → room2 ≡ room
        → IsKept es m u count more kept2 room2
    top-kept u kept2 room2 put_in longer less same_room = record {
      order = order-again m t m u es is.order;
      main = stays (same_tag MainOnly) m TopOnly refl (main-lacks (key_of e) seen in_both) is.main
          ∙ ap (entries_by (same_tag MainOnly)) (sym (in_top u put_in));
      top = put_in ∙ goes_in (same_tag TopOnly) t TopOnly refl is.top
          ∙ ap (entries_by (same_tag TopOnly)) (sym (in_top u put_in));
      counted = is.counted;
      nodes = omega (arith, is.nodes, longer, less);
      fits = omega (arith, is.fits, longer, less, same_room);
    }

  -- ---- an entry that comes in
  module _ (e : Entry) {items : Items} (seen : items_of es m t ≡ items) (missing : has items e ≡ false) (new : Numbers)
      (come : new ≡ put pair_key es (key_of e, e.number)) where
    absent : has (items_of es m t) e ≡ false
    absent = ap (λ (xs : Items). has xs e) seen ∙ missing

    out : (p : Tag → Bool) (list : List Entry) → list ≡ entries_by p (items_of es m t) → has_key key_of list (key_of e) ≡ false
    out p list was = ap (λ (xs : List Entry). has_key key_of xs (key_of e)) was ∙ lacks-entries p (items_of es m t) (key_of e) absent

    tagged : tag_in m t (key_of e) ≡ Both
    unfolding tag_in
    tagged =
        let in_main = out (same_tag MainOnly) m is.main in
        let in_top = out (same_tag TopOnly) t is.top in
        rw (in_main, in_top) refl

    with_it : items_of new m t ≡ with_entry (items_of es m t) e Both
    with_it =
        ap (λ (ns : Numbers). items_of ns m t) come ∙ map-put pair_key item_key (item_of m t) (λ e. refl) es (key_of e, e.number)
        ∙ ap (λ (a : Tag). with_entry (items_of es m t) e a) tagged

    pub enter-items : items_of new m t ≡ with_entry items e Both
    enter-items = with_it ∙ ap (λ (xs : Items). with_entry xs e Both) seen

    stays_as : (p : Tag → Bool) (list : List Entry) → p Both ≡ false → list ≡ entries_by p (items_of es m t)
        → list ≡ entries_by p (items_of new m t)
    stays_as p list drops was =
        was ∙ sym (entries-other p (items_of es m t) e Both is.order absent drops) ∙ ap (entries_by p) (sym with_it)

    pub enter-kept : (count2 more2 kept2 room2 : ℕ) → length new ≤ count2 → count2 + more2 ≤ kept2 + length m + length t
        → kept2 + length m + length t + more2 ≤ room2 → IsKept new m t count2 more2 kept2 room2
    enter-kept count2 more2 kept2 room2 counted enough fits = record {
      order = subst AreInOrder (sym with_it) (put_order item_key (items_of es m t) (e, Both) is.order);
      main = stays_as (same_tag MainOnly) m refl is.main;
      top = stays_as (same_tag TopOnly) t refl is.top;
      counted = counted;
      nodes = enough;
      fits = fits;
    }

  -- ---- other nodes, and other room
  pub again-kept : (count2 more2 kept2 room2 : ℕ) → length es ≤ count2 → count2 + more2 ≤ kept2 + length m + length t
      → kept2 + length m + length t + more2 ≤ room2 → IsKept es m t count2 more2 kept2 room2
  again-kept count2 more2 kept2 room2 counted enough fits = record {
    order = is.order;
    main = is.main;
    top = is.top;
    counted = counted;
    nodes = enough;
    fits = fits;
  }

-- an index of no entries
pub none-kept : (es : Numbers) (m t : List Entry) (count more kept room : ℕ) → es ≡ [] → m ≡ [] → t ≡ [] → count ≡ 0 → more ≡ 0 → kept ≡ 0
    → IsKept es m t count more kept room
unfolding IsInOrder entries_by
none-kept es m t count more kept room none none_main none_top counts mores nothing = rw (none, none_main, none_top, counts, mores, nothing) (record {
  order = tt;
  main = refl;
  top = refl;
  counted = omega arith;
  nodes = omega arith;
  fits = omega arith;
})
