-- What each change leaves of an index with its fresh entries.
use Rattle.std.proofs.Common.{◌≡◌, ℕ, ◌+◌, ◌-◌, ◌≤◌, Bool, true, false, List, [], ◌∷◌, length, ◌||◌, Option, Some, None, is_some, option_map, MatchOption, refl, sym, ap, ◌∙◌, subst, arith}
use Rattle.std.specs.Map.{lookup}
use Rattle.chunk_index.specs.declared.entry.Entry.{Entry}
use Rattle.chunk_index.specs.declared.entry.Tag.{Tag}
use Rattle.chunk_index.specs.declared.entry.Tag.TheVariants.{Both, MainOnly, TopOnly}
use Rattle.chunk_index.specs.declared.key.Key.{Key}
use Rattle.chunk_index.specs.Keys.{IsInOrder, key_of, has_key, not_before, number_at, put, without}
use Rattle.chunk_index.specs.declared.walk.Wanted.{Wanted}
use Rattle.chunk_index.specs.Walks.{passes, left_in}
use Rattle.chunk_index.specs.Merges.{put_all}
use Rattle.chunk_index.specs.Items.{Items, item_key, AreInOrder, found, has, tag_set, with_entry, same_tag, entries_by, entries_tagged}
use Rattle.chunk_index.specs.Kept.{tag_in, entry_from, item_of, items_of, IsKept}
use Rattle.chunk_index.specs.Pairs.{pair_key}
use Rattle.chunk_index.specs.Fresh.{with_fresh, IsIndex}
use Rattle.chunk_index.proofs.Lists.{without_in_order, lacks_without}
use Rattle.chunk_index.proofs.Finds.{number-has}
use Rattle.chunk_index.proofs.Maps.{Numbers, test, number_told, has-lookup}
use Rattle.chunk_index.proofs.Tags.{lacks-entries}
use Rattle.chunk_index.proofs.Walks.{left_from}
use Rattle.chunk_index.proofs.Merges.{either, all_alone, put_order, none_order, map-has}
use Rattle.chunk_index.proofs.Kept.{few, told, shared-items, shared-kept, main-lacks, top-lacks, leave-items, leave-few, leave-kept, has_node, main-items, main-kept, top-items, top-kept, enter-items, enter-kept, again-kept, none-kept}
use Rattle.chunk_index.proofs.Fresh.{entries-fresh, entries-old, all_apart, true_false, view-has, view-found, tag-same, view_order, view_lacks, found_listed, not_fresh, found_fresh, fresh_lacks, view-enter, view-leave, view-tag, view-begin, view-end, view-list, apart-enter, apart-leave, apart-begin, apart-end, apart-list}

top_both : TopOnly ≡ Both → ⊥
top_both e = cc

top_main : TopOnly ≡ MainOnly → ⊥
top_main e = cc

pub none-index : (es : Numbers) (m t f : List Entry) (count kept room : ℕ) → es ≡ [] → m ≡ [] → t ≡ [] → f ≡ [] → count ≡ 0 → kept ≡ 0
    → IsIndex es m t f count kept room
unfolding has_key
none-index es m t f count kept room no_numbers no_main no_top no_fresh counts nothing = record {
  listed = none-kept es m t count (length f) kept room no_numbers no_main no_top counts (ap length no_fresh) nothing;
  order = subst (IsInOrder key_of) (sym no_fresh) (none_order key_of);
  apart = λ k has. ap (λ (ns : Numbers). has_key pair_key ns k) no_numbers;
}

module _ {es : Numbers} {m t f : List Entry} {count kept room : ℕ} (is : IsIndex es m t f count kept room) where
  abbrev others : Items
  others = items_of es m t

  pub index-order : {items : Items} → with_fresh others f ≡ items → AreInOrder items
  index-order seen = subst AreInOrder seen (view_order others f is.listed.order is.order)

  pub fewer : length m + length t ≤ count
  fewer = omega (arith, few is.listed, is.listed.counted)

  -- numbers that stand elsewhere
  pub caught-index : (new : Numbers) (count2 : ℕ) → new ≡ es → length new ≤ count2 → count2 ≤ count → IsIndex new m t f count2 kept room
  caught-index new count2 same counted less = record {
    listed = subst (λ (ns : Numbers). IsKept ns m t count2 (length f) kept room) (sym same)
        (again-kept is.listed count2 (length f) kept room (omega (arith, counted, ap length same)) (omega (arith, is.listed.nodes, less)) is.listed.fits);
    order = is.order;
    apart = λ q has. ap (λ (ns : Numbers). has_key pair_key ns q) same ∙ is.apart q has;
  }

  module _ {items : Items} (seen : with_fresh others f ≡ items) where
    -- ---- an entry that comes in
    module _ (e : Entry) (missing : has items e ≡ false) where
      missing_both : (has_key key_of f (key_of e) ≡ false) × (has_key item_key others (key_of e) ≡ false)
      missing_both = view_lacks others f is.listed.order is.order (key_of e) (ap (λ (xs : Items). has xs e) seen ∙ missing)

      pub no_number : has_key pair_key es (key_of e) ≡ false
      no_number = sym (map-has pair_key item_key (item_of m t) (λ p. refl) es (key_of e)) ∙ missing_both.1

      pub no_fresh : has_key key_of f (key_of e) ≡ false
      no_fresh = missing_both.0

      pub come-items : (new : Numbers) → new ≡ put pair_key es (key_of e, e.number) → with_fresh (items_of new m t) f ≡ with_entry items e Both
      come-items new come =
          ap (λ (xs : Items). with_fresh xs f) (enter-items is.listed e refl missing_both.1 new come)
          ∙ view-enter others f is.listed.order is.order e Both missing_both.0
          ∙ ap (λ (xs : Items). with_entry xs e Both) seen

      pub come-index : (new : Numbers) (count2 kept2 room2 : ℕ) → new ≡ put pair_key es (key_of e, e.number) → length new ≤ count2
          → count2 + length f ≤ kept2 + length m + length t → kept2 + length m + length t + length f ≤ room2 → IsIndex new m t f count2 kept2 room2
      come-index new count2 kept2 room2 come counted enough fits = record {
        listed = enter-kept is.listed e refl missing_both.1 new come count2 (length f) kept2 room2 counted enough fits;
        order = is.order;
        apart = λ q has. ap (λ (ns : Numbers). has_key pair_key ns q) come
            ∙ apart-enter es f is.apart (key_of e) e.number missing_both.0 q has;
      }

      pub begin-items : (f2 : List Entry) → f2 ≡ put key_of f e → with_fresh others f2 ≡ with_entry items e TopOnly
      begin-items f2 put_in =
          ap (λ (xs : List Entry). with_fresh others xs) put_in ∙ view-begin others f is.listed.order is.order e
          ∙ ap (λ (xs : Items). with_entry xs e TopOnly) seen

      pub begin-index : (f2 : List Entry) (kept2 room2 : ℕ) → f2 ≡ put key_of f e → count + length f2 ≤ kept2 + length m + length t
          → kept2 + length m + length t + length f2 ≤ room2 → IsIndex es m t f2 count kept2 room2
      begin-index f2 kept2 room2 put_in enough fits = record {
        listed = again-kept is.listed count (length f2) kept2 room2 is.listed.counted enough fits;
        order = subst (IsInOrder key_of) (sym put_in) (put_order key_of f e is.order);
        apart = λ q has. apart-begin es f is.apart e no_number q (sym (ap (λ (xs : List Entry). has_key key_of xs q) put_in) ∙ has);
      }

    -- ---- a fresh one that goes out
    module _ (k : Key) (there : has_key key_of f k ≡ true) (f2 : List Entry) (gone : f2 ≡ without key_of f k) where
      pub end-items : with_fresh others f2 ≡ without item_key items k
      end-items =
          ap (λ (xs : List Entry). with_fresh others xs) gone
          ∙ view-end others f is.listed.order is.order k (map-has pair_key item_key (item_of m t) (λ p. refl) es k ∙ is.apart k there)
          ∙ ap (λ (xs : Items). without item_key xs k) seen

      pub end-index : (kept2 room2 : ℕ) → count + length f2 ≤ kept2 + length m + length t
          → kept2 + length m + length t + length f2 ≤ room2 → IsIndex es m t f2 count kept2 room2
      end-index kept2 room2 enough fits = record {
        listed = again-kept is.listed count (length f2) kept2 room2 is.listed.counted enough fits;
        order = subst (IsInOrder key_of) (sym gone) (without_in_order key_of f k is.order);
        apart = λ q has. apart-end es f is.apart k q (sym (ap (λ (xs : List Entry). has_key key_of xs q) gone) ∙ has);
      }

    pub main_old : (k : Key) (n : ℕ) → found items k ≡ Some (n, MainOnly) → number_at f k ≡ None
    main_old k n at = not_fresh others f is.listed.order is.order k n MainOnly top_main (ap (λ (xs : Items). found xs k) seen ∙ at)

    pub has_number : (k : Key) (n : ℕ) → number_at f k ≡ Some n → has_key key_of f k ≡ true
    has_number k n at = number-has f k ∙ ap is_some at

    pub number_fresh : (k : Key) (n : ℕ) → number_at f k ≡ Some n → found items k ≡ Some (n, TopOnly)
    number_fresh k n at =
        ap (λ (xs : Items). found xs k) (sym seen) ∙ view-found others f is.listed.order is.order k
        ∙ ap (λ (o : Option ℕ). either (option_map (λ i. (i, TopOnly)) o) (found others k)) at

    pub number_listed : (k : Key) (o : Option ℕ) → number_at f k ≡ None → o ≡ lookup (test k) es
        → MatchOption o (has_key item_key items k ≡ false) (λ n. (t : Tag) × (found items k ≡ Some (n, t)))
    number_listed k o none at = by o (number_told m t es k o at)
      where
        by : (p : Option ℕ) → MatchOption p (has_key item_key others k ≡ false) (λ n. (t : Tag) × (found others k ≡ Some (n, t)))
            → MatchOption p (has_key item_key items k ≡ false) (λ n. (t : Tag) × (found items k ≡ Some (n, t)))
        by None lacks =
            ap (λ (xs : Items). has_key item_key xs k) (sym seen) ∙ view-has others f is.listed.order is.order k
            ∙ ap (λ b. b || has_key item_key others k) (fresh_lacks others f is.listed.order is.order k none) ∙ lacks
        by (Some n) (t, here) = (
          t,
          ap (λ (xs : Items). found xs k) (sym seen) ∙ view-found others f is.listed.order is.order k
              ∙ ap (λ (o : Option ℕ). either (option_map (λ i. (i, TopOnly)) o) (found others k)) none ∙ here,
        )

    pub tag_fresh : (k : Key) (n : ℕ) (a : Tag) → has_key key_of f k ≡ true → found items k ≡ Some (n, a) → a ≡ TopOnly
    tag_fresh k n a there at = by (number_at f k) refl
      where
        by : (o : Option ℕ) → number_at f k ≡ o → a ≡ TopOnly
        by None none = absurd (true_false (sym there ∙ fresh_lacks others f is.listed.order is.order k none))
        by (Some i) here = sym (found_fresh others f is.listed.order is.order k i n a here (ap (λ (xs : Items). found xs k) seen ∙ at)).1

    -- ---- whether a key is there
    pub has_fresh : (k : Key) → has_key key_of f k ≡ true → has_key item_key items k ≡ true
    has_fresh k there =
        ap (λ (xs : Items). has_key item_key xs k) (sym seen) ∙ view-has others f is.listed.order is.order k
        ∙ ap (λ b. b || has_key item_key others k) there

    pub has_listed : (k : Key) → has_key key_of f k ≡ false → has_key item_key items k ≡ is_some (lookup (test k) es)
    has_listed k absent =
        ap (λ (xs : Items). has_key item_key xs k) (sym seen) ∙ view-has others f is.listed.order is.order k
        ∙ ap (λ b. b || has_key item_key others k) absent ∙ has-lookup m t k es

    -- ---- the entries of some tags
    pub entries_with : (p : Tag → Bool) → p TopOnly ≡ true → put_all key_of (entries_by p others) f ≡ entries_by p items
    entries_with p passes = sym (entries-fresh p passes others f) ∙ ap (entries_by p) seen

    pub entries_without : (p : Tag → Bool) → p TopOnly ≡ false → entries_by p others ≡ entries_by p items
    entries_without p drops =
        sym (entries-old p drops others f is.listed.order (all_apart (λ k. has_key key_of (entries_by p others) k) f
        (λ k has. lacks-entries p others k (map-has pair_key item_key (item_of m t) (λ e. refl) es k ∙ is.apart k has))))
        ∙ ap (entries_by p) seen

    pub shown_all : (wanted : Wanted) (span : Numbers) (part : List Entry) → span ≡ es → part ≡ f → passes wanted TopOnly ≡ true
        → put_all key_of (left_in span m t wanted) part ≡ entries_by (passes wanted) items
    shown_all wanted span part all whole counts =
        ap (λ (ns : Numbers). put_all key_of (left_in ns m t wanted) part) all ∙ ap (put_all key_of (left_in es m t wanted)) whole
        ∙ entries_with (passes wanted) counts

    pub shown_old : (wanted : Wanted) (span : Numbers) (part : List Entry) → span ≡ es → part ≡ [] → passes wanted TopOnly ≡ false
        → put_all key_of (left_in span m t wanted) part ≡ entries_by (passes wanted) items
    unfolding put_all
    shown_old wanted span part all none drops =
        ap (λ (ns : Numbers). put_all key_of (left_in ns m t wanted) part) all ∙ ap (put_all key_of (left_in es m t wanted)) none
        ∙ entries_without (passes wanted) drops

    pub shown_from : (wanted : Wanted) (k : Key) (span : Numbers) (part : List Entry) → span ≡ not_before pair_key es k → part ≡ []
        → passes wanted TopOnly ≡ false → put_all key_of (left_in span m t wanted) part ≡ not_before key_of (entries_by (passes wanted) items) k
    unfolding put_all
    shown_from wanted k span part from none drops =
        ap (λ (ns : Numbers). put_all key_of (left_in ns m t wanted) part) from
        ∙ ap (put_all key_of (left_in (not_before pair_key es k) m t wanted)) none
        ∙ left_from m t wanted k es
        ∙ ap (λ (xs : List Entry). not_before key_of xs k) (entries_without (passes wanted) drops)

    pub shown_main : m ≡ entries_tagged MainOnly items
    shown_main = is.listed.main ∙ entries_without (same_tag MainOnly) refl

    pub shown_fresh : length t ≡ 0 → f ≡ entries_tagged TopOnly items
    shown_fresh none =
        sym (all_alone key_of f is.order) ∙ ap (λ (xs : List Entry). put_all key_of xs f) (sym (nothing t none) ∙ is.listed.top)
        ∙ entries_with (same_tag TopOnly) refl
      where
        nothing : (xs : List Entry) → length xs ≡ 0 → xs ≡ []
        nothing [] e = refl
        nothing (x ∷ xs) e = absurd (omega (arith, e))

    -- ---- an entry that is found
    module _ (k : Key) (n : ℕ) (a : Tag) (at : found items k ≡ Some (n, a)) where
      at_view : found (with_fresh others f) k ≡ Some (n, a)
      at_view = ap (λ (xs : Items). found xs k) seen ∙ at

      -- a fresh one is listed
      module _ (number : ℕ) (fresh : number_at f k ≡ Some number) (there : has_key key_of f k ≡ true) (f2 : List Entry)
          (gone : f2 ≡ without key_of f k) (new : Numbers) (come : new ≡ put pair_key es (k, number)) where
        absent : has_key item_key others k ≡ false
        absent = map-has pair_key item_key (item_of m t) (λ p. refl) es k ∙ is.apart k there

        at_number : found (with_fresh others f) k ≡ Some (number, a)
        at_number = at_view ∙ ap (λ i. Some (i, a)) (sym (found_fresh others f is.listed.order is.order k number n a fresh at_view).0)

        pub list-items : with_fresh (items_of new m t) f2 ≡ tag_set items k Both
        list-items =
            ap (λ (xs : Items). with_fresh xs f2) (enter-items is.listed (entry_from k number) refl absent new come)
            ∙ ap (λ (xs : List Entry). with_fresh (with_entry others (entry_from k number) Both) xs) gone
            ∙ view-list others f is.listed.order is.order (entry_from k number) a absent (without_in_order key_of f k is.order)
            (lacks_without key_of f k) at_number
            ∙ ap (λ (xs : Items). tag_set xs k Both) seen

        pub list-index : (count2 kept2 room2 : ℕ) → length new ≤ count2 → count2 + length f2 ≤ kept2 + length m + length t
            → kept2 + length m + length t + length f2 ≤ room2 → IsIndex new m t f2 count2 kept2 room2
        list-index count2 kept2 room2 counted enough fits = record {
          listed = enter-kept is.listed (entry_from k number) refl absent new come count2 (length f2) kept2 room2 counted enough fits;
          order = subst (IsInOrder key_of) (sym gone) (without_in_order key_of f k is.order);
          apart = λ q has. ap (λ (ns : Numbers). has_key pair_key ns q) come
              ∙ apart-list es f is.apart k number q (sym (ap (λ (xs : List Entry). has_key key_of xs q) gone) ∙ has);
        }

      -- another
      module _ (old : number_at f k ≡ None) where
        at_listed : found others k ≡ Some (n, a)
        at_listed = found_listed others f is.listed.order is.order k (Some (n, a)) old at_view

        lacks : has_key key_of f k ≡ false
        lacks = fresh_lacks others f is.listed.order is.order k old

        pub told_listed : tag_in m t k ≡ a
        told_listed = told is.listed k refl (n, at_listed)

        pub share-items : (n2 u2 : List Entry) → n2 ≡ without key_of m k → u2 ≡ without key_of t k
            → with_fresh (items_of es n2 u2) f ≡ tag_set items k Both
        share-items n2 u2 main top =
            ap (λ (xs : Items). with_fresh xs f) (shared-items is.listed k n2 u2 main top refl)
            ∙ view-tag others f is.listed.order is.order k Both lacks
            ∙ ap (λ (xs : Items). tag_set xs k Both) seen

        pub share-index : (n2 u2 : List Entry) (kept2 room2 : ℕ) → n2 ≡ without key_of m k → u2 ≡ without key_of t k
            → kept2 + length n2 + length u2 ≡ kept + length m + length t → room2 ≡ room → IsIndex es n2 u2 f count kept2 room2
        share-index n2 u2 kept2 room2 main top same same_room = record {
          listed = shared-kept is.listed k n2 u2 main top kept2 room2 same same_room;
          order = is.order;
          apart = is.apart;
        }

    -- ---- an entry that stands in both levels
    module _ (e : Entry) (at : found items (key_of e) ≡ Some (e.number, Both)) where
      old : number_at f (key_of e) ≡ None
      old = not_fresh others f is.listed.order is.order (key_of e) e.number Both top_both (ap (λ (xs : Items). found xs (key_of e)) seen ∙ at)

      at_both : found others (key_of e) ≡ Some (e.number, Both)
      at_both = at_listed (key_of e) e.number Both at old

      in_both : tag_set others (key_of e) Both ≡ others
      in_both = tag-same others (key_of e) e.number Both is.listed.order at_both

      pub lacks_main : has_key key_of m (key_of e) ≡ false
      lacks_main = main-lacks is.listed (key_of e) refl in_both

      pub lacks_top : has_key key_of t (key_of e) ≡ false
      lacks_top = top-lacks is.listed (key_of e) refl in_both

      pub a_node : length m + length t + 1 ≤ count
      a_node = omega (arith, has_node is.listed e refl (Both, at_both) in_both, is.listed.counted)

      -- it goes out
      pub go-items : (new : Numbers) → new ≡ without pair_key es (key_of e) → with_fresh (items_of new m t) f ≡ without item_key items (key_of e)
      go-items new gone =
          ap (λ (xs : Items). with_fresh xs f) (leave-items is.listed (key_of e) refl in_both new gone)
          ∙ view-leave others f is.listed.order is.order (key_of e) (lacks (key_of e) e.number Both at old)
          ∙ ap (λ (xs : Items). without item_key xs (key_of e)) seen

      pub go-few : (new : Numbers) → new ≡ without pair_key es (key_of e) → length m + length t ≤ length new
      go-few new gone = leave-few is.listed (key_of e) refl in_both new gone

      pub go-index : (new : Numbers) (count2 kept2 room2 : ℕ) → new ≡ without pair_key es (key_of e) → length new ≤ count2
          → count2 + length f - (length m + length t) ≤ kept2 → kept2 ≤ kept → room2 ≡ room → IsIndex new m t f count2 kept2 room2
      go-index new count2 kept2 room2 gone counted enough less same_room = record {
        listed = leave-kept is.listed (key_of e) refl in_both new gone count2 kept2 room2 counted enough less same_room;
        order = is.order;
        apart = λ q has. ap (λ (ns : Numbers). has_key pair_key ns q) gone ∙ apart-leave es f is.apart (key_of e) q has;
      }

      -- it gets a tag
      pub main_only-items : (n2 : List Entry) → n2 ≡ put key_of m e → with_fresh (items_of es n2 t) f ≡ tag_set items (key_of e) MainOnly
      main_only-items n2 put_in =
          ap (λ (xs : Items). with_fresh xs f) (main-items is.listed e refl (Both, at_both) in_both n2 put_in)
          ∙ view-tag others f is.listed.order is.order (key_of e) MainOnly (lacks (key_of e) e.number Both at old)
          ∙ ap (λ (xs : Items). tag_set xs (key_of e) MainOnly) seen

      pub main_only-index : (n2 : List Entry) (kept2 room2 : ℕ) → n2 ≡ put key_of m e → length n2 ≡ length m + 1 → kept2 + 1 ≡ kept → room2 ≡ room
          → IsIndex es n2 t f count kept2 room2
      main_only-index n2 kept2 room2 put_in longer less same_room = record {
        listed = main-kept is.listed e refl (Both, at_both) in_both n2 kept2 room2 put_in longer less same_room;
        order = is.order;
        apart = is.apart;
      }

      pub top_only-items : (u2 : List Entry) → u2 ≡ put key_of t e → with_fresh (items_of es m u2) f ≡ tag_set items (key_of e) TopOnly
      top_only-items u2 put_in =
          ap (λ (xs : Items). with_fresh xs f) (top-items is.listed e refl (Both, at_both) in_both u2 put_in)
          ∙ view-tag others f is.listed.order is.order (key_of e) TopOnly (lacks (key_of e) e.number Both at old)
          ∙ ap (λ (xs : Items). tag_set xs (key_of e) TopOnly) seen

      pub top_only-index : (u2 : List Entry) (kept2 room2 : ℕ) → u2 ≡ put key_of t e → length u2 ≡ length t + 1 → kept2 + 1 ≡ kept → room2 ≡ room
          → IsIndex es m u2 f count kept2 room2
      top_only-index u2 kept2 room2 put_in longer less same_room = record {
        listed = top-kept is.listed e refl (Both, at_both) in_both u2 kept2 room2 put_in longer less same_room;
        order = is.order;
        apart = is.apart;
      }
