-- A staging is closed: what trees that are emptied whole leave of the numbers, and of the entries of the level that stays.
use Rattle.std.proofs.Common.{◌≡◌, ℕ, ◌≤◌, Bool, true, false, not, ◌||◌, List, [], ◌∷◌, ◌++◌, length, map, refl, sym, ap, ◌∙◌, subst, arith}
use Rattle.std.proofs.lemmas.List.Folds.{list_any-append}
use Rattle.std.specs.declared.cmp.Ordering.{Ordering}
use Rattle.std.specs.declared.cmp.Ordering.TheVariants.{Less, Equal, Greater}
use Rattle.std.specs.Ordering.{is_eq}
use Rattle.std.specs.Cmp.{tied_itself}
use Rattle.graphs.specs.declared.names.Level.TheVariants.{Main, Top}
use Rattle.lists.proofs.Cases.{or_true}
use Rattle.chunk_index.specs.declared.entry.Entry.{Entry}
use Rattle.chunk_index.specs.declared.entry.Tag.{Tag}
use Rattle.chunk_index.specs.declared.entry.Tag.TheVariants.{Both, MainOnly, TopOnly}
use Rattle.chunk_index.specs.declared.key.Key.{Key}
use Rattle.chunk_index.specs.KeyOrder.{key_cmp}
use Rattle.chunk_index.specs.KeyLaws.{key_cmp_total}
use Rattle.chunk_index.specs.Keys.{IsInOrder, key_of, has_key, put, without}
use Rattle.chunk_index.specs.Items.{Items, item_key, is_in, same_tag, shared, entries_by, entries_in}
use Rattle.chunk_index.specs.Fresh.{with_fresh, IsIndex}
use Rattle.chunk_index.specs.Kept.{tag_in, item_of, items_of}
use Rattle.chunk_index.specs.Merges.{put_all}
use Rattle.chunk_index.specs.Pairs.{pair_key, pair_of, clear_of}
use Rattle.chunk_index.proofs.Changes.{has-put}
use Rattle.chunk_index.proofs.Kept.{apart}
use Rattle.chunk_index.proofs.Lists.{turned, IsCut, cut, all-less, all-greater, any-none, lacks-level}
use Rattle.chunk_index.proofs.Maps.{Numbers, false_true}
use Rattle.chunk_index.proofs.Merges.{has-all, map-put, map-has, map-order, none_order}
use Rattle.chunk_index.proofs.Whole.{entries_with, entries_without}

-- ---- whether a part of a list has a key
pub has_parts : (l : List Entry) (e : Entry) (r : List Entry) (k : Key)
    → has_key key_of (l ++ e ∷ r) k ≡ (has_key key_of l k || (is_eq (key_cmp (key_of e) k) || has_key key_of r k))
unfolding has_key
has_parts l e r k = list_any-append (λ (x : Entry). is_eq (key_cmp (key_of x) k)) l (e ∷ r)

pub has_left : (l : List Entry) (e : Entry) (r : List Entry) (k : Key) → has_key key_of l k ≡ true → has_key key_of (l ++ e ∷ r) k ≡ true
has_left l e r k there = has_parts l e r k ∙ rw there refl

pub has_right : (l : List Entry) (e : Entry) (r : List Entry) (k : Key) → has_key key_of r k ≡ true → has_key key_of (l ++ e ∷ r) k ≡ true
has_right l e r k there =
    has_parts l e r k
    ∙ ap (λ b. has_key key_of l k || (is_eq (key_cmp (key_of e) k) || b)) there
    ∙ ap (λ b. has_key key_of l k || b) (or_true (is_eq (key_cmp (key_of e) k))) ∙ or_true (has_key key_of l k)

pub has_node : (l : List Entry) (e : Entry) (r : List Entry) → has_key key_of (l ++ e ∷ r) (key_of e) ≡ true
has_node l e r =
    has_parts l e r (key_of e)
    ∙ ap (λ b. has_key key_of l (key_of e) || (b || has_key key_of r (key_of e))) (ap is_eq (tied_itself key_cmp_total (key_of e)))
    ∙ or_true (has_key key_of l (key_of e))

-- ---- a tree's keys go out
pub clear_none : (es : Numbers) → clear_of [] es ≡ es
unfolding clear_of has_key
clear_none [] = refl
clear_none (x ∷ es) = ap (λ (t : Numbers). x ∷ t) (clear_none es)

pub clear_parts : (l : List Entry) (e : Entry) (r : List Entry) (es : Numbers)
    → clear_of (l ++ e ∷ r) es ≡ clear_of r (without pair_key (clear_of l es) (key_of e))
unfolding clear_of without
clear_parts l e r [] = refl
clear_parts l e r (x ∷ es) =
    by (has_key key_of l x.0) refl (key_cmp (key_of e) x.0) refl (has_key key_of r x.0) refl (clear_parts l e r es)
  where
    by : (a : Bool) → has_key key_of l x.0 ≡ a → (o : Ordering) → key_cmp (key_of e) x.0 ≡ o → (b : Bool) → has_key key_of r x.0 ≡ b
        → clear_of (l ++ e ∷ r) es ≡ clear_of r (without pair_key (clear_of l es) (key_of e))
        → clear_of (l ++ e ∷ r) (x ∷ es) ≡ clear_of r (without pair_key (clear_of l (x ∷ es)) (key_of e))
    by true in_l o is b in_r rest =
        let whole = has_left l e r x.0 in_l in
        rw (whole, in_l) rest
    by false in_l Equal is b in_r rest =
        let back = turned (key_of e) x.0 Equal is in
        let whole : has_key key_of (l ++ e ∷ r) x.0 ≡ true = has_parts l e r x.0 ∙ rw (in_l, is) refl in
        rw (whole, in_l, back) rest
    by false in_l Less is true in_r rest =
        let back = turned (key_of e) x.0 Less is in
        let whole = has_right l e r x.0 in_r in
        rw (whole, in_l, back, in_r) rest
    by false in_l Less is false in_r rest =
        let back = turned (key_of e) x.0 Less is in
        let whole : has_key key_of (l ++ e ∷ r) x.0 ≡ false = has_parts l e r x.0 ∙ rw (in_l, is, in_r) refl in
        rw (whole, in_l, back, in_r) (ap (λ (t : Numbers). x ∷ t) rest)
    by false in_l Greater is true in_r rest =
        let back = turned (key_of e) x.0 Greater is in
        let whole = has_right l e r x.0 in_r in
        rw (whole, in_l, back, in_r) rest
    by false in_l Greater is false in_r rest =
        let back = turned (key_of e) x.0 Greater is in
        let whole : has_key key_of (l ++ e ∷ r) x.0 ≡ false = has_parts l e r x.0 ∙ rw (in_l, is, in_r) refl in
        rw (whole, in_l, back, in_r) (ap (λ (t : Numbers). x ∷ t) rest)

-- no key comes in
pub clear_lacks : (gone : List Entry) (es : Numbers) (k : Key) → has_key pair_key es k ≡ false → has_key pair_key (clear_of gone es) k ≡ false
unfolding clear_of has_key
clear_lacks gone [] k lacks = refl
clear_lacks gone (x ∷ es) k lacks = by (is_eq (key_cmp x.0 k)) refl (has_key key_of gone x.0) refl (clear_lacks gone es k)
  where
    by : (here : Bool) → is_eq (key_cmp x.0 k) ≡ here → (out : Bool) → has_key key_of gone x.0 ≡ out
        → (has_key pair_key es k ≡ false → has_key pair_key (clear_of gone es) k ≡ false) → has_key pair_key (clear_of gone (x ∷ es)) k ≡ false
    by true is out o rest = absurd (false_true (sym lacks ∙ rw is refl))
    by false is true o rest = rw o (rest (sym (rw is refl) ∙ lacks))
    by false is false o rest = rw (o, is) (rest (sym (rw is refl) ∙ lacks))

-- ---- a tree's entries are listed
nothing : (xs : List Entry) → length xs ≡ 0 → xs ≡ []
nothing [] none = refl
nothing (x ∷ xs) none = absurd (omega (arith, none))

pub put_whole : (es : Numbers) (late tree : List Entry) → length late ≡ 0
    → put_all pair_key es (map pair_of tree) ≡ put_all pair_key (put_all pair_key es (map pair_of late)) (map pair_of tree)
unfolding put_all
put_whole es late tree none =
    ap (λ (xs : List Entry). put_all pair_key (put_all pair_key es (map pair_of xs)) (map pair_of tree)) (sym (nothing late none))

pub put_parts : (es : Numbers) (l : List Entry) (e : Entry) (r : List Entry)
    → put_all pair_key es (map pair_of (l ++ e ∷ r))
    ≡ put_all pair_key (put pair_key (put_all pair_key es (map pair_of l)) (pair_of e)) (map pair_of r)
unfolding put_all
put_parts es [] e r = refl
put_parts es (x ∷ l) e r = put_parts (put pair_key es (pair_of x)) l e r

-- the left ones first, then the node's, and then the right ones
module _ (es : Numbers) (tree l : List Entry) (e : Entry) (r : List Entry) (parts : tree ≡ l ++ e ∷ r) (in_order : IsInOrder key_of tree)
    (lacks : (k : Key) → has_key key_of tree k ≡ true → has_key pair_key es k ≡ false) where
  order : IsInOrder key_of (l ++ e ∷ r)
  order = subst (IsInOrder key_of) parts in_order

  absent : (k : Key) → has_key key_of (l ++ e ∷ r) k ≡ true → has_key pair_key es k ≡ false
  absent k there = lacks k (ap (λ (xs : List Entry). has_key key_of xs k) parts ∙ there)

  pub left_order : IsInOrder key_of l
  left_order = (cut key_of l e r order).left

  pub right_order : IsInOrder key_of r
  right_order = (cut key_of l e r order).right

  pub left_absent : (k : Key) → has_key key_of l k ≡ true → has_key pair_key es k ≡ false
  left_absent k there = absent k (has_left l e r k there)

  module _ (first : Numbers) (is_first : first ≡ put_all pair_key es (map pair_of l)) where
    has_first : (k : Key) → has_key pair_key first k ≡ (has_key key_of l k || has_key pair_key es k)
    has_first k =
        ap (λ (ns : Numbers). has_key pair_key ns k) is_first
        ∙ has-all pair_key es (map pair_of l) k (map-order key_of pair_key pair_of (λ x. refl) l left_order)
        ∙ ap (λ b. b || has_key pair_key es k) (map-has key_of pair_key pair_of (λ x. refl) l k)

    pub node_absent : has_key pair_key first (key_of e) ≡ false
    node_absent =
        let none = any-none key_of (key_of e) Less l refl (cut key_of l e r order).less in
        let out = absent (key_of e) (has_node l e r) in
        has_first (key_of e) ∙ rw (none, out) refl

    module _ (mid : Numbers) (is_mid : mid ≡ put pair_key first (pair_of e)) where
      pub right_absent : (k : Key) → has_key key_of r k ≡ true → has_key pair_key mid k ≡ false
      right_absent k there =
          ap (λ (ns : Numbers). has_key pair_key ns k) is_mid ∙ has-put pair_key first (pair_of e) k
          ∙ ap (λ b. is_eq (key_cmp k (key_of e)) || b) (has_first k) ∙ by (key_cmp k (key_of e)) refl
        where
          c : IsCut key_of l e r
          c = cut key_of l e r order

          by : (o : Ordering) → key_cmp k (key_of e) ≡ o → (is_eq (key_cmp k (key_of e)) || (has_key key_of l k || has_key pair_key es k)) ≡ false
          by Less is =
              absurd (false_true (sym (any-none key_of k Greater r refl (all-greater key_of r (key_of e) k c.greater (turned k (key_of e) Less is)))
              ∙ there))
          by Equal is = absurd (false_true (sym (lacks-level key_of l e r c k is) ∙ there))
          by Greater is =
              let none = any-none key_of k Less l refl (all-less key_of l (key_of e) k c.less (turned k (key_of e) Greater is)) in
              let out = absent k (has_right l e r k there) in
              rw (is, none, out) refl

      pub all_put : (last : Numbers) → last ≡ put_all pair_key mid (map pair_of r) → last ≡ put_all pair_key es (map pair_of tree)
      all_put last is_last =
          is_last ∙ ap (λ (ns : Numbers). put_all pair_key ns (map pair_of r)) is_mid
          ∙ ap (λ (ns : Numbers). put_all pair_key (put pair_key ns (pair_of e)) (map pair_of r)) is_first
          ∙ sym (put_parts es l e r) ∙ ap (λ (xs : List Entry). put_all pair_key es (map pair_of xs)) (sym parts)

-- ---- what stands in a level
map_all : {A B : Type 0} (key : A → Key) (other : B → Key) (f : A → B) (same : (x : A) → other (f x) ≡ key x) (xs ys : List A)
    → map f (put_all key xs ys) ≡ put_all other (map f xs) (map f ys)
unfolding put_all
map_all key other f same xs [] = refl
map_all key other f same xs (y ∷ ys) =
    map_all key other f same (put key xs y) ys
    ∙ ap (λ zs. put_all other zs (map f ys)) (map-put key other f same xs y)

-- those of a tag that passes a test, where it passes what none of some entries has
shared_clear : (p : Tag → Bool) (m t gone : List Entry) → ((k : Key) → p (tag_in m t k) ≡ not (has_key key_of gone k))
    → (es : Numbers) → items_of (clear_of gone es) [] [] ≡ shared (entries_by p (items_of es m t))
unfolding clear_of entries_by tag_in has_key
shared_clear p m t gone passes [] = refl
shared_clear p m t gone passes (x ∷ es) = by (has_key key_of gone x.0) refl (shared_clear p m t gone passes es)
  where
    by : (out : Bool) → has_key key_of gone x.0 ≡ out → items_of (clear_of gone es) [] [] ≡ shared (entries_by p (items_of es m t))
        → items_of (clear_of gone (x ∷ es)) [] [] ≡ shared (entries_by p (items_of (x ∷ es) m t))
    by true o rest = let drops = passes x.0 ∙ ap not o in rw (o, drops) rest
    by false o rest = let keeps = passes x.0 ∙ ap not o in rw (o, keeps) (ap (λ (items : Items). item_of [] [] x ∷ items) rest)

-- all stand in both levels
none_tagged : (p : Tag → Bool) → p Both ≡ false → (es : Numbers) → entries_by p (items_of es [] []) ≡ []
unfolding entries_by tag_in has_key
none_tagged p drops [] = refl
none_tagged p drops (x ∷ es) = rw drops (none_tagged p drops es)

shared_pairs : (f : List Entry) → map (item_of [] []) (map pair_of f) ≡ shared f
unfolding tag_in has_key
shared_pairs [] = refl
shared_pairs (e ∷ f) = ap (λ (items : Items). (e, Both) ∷ items) (shared_pairs f)

pub settled-index : (es : Numbers) (m t f : List Entry) (count kept room : ℕ) → m ≡ [] → t ≡ [] → f ≡ [] → IsInOrder pair_key es
    → length es ≤ count → count ≤ kept → kept ≤ room → IsIndex es m t f count kept room
unfolding has_key
settled-index es m t f count kept room no_main no_top no_fresh order counted enough fits = rw (no_main, no_top, no_fresh) (record {
  listed = record {
    order = map-order pair_key item_key (item_of [] []) (λ e. refl) es order;
    main = sym (none_tagged (same_tag MainOnly) refl es);
    top = sym (none_tagged (same_tag TopOnly) refl es);
    counted = counted;
    nodes = omega (arith, enough);
    fits = omega (arith, fits);
  };
  order = none_order key_of;
  apart = λ k there. absurd (false_true there);
})

module _ {es : Numbers} {m t f : List Entry} {count kept room : ℕ} (is : IsIndex es m t f count kept room) {items : Items}
    (seen : with_fresh (items_of es m t) f ≡ items) where
  in_main : (k : Key) → is_in Main (tag_in m t k) ≡ not (has_key key_of t k)
  unfolding tag_in
  in_main k = by (has_key key_of m k) refl (has_key key_of t k) refl
    where
      by : (a : Bool) → has_key key_of m k ≡ a → (b : Bool) → has_key key_of t k ≡ b → is_in Main (tag_in m t k) ≡ not (has_key key_of t k)
      by true in_m b in_t = let lacks = apart is.listed k (rw in_m refl) in rw (in_m, lacks) refl
      by false in_m true in_t = rw (in_m, in_t) refl
      by false in_m false in_t = rw (in_m, in_t) refl

  in_top : (k : Key) → is_in Top (tag_in m t k) ≡ not (has_key key_of m k)
  unfolding tag_in
  in_top k = by (has_key key_of m k) refl (has_key key_of t k) refl
    where
      by : (a : Bool) → has_key key_of m k ≡ a → (b : Bool) → has_key key_of t k ≡ b → is_in Top (tag_in m t k) ≡ not (has_key key_of m k)
      by true in_m b in_t = rw in_m refl
      by false in_m true in_t = rw (in_m, in_t) refl
      by false in_m false in_t = rw (in_m, in_t) refl

  module _ (new : Numbers) (n u g : List Entry) (no_main : n ≡ []) (no_top : u ≡ []) (no_fresh : g ≡ []) where
    pub main_settled : (tree : List Entry) → tree ≡ t → new ≡ clear_of tree es → with_fresh (items_of new n u) g ≡ shared (entries_in Main items)
    unfolding put_all
    main_settled tree whole clear =
        rw (no_main, no_top, no_fresh) (ap (λ (ns : Numbers). items_of ns [] []) (clear ∙ ap (λ (xs : List Entry). clear_of xs es) whole)
        ∙ shared_clear (is_in Main) m t t in_main es
        ∙ ap (λ (xs : List Entry). shared xs) (entries_without is seen (is_in Main) refl))

    pub top_settled : (mid : Numbers) (tree fresh : List Entry) → tree ≡ m → fresh ≡ f → mid ≡ clear_of tree es
        → new ≡ put_all pair_key mid (map pair_of fresh) → with_fresh (items_of new n u) g ≡ shared (entries_in Top items)
    unfolding put_all
    top_settled mid tree fresh whole all clear listing =
        rw (no_main, no_top, no_fresh) (ap (λ (ns : Numbers). items_of ns [] [])
        (listing ∙ ap (λ (xs : List Entry). put_all pair_key mid (map pair_of xs)) all)
        ∙ map_all pair_key item_key (item_of [] []) (λ e. refl) mid (map pair_of f)
        ∙ ap (λ (xs : Items). put_all item_key xs (map (item_of [] []) (map pair_of f)))
        (ap (λ (ns : Numbers). items_of ns [] []) (clear ∙ ap (λ (xs : List Entry). clear_of xs es) whole) ∙ shared_clear (is_in Top) m t m in_top es)
        ∙ ap (put_all item_key (shared (entries_by (is_in Top) (items_of es m t)))) (shared_pairs f)
        ∙ sym (map_all key_of item_key (λ e. (e, Both)) (λ e. refl) (entries_by (is_in Top) (items_of es m t)) f)
        ∙ ap (λ (xs : List Entry). shared xs) (entries_with is seen (is_in Top) refl))

  -- what is listed comes from outside
  pub fresh_absent : (mid : Numbers) (tree fresh : List Entry) → fresh ≡ f → mid ≡ clear_of tree es → (k : Key)
      → has_key key_of fresh k ≡ true → has_key pair_key mid k ≡ false
  fresh_absent mid tree fresh all clear k there =
      ap (λ (ns : Numbers). has_key pair_key ns k) clear
      ∙ clear_lacks tree es k (is.apart k (ap (λ (xs : List Entry). has_key key_of xs k) (sym all) ∙ there))
