-- An index stays in key order, by the numbers of clusters, whatever is put in, taken out or gets another tag.
use Rattle.std.proofs.Common.{◌≡◌, Bool, true, false, cond, [], ◌∷◌, refl, sym, ap, subst}
use Rattle.std.specs.declared.cmp.Ordering.{Ordering}
use Rattle.std.specs.declared.cmp.Ordering.TheVariants.{Less, Equal, Greater}
use Rattle.std.specs.Ordering.{is_lt, is_eq, is_ne, is_gt}
use Rattle.chunk_index.specs.declared.entry.Entry.{Entry}
use Rattle.chunk_index.specs.declared.entry.Tag.{Tag}
use Rattle.chunk_index.specs.KeyOrder.{key_cmp}
use Rattle.chunk_index.specs.Keys.{key_of, before, behind, put, without}
use Rattle.chunk_index.specs.Items.{Items, item_key, with_entry, without_entry, with_tag, tag_set}
use Rattle.chunk_index.proofs.Lists.{all-filter, filter_in_order}
use Rattle.chunk_index.proofs.Merges.{all-join, put_order, map-order}
use Rattle.cluster_store.specs.Kept.{AreListed, AreNumbered}

false_true : false ≡ true → ⊥
false_true e = cc

pub less_of : (o : Ordering) → is_lt o ≡ true → o ≡ Less
less_of Less e = refl
less_of Equal e = absurd (false_true e)
less_of Greater e = absurd (false_true e)

-- ---- indexes

pub entry_listed : (items : Items) (e : Entry) (t : Tag) → e.number ≡ e.serial → AreListed items → AreListed (with_entry items e t)
unfolding put before behind
entry_listed items e t own (order, numbered) = (
  put_order item_key items (e, t) order,
  all-join item_key (λ (i : Entry × Tag). i.0.number ≡ i.0.serial) (before item_key items (key_of e)) ((e, t) ∷ behind item_key items (key_of e))
      (all-filter item_key (λ (i : Entry × Tag). i.0.number ≡ i.0.serial) (λ (x : Entry × Tag). is_lt (key_cmp (item_key x) (key_of e))) items numbered)
      (own, all-filter item_key (λ (i : Entry × Tag). i.0.number ≡ i.0.serial) (λ (x : Entry × Tag). is_gt (key_cmp (item_key x) (key_of e))) items numbered),
)

pub less_listed : (items : Items) (e : Entry) → AreListed items → AreListed (without_entry items e)
unfolding without
less_listed items e (order, numbered) = (
  filter_in_order item_key (λ (x : Entry × Tag). is_ne (key_cmp (item_key x) (key_of e))) items order,
  all-filter item_key (λ (i : Entry × Tag). i.0.number ≡ i.0.serial) (λ (x : Entry × Tag). is_ne (key_cmp (item_key x) (key_of e))) items numbered,
)

tag_keeps : (b : Bool) (t : Tag) (i : Entry × Tag) → (cond b (i.0, t) i).0 ≡ i.0
tag_keeps true t i = refl
tag_keeps false t i = refl

tag_numbered : (items : Items) (e : Entry) (t : Tag) → AreNumbered items → AreNumbered (with_tag items e t)
unfolding tag_set
tag_numbered [] e t all = tt
tag_numbered (i ∷ items) e t all = (
  subst (λ (d : Entry). d.number ≡ d.serial) (sym (tag_keeps (is_eq (key_cmp (item_key i) (key_of e))) t i)) all.0,
  tag_numbered items e t all.1,
)

pub tag_listed : (items : Items) (e : Entry) (t : Tag) → AreListed items → AreListed (with_tag items e t)
unfolding tag_set
tag_listed items e t (order, numbered) = (
  map-order item_key item_key (λ (i : Entry × Tag). cond (is_eq (key_cmp (item_key i) (key_of e))) (i.0, t) i)
      (λ i. ap key_of (tag_keeps (is_eq (key_cmp (item_key i) (key_of e))) t i)) items order,
  tag_numbered items e t numbered,
)
