-- The model of an index: its entries, each with its tag, in strict key order; what each change leaves of them, and which of them stand in a
-- level or have one tag.
use Rattle.std.specs.Prelude.{◌≡◌, ℕ, Bool, true, false, cond, List, [], ◌∷◌, map, Option, None, Some}
use Rattle.std.specs.List.{filter}
use Rattle.std.specs.Ordering.{is_eq}
use Rattle.graphs.specs.declared.names.Level.{Level}
use Rattle.graphs.specs.declared.names.Level.TheVariants.{Main, Top}
use Rattle.chunk_index.specs.declared.entry.Entry.{Entry}
use Rattle.chunk_index.specs.declared.entry.Tag.{Tag}
use Rattle.chunk_index.specs.declared.entry.Tag.TheVariants.{Both, MainOnly, TopOnly}
use Rattle.chunk_index.specs.declared.key.Key.{Key}
use Rattle.chunk_index.specs.KeyOrder.{key_cmp}
use Rattle.chunk_index.specs.Keys.{key_of, IsInOrder, has_key, not_before, put, without}

abbrev pub Items : Type 0
Items = List (Entry × Tag)

abbrev pub item_key : Entry × Tag → Key
item_key i = key_of i.0

-- each entry stands before all that come after it
abbrev pub AreInOrder : Items → Type 0
AreInOrder = IsInOrder item_key

-- whether an entry of e's key is there
abbrev pub has : Items → Entry → Bool
has items e = has_key item_key items (key_of e)

-- the number of the record and the tag of the entry of a key
unfoldable pub found : Items → Key → Option (ℕ × Tag)
found [] k = None
found (i ∷ items) k = cond (is_eq (key_cmp (item_key i) k)) (Some (i.0.number, i.1)) (found items k)

-- the entry is there, its record's number included
abbrev pub HasEntry : Items → Entry → Type 0
HasEntry items e = (t : Tag) × (found items (key_of e) ≡ Some (e.number, t))

-- with e in its place, under the tag t
abbrev pub with_entry : Items → Entry → Tag → Items
with_entry items e t = put item_key items (e, t)

-- without the entry of e's key
abbrev pub without_entry : Items → Entry → Items
without_entry items e = without item_key items (key_of e)

-- with the tag t at the entry of the key k; all else is as it was
unfoldable pub tag_set : Items → Key → Tag → Items
tag_set items k t = map (λ i. cond (is_eq (key_cmp (item_key i) k)) (i.0, t) i) items

abbrev pub with_tag : Items → Entry → Tag → Items
with_tag items e t = tag_set items (key_of e) t

abbrev pub same_tag : Tag → Tag → Bool
same_tag Both Both = true
same_tag MainOnly MainOnly = true
same_tag TopOnly TopOnly = true
same_tag Both MainOnly = false
same_tag Both TopOnly = false
same_tag MainOnly Both = false
same_tag MainOnly TopOnly = false
same_tag TopOnly Both = false
same_tag TopOnly MainOnly = false

-- whether what has the tag stands in the level
abbrev pub is_in : Level → Tag → Bool
is_in Main Both = true
is_in Main MainOnly = true
is_in Main TopOnly = false
is_in Top Both = true
is_in Top MainOnly = false
is_in Top TopOnly = true

-- the entries whose tags pass a test, in their order
unfoldable pub entries_by : (Tag → Bool) → Items → List Entry
entries_by test items = map (λ i. i.0) (filter (λ i. test i.1) items)

-- the entries of a level
abbrev pub entries_in : Level → Items → List Entry
entries_in level = entries_by (is_in level)

-- the entries of one tag
abbrev pub entries_tagged : Tag → Items → List Entry
entries_tagged tag = entries_by (same_tag tag)

-- entries that stand in both levels
abbrev pub shared : List Entry → Items
shared entries = map (λ e. (e, Both)) entries

-- where the items are in order, the entries of each level and of each tag are, and so are those of a tag that don't stand before a key
pub record WalksAreInOrder : Type 0 where
  pub level : (items : Items) (l : Level) → AreInOrder items → IsInOrder key_of (entries_in l items)
  pub tag : (items : Items) (t : Tag) → AreInOrder items → IsInOrder key_of (entries_tagged t items)
  pub rest : (items : Items) (t : Tag) (k : Key) → AreInOrder items → IsInOrder key_of (not_before key_of (entries_tagged t items) k)
