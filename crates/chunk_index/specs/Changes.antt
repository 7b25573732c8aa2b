-- Which entries are there after a change: it adds or removes the one of its key, and no other.
use Rattle.std.specs.Prelude.{◌≡◌, Bool, true, not, ◌&&◌, ◌||◌, ◌↔◌}
use Rattle.std.specs.Ordering.{is_eq}
use Rattle.chunk_index.specs.declared.entry.Entry.{Entry}
use Rattle.chunk_index.specs.declared.entry.Tag.{Tag}
use Rattle.chunk_index.specs.KeyOrder.{key_cmp}
use Rattle.chunk_index.specs.Keys.{key_of}
use Rattle.chunk_index.specs.Items.{Items, has, with_entry, without_entry, with_tag}

-- whether two entries have one key
abbrev pub is_same : Entry → Entry → Bool
is_same e d = is_eq (key_cmp (key_of e) (key_of d))

pub record ChangesOneKey : Type 0 where
  pub same : (e d : Entry) → (is_same e d ≡ true) ↔ (key_of e ≡ key_of d)
  pub inserted : (items : Items) (e d : Entry) (t : Tag) → has (with_entry items e t) d ≡ (is_same e d || has items d)
  pub removed : (items : Items) (e d : Entry) → has (without_entry items e) d ≡ (not (is_same e d) && has items d)
  pub retagged : (items : Items) (e d : Entry) (t : Tag) → has (with_tag items e t) d ≡ has items d
