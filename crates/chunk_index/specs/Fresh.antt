-- How the index keeps its entries: most as numbers under their keys, and beside these the fresh ones, which came in staging alone and stand in
-- a tree of their own until they go out or come into main.
use Rattle.std.specs.Prelude.{◌≡◌, ℕ, true, false, List, map, length}
use Rattle.chunk_index.specs.declared.entry.Entry.{Entry}
use Rattle.chunk_index.specs.declared.entry.Tag.{Tag}
use Rattle.chunk_index.specs.declared.entry.Tag.TheVariants.{TopOnly}
use Rattle.chunk_index.specs.declared.key.Key.{Key}
use Rattle.chunk_index.specs.Items.{Items, item_key}
use Rattle.chunk_index.specs.Keys.{IsInOrder, has_key, key_of}
use Rattle.chunk_index.specs.Kept.{IsKept}
use Rattle.chunk_index.specs.Merges.{put_all}
use Rattle.chunk_index.specs.Pairs.{pair_key}

abbrev pub fresh_item : Entry → Entry × Tag
fresh_item e = (e, TopOnly)

abbrev pub with_fresh : Items → List Entry → Items
with_fresh items fresh = put_all item_key items (map fresh_item fresh)

-- the others are kept, with a node for each fresh one besides; the fresh ones are in order, and have keys that no other has
pub record IsIndex (es : List (Key × ℕ)) (of_main of_top fresh : List Entry) (count kept room : ℕ) : Type 0 where
  pub listed : IsKept es of_main of_top count (length fresh) kept room
  pub order : IsInOrder key_of fresh
  pub apart : (k : Key) → has_key key_of fresh k ≡ true → has_key pair_key es k ≡ false
