-- How the index keeps its entries: the number of each record under its key, and the tags as two trees of those that stand in one level alone.
use Rattle.std.specs.Prelude.{◌≡◌, ℕ, ◌+◌, ◌≤◌, Bool, cond, List, map, length}
use Rattle.chunk_index.specs.declared.entry.Entry.{Entry}
use Rattle.chunk_index.specs.declared.entry.Tag.{Tag}
use Rattle.chunk_index.specs.declared.entry.Tag.TheVariants.{Both, MainOnly, TopOnly}
use Rattle.chunk_index.specs.declared.key.Key.{Key}
use Rattle.chunk_index.specs.Keys.{key_of, has_key, put, without}
use Rattle.chunk_index.specs.Items.{Items, AreInOrder, entries_tagged}

-- the entry of a key, with its record's number
abbrev pub entry_from : Key → ℕ → Entry
entry_from k number = record { rate = k.rate; serial = k.serial; position = k.position; number = number }

-- the tag of the entry of a key, by which of the two trees has it
unfoldable pub tag_in : List Entry → List Entry → Key → Tag
tag_in of_main of_top k = cond (has_key key_of of_main k) MainOnly (cond (has_key key_of of_top k) TopOnly Both)

-- the entry of a key with its tag
abbrev pub item_of : List Entry → List Entry → Key × ℕ → Entry × Tag
item_of of_main of_top e = (entry_from e.0 e.1, tag_in of_main of_top e.0)

-- the entries of some keys with their tags
abbrev pub items_of : List (Key × ℕ) → List Entry → List Entry → Items
items_of es of_main of_top = map (item_of of_main of_top) es

-- the keys are in order, the trees have the entries of their tags and no others, a node is kept for each entry that is in neither and for some
-- more, and there is room for the nodes of all trees beside those that are kept; count is at least how many entries there are
pub record IsKept (es : List (Key × ℕ)) (of_main of_top : List Entry) (count more kept room : ℕ) : Type 0 where
  pub order : AreInOrder (items_of es of_main of_top)
  pub main : of_main ≡ entries_tagged MainOnly (items_of es of_main of_top)
  pub top : of_top ≡ entries_tagged TopOnly (items_of es of_main of_top)
  pub counted : length es ≤ count
  pub nodes : count + more ≤ kept + length of_main + length of_top
  pub fits : kept + length of_main + length of_top + more ≤ room

-- entries without e's key, and e put among them where it comes in
abbrev pub moved : Bool → List Entry → Entry → List Entry
moved comes es e = cond comes (put key_of (without key_of es (key_of e)) e) (without key_of es (key_of e))
