-- Which entries some keys have for a walk.
use Rattle.std.specs.Prelude.{ℕ, Bool, List}
use Rattle.chunk_index.specs.declared.entry.Entry.{Entry}
use Rattle.chunk_index.specs.declared.entry.Tag.{Tag}
use Rattle.chunk_index.specs.declared.key.Key.{Key}
use Rattle.chunk_index.specs.declared.walk.Wanted.{Wanted}
use Rattle.chunk_index.specs.declared.walk.Wanted.TheVariants.{InLevel, Of}
use Rattle.chunk_index.specs.Items.{is_in, same_tag, entries_by}
use Rattle.chunk_index.specs.Kept.{items_of}

-- whether what has the tag is wanted
abbrev pub passes : Wanted → Tag → Bool
passes (InLevel level) = is_in level
passes (Of tag) = same_tag tag

-- the wanted entries of the keys of es, whose tags are told by the trees of main and of top
abbrev pub left_in : List (Key × ℕ) → List Entry → List Entry → Wanted → List Entry
left_in es of_main of_top wanted = entries_by (passes wanted) (items_of es of_main of_top)
