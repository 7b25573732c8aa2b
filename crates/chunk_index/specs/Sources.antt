-- What a walk has left.
use Rattle.std.specs.Prelude.{List, ◌++◌, slice_range}
use Rattle.chunk_index.specs.declared.entry.Entry.{Entry}
use Rattle.chunk_index.specs.declared.walk.Source.{Source}
use Rattle.chunk_index.specs.declared.walk.Source.TheVariants.{Map, Tree}
use Rattle.chunk_index.specs.declared.walk.MapSpan.{MapSpan}
use Rattle.chunk_index.specs.declared.walk.TreeSpan.{TreeSpan}
use Rattle.chunk_index.specs.Keys.{key_of}
use Rattle.chunk_index.specs.Merges.{put_all}
use Rattle.chunk_index.specs.Numbers.{span_left}
use Rattle.chunk_index.specs.Parts.{part_left}
use Rattle.chunk_index.specs.Walks.{left_in}

-- of those that have numbers, the ones that count
abbrev pub map_listed : MapSpan → List Entry
map_listed s = left_in (span_left s.numbers) s.main.now s.top.now s.wanted

abbrev pub map_left : MapSpan → List Entry
map_left s = put_all key_of (map_listed s) (part_left s.fresh)

-- what was read ahead, and what is left of the tree
abbrev pub tree_left : TreeSpan → List Entry
tree_left t = t.ahead ++ slice_range t.tree.now t.from t.to

abbrev pub rest_of : Source → List Entry
rest_of (Map s) = map_left s
rest_of (Tree t) = tree_left t
