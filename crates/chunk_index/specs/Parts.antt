-- What is left of a part of a tree.
use Rattle.std.specs.Prelude.{List, slice_range}
use Rattle.chunk_index.specs.declared.entry.Entry.{Entry}
use Rattle.chunk_index.specs.declared.part.Part.{Part}

abbrev pub part_left : Part → List Entry
part_left p = slice_range p.tree.now p.from p.to
