-- What stands in one level alone.
use Rattle.graphs.specs.declared.names.Level.{Level}
use Rattle.graphs.specs.declared.names.Level.TheVariants.{Main, Top}
use Rattle.chunk_index.specs.declared.entry.Tag.{Tag}
use Rattle.chunk_index.specs.declared.entry.Tag.TheVariants.{MainOnly, TopOnly}

-- the tag of what stands in a level alone
abbrev pub alone : Level → Tag
alone Main = MainOnly
alone Top = TopOnly
