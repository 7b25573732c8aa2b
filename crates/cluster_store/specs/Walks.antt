-- What a walk over the entries of an index shows of what is kept under numbers.
use Rattle.std.specs.Prelude.{◌<◌, List, length, Contains, Option, None, slice_index_or}
use Rattle.graphs.specs.Certificates.{Part}
use Rattle.chunk_index.specs.declared.entry.Entry.{Entry}
use Rattle.cluster_store.specs.declared.walk.ShownPart.{ShownPart}
use Rattle.cluster_store.specs.Lent.{lent}
use Rattle.cluster_store.specs.Stores.{Shown, parts_by, no_part}

abbrev pub shown_part : ShownPart → Shown
shown_part s = record { number = s.number; part = lent s.part }

module _ {T : Type 0} (parts : T → List Part) (slots : List (Option T)) where
  -- the parts under the number of an entry
  abbrev pub parts_at : Entry → List Part
  parts_at e = parts_by parts (slice_index_or slots e.serial None)

  -- the part that an entry stands for, with the number of its cluster
  abbrev pub shown_of : Entry → Shown
  shown_of e = record { number = e.serial; part = slice_index_or (parts_at e) e.position no_part }

  -- there are such parts
  abbrev pub HasParts : List Entry → Type 0
  HasParts entries = (e : Entry) → Contains entries e → e.position < length (parts_at e)
