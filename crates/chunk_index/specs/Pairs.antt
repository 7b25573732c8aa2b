-- Numbers under keys, as one list of those of a map and of late ones.
use Rattle.std.specs.Prelude.{ℕ, List, map, not}
use Rattle.std.specs.List.{filter}
use Rattle.chunk_index.specs.declared.entry.Entry.{Entry}
use Rattle.chunk_index.specs.declared.key.Key.{Key}
use Rattle.chunk_index.specs.Keys.{has_key, key_of}
use Rattle.chunk_index.specs.Merges.{put_all}

abbrev pub pair_key : Key × ℕ → Key
pair_key e = e.0

-- an entry's key with its record's number
abbrev pub pair_of : Entry → Key × ℕ
pair_of e = (key_of e, e.number)

-- both as one list
abbrev pub all_numbers : List (Key × ℕ) → List Entry → List (Key × ℕ)
all_numbers es late = put_all pair_key es (map pair_of late)

-- those whose keys none of the entries has
unfoldable pub clear_of : List Entry → List (Key × ℕ) → List (Key × ℕ)
clear_of gone es = filter (λ e. not (has_key key_of gone e.0)) es
