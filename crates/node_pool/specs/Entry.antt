-- How a store lays out its entries.
use Rattle.std.specs.Prelude.{◌≡◌, ℕ, zero, suc, ◌+◌, List, map, length, Option, Some, None, is_some, count_by, slice_get}
use Rattle.node_pool.specs.declared.store.Entry.{Entry}
use Rattle.node_pool.specs.declared.store.Entry.TheVariants.{Vacant, Held}

module _ {N : Type 0} where
  -- the node of an entry, if it has one
  abbrev pub node_of : Entry N → Option N
  node_of (Vacant _) = None
  node_of (Held node) = Some node

  -- from this slot on, so many vacant entries each name the next, and the last names the end of the
  -- entries
  abbrev pub IsVacantList : List (Entry N) → ℕ → ℕ → Type 0
  IsVacantList es zero slot = slot ≡ length es
  IsVacantList es (suc count) slot = (next : ℕ) × (slice_get es slot ≡ Some (Vacant next))
      × IsVacantList es count next

  -- `len` counts the nodes, and the list from `next` holds every vacant entry
  pub record IsSound (es : List (Entry N)) (len next : ℕ) : Type 0 where
    pub counted : len ≡ count_by is_some (map node_of es)
    pub vacant : ℕ
    pub total : len + vacant ≡ length es
    pub linked : IsVacantList es vacant next
