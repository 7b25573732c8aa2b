-- How two maps are kept as one and what changed since.
use Rattle.std.specs.Prelude.{◌≡◌, ◌+◌, ◌≤◌, ℕ, Bool, true, false, List, [], ◌∷◌, length, Option, Some, None}
use Rattle.std.specs.FinMap as finmap
use Rattle.staging.specs.Maps.{Map, Maps}

module _ {V : Type 0} where
  -- the map of a list of entries
  abbrev pub map_of_entries : List (ℕ × V) → Map V
  map_of_entries entries = finmap.from_entries entries

  -- the map with this value at the key, or with nothing there
  abbrev pub changed : Map V → ℕ → Option V → Map V
  changed m key (Some value) = finmap.insert m key value
  changed m key None = finmap.remove m key

  -- the map with each key of the list changed
  abbrev pub applied : Map V → List (ℕ × Option V) → Map V
  applied m [] = m
  applied m (c ∷ changes) = changed (applied m changes) c.0 c.1

  -- the staged map
  abbrev pub staged_map : Map V → List (ℕ × Option V) → Bool → Option (Map V)
  staged_map m changes true = Some (applied m changes)
  staged_map m changes false = None

  -- the two maps that the entries of the base and the changed keys stand for
  abbrev pub maps_of : List (ℕ × V) → List (ℕ × Option V) → Bool → ℕ → Maps V
  maps_of base changes staged spare = record {
    base = map_of_entries base;
    top = staged_map (map_of_entries base) changes staged;
    spare = spare;
  }

  -- Where nothing is staged no key is changed. There is room for what is spare among the changed keys, and in the base for
  -- that and for every changed key.
  pub record IsOverlay (changes : List (ℕ × Option V)) (staged : Bool) (base_room change_room spare : ℕ) : Type 0 where
    pub none : staged ≡ false → changes ≡ []
    pub base-room : length changes + spare ≤ base_room
    pub change-room : spare ≤ change_room
