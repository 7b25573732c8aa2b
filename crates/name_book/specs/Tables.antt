-- How a table of names is kept: an index from each name to the key of its node, and the nodes, whose values are the names.
use Rattle.std.specs.Prelude.{◌≡◌, ◌≢◌, ◌<◌, ◌≤◌, ◌↔◌, ℕ, List, map, length, slice_get, slice_index, Option, Some, nat_eq, unwrap_or}
use Rattle.std.specs.List.{IsDistinct}
use Rattle.std.specs.Map.{keys_of, lookup}
use Rattle.std.specs.FinMap as finmap
use Rattle.std.specs.FinSet as set
use Rattle.node_pool.specs.declared.pool.Key.{Key}
use Rattle.node_pool.specs.Nodes.{Nodes, value_at, next_key, live_count, SameValues, SameCounts, SameRings}
use Rattle.node_pool.specs.Laws.{RingsGoRound}
use Rattle.name_book.specs.Books.{Table, Steps}

-- the key of a name
abbrev pub key_of : List (ℕ × Key) → ℕ → Option Key
key_of entries id = lookup (nat_eq id) entries

-- the name of a key's node; every key of a table has a node
abbrev pub name_at : Nodes ℕ → Key → ℕ
name_at nodes key = unwrap_or (value_at nodes key) 0

-- the name of the key after this one
abbrev pub next_name : Nodes ℕ → ℕ → Key → ℕ
next_name nodes r key = name_at nodes (next_key nodes r key)

abbrev pub steps_of : Nodes ℕ → ℕ → List (ℕ × Key) → Steps
steps_of nodes r entries = finmap.from_entries (map (λ e. (e.0, next_name nodes r e.1)) entries)

-- a name has a key exactly where the key's node has the name
abbrev pub AreKeys : Nodes ℕ → List (ℕ × Key) → Type 0
AreKeys nodes entries = (id : ℕ) (key : Key) → (key_of entries id ≡ Some key) ↔ (value_at nodes key ≡ Some id)

-- the keys of a list of names stand at the front of a list, in their order
abbrev pub AreKeysOf : List (ℕ × Key) → List ℕ → List Key → Type 0
AreKeysOf entries ids keys = (i : ℕ) → i < length ids → key_of entries (slice_index ids i) ≡ slice_get keys i

-- the table that nodes and an index show
abbrev pub table_of : Nodes ℕ → List (ℕ × Key) → ℕ → Table
table_of nodes entries spare = record {
  names = set.from_list (keys_of entries);
  ring_0 = steps_of nodes 0 entries;
  ring_1 = steps_of nodes 1 entries;
  spare = spare;
  issued = nodes.issued;
}

-- Each name is listed once, with the key of the node that has it, and each node has a name that is listed with its key.
-- Rings go round. The room of the nodes and of the index of names is at least what is spare.
pub record IsTable (nodes : Nodes ℕ) (entries : List (ℕ × Key)) (room spare : ℕ) : Type 0 where
  pub once : IsDistinct nat_eq (keys_of entries)
  pub own : AreKeys nodes entries
  pub rings : RingsGoRound 2 nodes
  pub count : live_count nodes ≡ length entries
  pub index-room : spare ≤ room
  pub node-room : spare ≤ nodes.spare

-- Ring r of some nodes changes, and nothing else: the names stay in their nodes, and the rings of the other number as they are.
pub record ChangesRing (old new : Nodes ℕ) (r : ℕ) : Type 0 where
  pub values : SameValues old new
  pub counts : SameCounts old new
  pub others : (q : ℕ) → q < 2 → q ≢ r → SameRings old new q
