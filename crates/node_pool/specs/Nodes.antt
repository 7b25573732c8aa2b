-- What a contract sees of a pool: a map from keys to values, partitions of the keys into rings, and two numbers.
use Rattle.std.specs.Prelude.{◌≡◌, ◌≢◌, ◌⊎◌, ◌==◌, ◌+◌, ◌*◌, ◌<◌, ℕ, List, Option, Some, None, is_some, IsSome, count_by, slice_index_or, slice_set, refl, if◌then◌else◌, ◌↔◌}
use Rattle.std.specs.Coded.{Coded, code_by, coded×, coded_ℕ, coded_list, coded_option}
use Rattle.node_pool.specs.Cycles.{Reaches}
use Rattle.node_pool.specs.declared.pool.Key.{Key}
use Rattle.node_pool.specs.declared.pool.Node.{Node}

-- the node or nothing in each slot from 0 on; the slot of the next node of its ring, for each slot in each partition;
-- how many partitions there are; how many nodes can be inserted with no growth; and how many were inserted
pub record Nodes (T : Type 0) : Type 0 where
  pub slots : List (Option (Node T))
  pub next : List ℕ
  pub partitions : ℕ
  pub spare : ℕ
  pub issued : ℕ

module _ {T : Type 0} where
  -- a node is stored as the pair of its fields, and the nodes as the tuple of theirs
  abbrev pub node_code : Coded T → Coded (Node T)
  node_code c = code_by (ℕ × T) (coded× coded_ℕ c) (λ n. (n.number, n.value)) (λ p. record { number = p.0; value = p.1 }) (λ _. refl)

  abbrev pub nodes_code : Coded T → Coded (Nodes T)
  nodes_code c =
      code_by (List (Option (Node T)) × (List ℕ × (ℕ × (ℕ × ℕ))))
      (coded× (coded_list (coded_option (node_code c))) (coded× (coded_list coded_ℕ) (coded× coded_ℕ (coded× coded_ℕ coded_ℕ))))
      (λ n. (n.slots, (n.next, (n.partitions, (n.spare, n.issued)))))
      (λ p. record { slots = p.0; next = p.1.0; partitions = p.1.1.0; spare = p.1.1.1.0; issued = p.1.1.1.1 }) (λ _. refl)

  -- the value of a node, if it is one and has this number
  abbrev pub numbered : ℕ → Option (Node T) → Option T
  numbered number None = None
  numbered number (Some node) = if node.number == number then Some node.value else None

  -- the node in a slot
  abbrev pub node_at : Nodes T → ℕ → Option (Node T)
  node_at n slot = slice_index_or n.slots slot None

  -- the number of a node, if it is one
  abbrev pub number_of : Option (Node T) → ℕ
  number_of None = 0
  number_of (Some node) = node.number

  -- the key of the node in a slot
  abbrev pub key_in : Nodes T → ℕ → Key
  key_in n slot = record { slot = slot; number = number_of (node_at n slot) }

  -- a slot has a node
  abbrev pub HasNode : Nodes T → ℕ → Type 0
  HasNode n slot = IsSome (node_at n slot)

  -- the value that a key has
  abbrev pub value_at : Nodes T → Key → Option T
  value_at n key = numbered key.number (node_at n key.slot)

  -- the key has a node
  abbrev pub IsLive : Nodes T → Key → Type 0
  IsLive n key = IsSome (value_at n key)

  -- the key was issued, and its node is gone
  pub record IsSpent (n : Nodes T) (key : Key) : Type 0 where
    pub issued : key.number < n.issued
    pub gone : value_at n key ≡ None

  -- a key that was issued and whose node is gone never has one again
  abbrev pub KeepsSpent : Nodes T → Nodes T → Type 0
  KeepsSpent old new = (key : Key) → IsSpent old key → IsSpent new key

  -- the number of the key is the next to be issued
  abbrev pub IsNext : Nodes T → Key → Type 0
  IsNext n key = key.number ≡ n.issued

  -- how many keys have a node
  abbrev pub live_count : Nodes T → ℕ
  live_count n = count_by is_some n.slots

  -- the slot after this one in the r-th partition
  abbrev pub next_slot : Nodes T → ℕ → ℕ → ℕ
  next_slot n r slot = slice_index_or n.next (slot * n.partitions + r) slot

  -- the key after this one in the r-th partition
  abbrev pub next_key : Nodes T → ℕ → Key → Key
  next_key n r key = key_in n (next_slot n r key.slot)

  -- two keys have nodes in one ring of the r-th partition: steps along the ring lead from each to the other
  pub record SameRing (n : Nodes T) (r : ℕ) (a b : Key) : Type 0 where
    pub from : IsLive n a
    pub to : IsLive n b
    pub steps : Reaches (next_slot n r) a.slot b.slot
    pub back : Reaches (next_slot n r) b.slot a.slot

  -- every key has the value that it had
  abbrev pub SameValues : Nodes T → Nodes T → Type 0
  SameValues old new = (key : Key) → value_at new key ≡ value_at old key

  -- this key has this, and every other key has the value that it had
  pub record Updates (old new : Nodes T) (key : Key) (value : Option T) : Type 0 where
    pub changed : value_at new key ≡ value
    pub others : (other : Key) → other ≢ key → value_at new other ≡ value_at old other

  -- as many nodes are live, spare and issued as were
  abbrev pub SameCounts : Nodes T → Nodes T → Type 0
  SameCounts old new = (live_count new ≡ live_count old) × (new.spare ≡ old.spare) × (new.issued ≡ old.issued)

  -- the r-th partition is as it was
  abbrev pub SameRings : Nodes T → Nodes T → ℕ → Type 0
  SameRings old new r = (x y : Key) → SameRing new r x y ↔ SameRing old r x y

  -- the key shares no ring of the r-th partition, and among the other keys that is as it was
  pub record PartsFrom (old new : Nodes T) (r : ℕ) (key : Key) : Type 0 where
    pub alone : (x : Key) → SameRing new r key x → x ≡ key
    pub others : (x y : Key) → x ≢ key → y ≢ key → SameRing new r x y ↔ SameRing old r x y

  -- two keys are in one ring where they were, or where the one was in a's ring and the other in b's
  abbrev pub UnitesRings : Nodes T → Nodes T → ℕ → Key → Key → Type 0
  UnitesRings old new r a b =
      (x y : Key) → SameRing new r x y ↔ (SameRing old r x y ⊎ (SameRing old r x a × SameRing old r b y)
      ⊎ (SameRing old r x b × SameRing old r a y))

  -- in the r-th partition the same key comes after each as did
  abbrev pub SameOrder : Nodes T → Nodes T → ℕ → Type 0
  SameOrder old new r = (key : Key) → IsLive old key → next_key new r key ≡ next_key old r key

  -- in the r-th partition a and b have each other's next key, and every other key the one that it had
  pub record ExchangesNext (old new : Nodes T) (r : ℕ) (a b : Key) : Type 0 where
    pub at_a : next_key new r a ≡ next_key old r b
    pub at_b : next_key new r b ≡ next_key old r a
    pub others : (x : Key) → IsLive old x → x ≢ a → x ≢ b → next_key new r x ≡ next_key old r x

  -- in the r-th partition the key before this one now comes before the key after it, and every other has the next key
  -- that it had
  pub record PassesOver (old new : Nodes T) (r : ℕ) (key : Key) : Type 0 where
    pub past : (x : Key) → IsLive old x → x ≢ key → next_key old r x ≡ key → next_key new r x ≡ next_key old r key
    pub others : (x : Key) → IsLive old x → x ≢ key → next_key old r x ≢ key → next_key new r x ≡ next_key old r x

  -- a node with another value
  abbrev pub with_node_value : T → Option (Node T) → Option (Node T)
  with_node_value value None = None
  with_node_value value (Some node) = Some (record node { value = value })

  -- the pool with another value at a live key
  abbrev pub with_value : Nodes T → Key → T → Nodes T
  with_value n key value = record n { slots = slice_set n.slots key.slot (with_node_value value (node_at n key.slot)) }
