-- What holds of a pool, and over any sequence of calls.
use Rattle.std.specs.Prelude.{◌≡◌, ℕ, ◌<◌, List, [], ◌∷◌, Some, None}
use Rattle.std.specs.List.{All}
use Rattle.node_pool.specs.declared.pool.Key.{Key}
use Rattle.node_pool.specs.RingKeys.{IsRing}
use Rattle.node_pool.specs.Nodes.{Nodes, value_at, IsLive, IsSpent, KeepsSpent, Updates, with_value}

module _ {T : Type 0} where
  -- pools, each as a call left the one before
  abbrev pub AreCalled : Nodes T → List (Nodes T) → Type 0
  AreCalled pool [] = Unit {0}
  AreCalled pool (next ∷ later) = KeepsSpent pool next × AreCalled next later

  -- once the node of a key was taken, the key finds nothing, whatever is called later
  abbrev pub TakenStaysGone : Nodes T → Type 0
  TakenStaysGone pool =
      (key : Key) (later : List (Nodes T)) → IsSpent pool key → AreCalled pool later → All (λ n. value_at n key ≡ None) later

  -- a write through a `&mut` to the value of a live key changes that value and nothing else
  pub record WritesOneValue (pool : Nodes T) (key : Key) (value : T) : Type 0 where
    pub updates : Updates pool (with_value pool key value) key (Some value)
    pub spent : KeepsSpent pool (with_value pool key value)

  abbrev pub WritesStayInPlace : Nodes T → Type 0
  WritesStayInPlace pool = (key : Key) (value : T) → IsLive pool key → WritesOneValue pool key value

  -- each live key has a ring in each of R partitions
  abbrev pub RingsGoRound : ℕ → Nodes T → Type 0
  RingsGoRound R pool = (r : ℕ) (a : Key) → r < R → IsLive pool a → (keys : List Key) × IsRing pool r a keys
