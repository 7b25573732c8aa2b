-- A key whose node was taken finds nothing in any later state.
use Rattle.std.proofs.Common.{◌≡◌, ℕ, zero, suc, ◌<◌, List, [], ◌∷◌, length, get_or, None, arith}
use Rattle.node_pool.specs.declared.pool.Key.{Key}
use Rattle.node_pool.specs.Nodes.{Nodes, value_at, IsSpent}
use Rattle.node_pool.specs.Laws.{AreCalled}

pub gone_later : {T : Type 0} (n : Nodes T) (key : Key) (later : List (Nodes T)) → IsSpent n key
    → AreCalled n later → (k : ℕ) (d : Nodes T) → k < length later → value_at (get_or later k d) key ≡ None
gone_later n key [] spent called k d within = absurd (omega arith)
gone_later n key (m ∷ later) spent called zero d within = (called.0 key spent).gone
gone_later n key (m ∷ later) spent called (suc k) d within = gone_later m key later (called.0 key spent) called.1 k d (omega arith)
