use Rattle.std.proofs.Common.{◌≡◌, ℕ, ◌<◌, pos, get_or}
use Rattle.leaf_tests.proofs.links_tests.lists.Given as goal

abbrev pub invariant-loop-tx : goal.invariant-loop-tx
invariant-loop-tx l = (k : ℕ) → k < l.tx-index → (get_or l.txs k (0, pos 0, 0)).0 ≡ l.id → ⊥
