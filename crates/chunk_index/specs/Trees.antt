-- When the sizes of two trees are balanced: with one added to each, neither is more than three times the other. So the depth of a tree is
-- below 2.5 times the logarithm of its size.
use Rattle.std.specs.Prelude.{ℕ, ◌+◌, ◌*◌, ◌≤◌}

pub record AreBalanced (l r : ℕ) : Type 0 where
  pub left : l ≤ 3 * r + 2
  pub right : r ≤ 3 * l + 2

-- what is left of that after one was put into either or taken out of either
pub record AreNearlyBalanced (l r : ℕ) : Type 0 where
  pub left : l ≤ 3 * r + 5
  pub right : r ≤ 3 * l + 5
