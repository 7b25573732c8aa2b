-- The steps of the orders that are made.
use Rattle.std.specs.Prelude.{ℕ, ◌+◌, ◌*◌, ◌^◌, ◌≤◌, List, length, sum_by}

-- an order of n names takes at most so many steps
abbrev pub most_steps : ℕ → ℕ
most_steps n = 2 * (n + 2) ^ 5

-- a count grew, and by no more than this
pub record GrowsWithin (most before after : ℕ) : Type 0 where
  pub grew : before ≤ after
  pub few : after ≤ before + most

-- what the orders of lists of names take together
abbrev pub most_steps_of : List (List ℕ) → ℕ
most_steps_of lists = sum_by (λ ids. most_steps (length ids)) lists
