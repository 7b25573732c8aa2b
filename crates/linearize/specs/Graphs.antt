-- What is asked of a dependency graph whose members are to be ordered.
use Rattle.std.specs.Prelude.{◌≡◌, ℕ, true}
use Rattle.graphs.specs.Closures.{Closure, is_member, members_of, rate_of, IsNear}
use Rattle.lists.specs.Walks.{Walk}
use Rattle.fee_rate.specs.declared.rates.Sum.{Sum}
use Rattle.fee_rate.specs.Limits.{IsRate}
pub use Rattle.fee_rate.specs.Rates.{sum_from}

-- the fee and the size of a place
abbrev pub sum_at : Closure → ℕ → Sum
sum_at dep p = sum_from (rate_of dep p)

-- each member's fee and size are in range
abbrev pub HasRates : Closure → Type 0
HasRates dep = (p : ℕ) → is_member dep p ≡ true → IsRate (rate_of dep p)

-- from each member every other one is reached, by steps from a member to its ancestors and descendants
abbrev pub IsComponent : Closure → Type 0
IsComponent dep = (a b : ℕ) → is_member dep a ≡ true → is_member dep b ≡ true → Walk (IsNear dep (members_of dep)) a b

-- so many members have a total fee that 64 bits hold
abbrev pub most_members : ℕ
most_members = 4096
