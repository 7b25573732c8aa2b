-- What a solver's room shows: what each child sends to each parent, and how many places its queue ever gave.
use Rattle.std.specs.Prelude.{◌≡◌, ℕ, ◌+◌, ◌≤◌, cond, List, [], map, get_or}
use Rattle.std.specs.List.{range_with_len}
use Rattle.std.specs.Ordering.{nat_cmp}
use Rattle.std.specs.FinSet as set
use Rattle.closure_flow.specs.Networks.{sent}

-- a row for each child, with an amount for each parent
abbrev pub Flow : Type 0
Flow = List (List ℕ)

-- the flow that is left there, and how many places the queue ever gave
pub record Room : Type 0 where
  pub flow : Flow
  pub given : ℕ

-- what a child sends to a parent
abbrev pub flow_of : Room → ℕ → ℕ → ℕ
flow_of room c p = get_or (get_or room.flow c []) p 0

-- The steps of a call, at most so many: one for each place that the queue gave meanwhile, one for each of those that a
-- solve began with, and no other.
pub record TakesSteps (begun most : ℕ) (old new : Room) (before after : ℕ) : Type 0 where
  pub gave : old.given ≤ new.given
  pub counted : after + old.given ≡ before + begun + new.given
  pub few : after ≤ before + most

-- the rows of n children with n parents
abbrev pub rows : ℕ → (ℕ → ℕ → ℕ) → Flow
rows n f = map (λ c. map (f c) (range_with_len 0 n)) (range_with_len 0 n)

-- what a child sends in a network for n places: only parents among the places that it is for receive something
abbrev pub shown : ℕ → set.FinSet nat_cmp → List (set.FinSet nat_cmp) → List ℕ → ℕ → ℕ → ℕ
shown n within into amounts c p = cond (set.contains within p) (sent n into amounts c p) 0
