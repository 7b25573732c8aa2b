-- the names so far have the number
use Rattle.std.proofs.Common.{◌≡◌, ◌≤◌, ◌-◌, length, take, All}
use Rattle.std.specs.FinMap as finmap
use Rattle.levels.specs.Shelves.{numbers_at}
use Rattle.levels.proofs.shelves.Shelves.run_length.Given as goal

abbrev pub invariant-loop-at : goal.invariant-loop-at
invariant-loop-at g l = record {
  within : l.at ≤ length l.fn.ids;
  same : All (λ id. finmap.get (numbers_at l.fn.level l.fn.self) id ≡ l.fn.number) (take l.at l.fn.ids);
}

abbrev pub decreases-loop-at : goal.decreases-loop-at
decreases-loop-at g l = length l.fn.ids - l.at
