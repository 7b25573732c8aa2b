-- the entries so far have the number of the first
use Rattle.std.proofs.Common.{◌≡◌, ◌≤◌, take, All}
use Rattle.std.specs.Prelude.{slice_index_or}
use Rattle.levels.proofs.left.run_length.Given as goal

abbrev pub invariant-loop-at : goal.invariant-loop-at
invariant-loop-at l = record {
  some : 1 ≤ l.at;
  same : All (λ e. e.0 ≡ (slice_index_or l.listed 0 (0, 0)).0) (take l.at l.listed);
}
