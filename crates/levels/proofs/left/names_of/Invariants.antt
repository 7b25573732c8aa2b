-- the names of the entries so far
use Rattle.std.proofs.Common.{◌≡◌, ◌≤◌, ◌+◌, ◌-◌, length, map, take}
use Rattle.levels.proofs.left.names_of.Given as goal

abbrev pub invariant-loop-entry : goal.invariant-loop-entry
invariant-loop-entry l = record {
  names : l.names.items ≡ map (λ e. e.1) (take l.entry-index l.run);
  room : l.names.len + (length l.run - l.entry-index) ≤ l.names.cap;
}
