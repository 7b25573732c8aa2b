use Rattle.std.proofs.Common.{◌≡◌, ◌-◌, ◌<◌, ◌≤◌, ℕ, true, length, slice_index_or}
use Rattle.links.specs.Walkers.{mark_at}
use Rattle.trimming.specs.Nets.{list_at}
use Rattle.trimming.proofs.counts.advance.Given as goal

abbrev pub invariant-loop-count : goal.invariant-loop-count
invariant-loop-count l = record {
  few : l.count ≤ length (list_at l.net.parents.items l.place);
  are : (k : ℕ) → k < l.count → mark_at l.kept (slice_index_or (list_at l.net.parents.items l.place) k 0) ≡ true;
}

abbrev pub decreases-loop-count : goal.decreases-loop-count
decreases-loop-count l = length (list_at l.net.parents.items l.place) - l.count
