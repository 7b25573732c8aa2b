-- those so far are in the list
use Rattle.std.proofs.Common.{◌≡◌, ◌++◌}
use Rattle.component.proofs.pieces.narrow_all.Given as goal

abbrev pub invariant-loop-cluster : goal.invariant-loop-cluster
invariant-loop-cluster g l = record {
  split : l.yielded ++ l.cluster-iterator.rest.items ≡ l.fn.clusters.items;
  same : l.components.items ≡ l.yielded;
}
