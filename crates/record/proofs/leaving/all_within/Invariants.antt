-- those so far are in the list
use Rattle.std.proofs.Common.{◌≡◌, ◌++◌}
use Rattle.record.proofs.leaving.all_within.Given as goal

abbrev pub invariant-loop-component : goal.invariant-loop-component
invariant-loop-component g l = record {
  split : l.yielded ++ l.component-iterator.rest.items ≡ l.fn.components.items;
  same : l.records.items ≡ l.yielded;
}
