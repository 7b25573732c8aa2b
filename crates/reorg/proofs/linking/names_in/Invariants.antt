-- the list has the names so far
use Rattle.std.proofs.Common.{◌≡◌, ◌++◌}
use Rattle.reorg.proofs.linking.names_in.Given as goal

abbrev pub invariant-loop-id : goal.invariant-loop-id
invariant-loop-id g l = record {
  all : l.yielded ++ l.id-iterator ≡ l.initial.id-iterator;
  list : l.list.items ≡ l.yielded;
}
