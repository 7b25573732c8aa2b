-- those so far have moved
use Rattle.std.proofs.Common.{◌≡◌, ◌++◌}
use Rattle.cluster_store.specs.Slots.{MovesFirsts}
use Rattle.cluster_store.proofs.settling.move_firsts.Given as goal

abbrev pub invariant-loop-entry : goal.invariant-loop-entry
invariant-loop-entry g l = record {
  split : l.yielded ++ l.entry-iterator ≡ l.fn.entries;
  moved : MovesFirsts l.fn.to l.yielded l.fn.slots.slots l.slots.slots;
}
