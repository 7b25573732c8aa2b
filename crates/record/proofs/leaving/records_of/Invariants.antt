-- the records so far
use Rattle.std.proofs.Common.{◌≡◌, ◌++◌, ◌*◌}
use Rattle.std.specs.Prelude.{All}
use Rattle.cluster.specs.Steps.{GrowsWithin}
use Rattle.record.specs.Leaving.{AreLike, most_steps_of_links}
use Rattle.record.specs.Records.{IsFitted}
use Rattle.record.proofs.leaving.records_of.Given as goal

abbrev pub invariant-loop-part : goal.invariant-loop-part
invariant-loop-part g l = record {
  split : l.yielded ++ l.part-iterator.rest.items ≡ l.fn.parts.items;
  like : AreLike l.records.items l.yielded;
  fitted : All (IsFitted (64 * g.row.W) l.limits) l.records.items;
  steps : GrowsWithin (most_steps_of_links l.limits l.yielded) l.fn.steps l.steps;
}
