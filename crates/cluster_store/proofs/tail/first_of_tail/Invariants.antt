-- What was taken from the end stands behind what is left.
use Rattle.std.proofs.Common.{length}
use Rattle.chunk_index.specs.declared.entry.Tag.TheVariants.{Both}
use Rattle.chunk_index.specs.Items.{entries_tagged}
use Rattle.cluster_store.specs.Rates.{AreTaken}
use Rattle.cluster_store.proofs.tail.first_of_tail.Given as goal

abbrev pub invariant-loop-entry : goal.invariant-loop-entry
invariant-loop-entry l = AreTaken l.fn.size l.short (entries_tagged Both l.index) l.walk l.first

abbrev pub decreases-loop-entry : goal.decreases-loop-entry
decreases-loop-entry l = length l.walk
