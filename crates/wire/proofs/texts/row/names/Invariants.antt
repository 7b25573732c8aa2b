use Rattle.std.proofs.Common.{length}
use Rattle.wire.proofs.ChunkLemmas.{AreFront}
use Rattle.wire.proofs.texts.row.names.Given as goal

-- the text is the names so far, each with a space, and then the rest
abbrev pub invariant-loop-word : goal.invariant-loop-word
invariant-loop-word l = AreFront l.text l.ids.items l.rest

abbrev pub decreases-loop-word : goal.decreases-loop-word
decreases-loop-word l = length l.rest
