use Rattle.std.proofs.Common.{length}
use Rattle.wire.proofs.NameLemmas.{AreRead}
use Rattle.wire.proofs.line.names.Given as goal

-- the text is the names so far, each with a space, and then the rest
abbrev pub invariant-loop-word : goal.invariant-loop-word
invariant-loop-word l = AreRead l.text l.fn.ids.room l.ids l.rest

abbrev pub decreases-loop-word : goal.decreases-loop-word
decreases-loop-word l = length l.rest
