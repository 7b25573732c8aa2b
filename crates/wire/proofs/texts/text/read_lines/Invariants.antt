use Rattle.std.proofs.Common.{length}
use Rattle.wire.specs.Drafts.{written, lines_of}
use Rattle.wire.proofs.LineLemmas.{IsRead}
use Rattle.wire.proofs.texts.text.read_lines.Given as goal

-- the lines up to the rest were read
abbrev pub invariant-loop-line : goal.invariant-loop-line
invariant-loop-line l = IsRead (lines_of l.bytes) (lines_of l.rest) (written l.draft)

abbrev pub decreases-loop-line : goal.decreases-loop-line
decreases-loop-line l = length l.rest
