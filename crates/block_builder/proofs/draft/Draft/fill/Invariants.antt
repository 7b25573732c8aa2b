-- the parts so far are those of the draft
use Rattle.std.proofs.Common.{◌≡◌, length}
use Rattle.block_builder.proofs.Drafting.{IsSoFar}
use Rattle.block_builder.proofs.draft.Draft.fill.Given as goal

abbrev pub invariant-loop-self : goal.invariant-loop-self
invariant-loop-self g l = record { so_far : IsSoFar l.self l.fn.parts l.parts; limit : l.self.limit ≡ l.fn.self.limit }

abbrev pub decreases-loop-self : goal.decreases-loop-self
decreases-loop-self g l = length l.parts
