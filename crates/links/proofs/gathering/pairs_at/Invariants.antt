use Rattle.std.proofs.Common.{[], take}
use Rattle.links.specs.Leaving.{Adds}
use Rattle.links.specs.Gathering.{IsFromOne}
use Rattle.links.proofs.gathering.pairs_at.Given as goal

abbrev pub invariant-loop-place : goal.invariant-loop-place
invariant-loop-place l = Adds (IsFromOne l.ways.steps.items l.pairs (take l.place-index l.places)) [] l.list.items
