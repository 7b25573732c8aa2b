use Rattle.std.proofs.Common.{Contains}
use Rattle.cluster.specs.Guesses.{AreImages}
use Rattle.cluster.proofs.guess.guess_part.Given as goal

abbrev pub invariant-loop-at : goal.invariant-loop-at
invariant-loop-at g l = AreImages l.names (λ part. Contains l.old.parts part) l.guess.parts.items l.guess.places.items l.guess.flows.items
