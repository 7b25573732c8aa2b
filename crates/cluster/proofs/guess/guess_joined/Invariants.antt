use Rattle.std.proofs.Common.{Contains, ◌⊎◌}
use Rattle.cluster.specs.Guesses.{AreImages}
use Rattle.cluster.proofs.guess.guess_joined.Given as goal

abbrev pub invariant-loop : goal.invariant-loop
invariant-loop g l =
    AreImages l.names (λ part. Contains l.first.parts part ⊎ Contains l.second.parts part) l.guess.parts.items l.guess.places.items l.guess.flows.items
