use Rattle.std.proofs.Common.{take}
use Rattle.cluster.specs.Guesses.{PutsPlaces}
use Rattle.cluster.proofs.guess.put_places.Given as goal

abbrev pub invariant-loop-at : goal.invariant-loop-at
invariant-loop-at l = PutsPlaces l.names (take l.at l.ids) l.fn.places.items l.places.items l.all
