use Rattle.std.proofs.Common.{◌≡◌, length}
use Rattle.places.proofs.Linking.{AreLinked}
use Rattle.places.proofs.chains.linked.Given as goal

abbrev pub invariant-loop-at : goal.invariant-loop-at
invariant-loop-at l = (length l.last.items ≡ l.count) × AreLinked l.pairs l.at l.last.items l.before.items
