use Rattle.lists.specs.Distinct.{AreDistinct}
use Rattle.order_tests.proofs.whole_tests.once.Given as goal

abbrev pub invariant-loop-name : goal.invariant-loop-name
invariant-loop-name g l = AreDistinct l.own.items
