use Rattle.std.proofs.Common.{rules}
use Rattle.std.proofs.lemmas.List.Sorted.{answers_always}
use Rattle.trimming.specs.Orders.{goes_before}
use Rattle.trimming.proofs.Ordering.{goes_weakly}
use Rattle.trimming.proofs.order.sorted.Goals as goal

pub returns-clause-sorted : goal.returns-clause-sorted
returns-clause-sorted c = c.sort_unstable_by.ensures.sorted goes_before goes_weakly (answers_always _ _ _ (λ f a r g h. search rules))
