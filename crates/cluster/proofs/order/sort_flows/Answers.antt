use Rattle.std.proofs.Common.{rules}
use Rattle.std.proofs.lemmas.List.Sorted.{answers_always}
use Rattle.cluster.proofs.Rising.{ends, rising_from_sorted}
use Rattle.cluster.proofs.order.sort_flows.Goals as goal

pub returns-clause-rises : goal.returns-clause-rises
returns-clause-rises c =
    rising_from_sorted c.sort_unstable_by_key.new.self.items (c.sort_unstable_by_key.ensures.sorted ends (answers_always _ _ _ (λ f a r g h. search rules)))
