use Rattle.std.proofs.lemmas.List.Sorted.{IsNonDecreasingBy-from_sort}
use Rattle.trim.proofs.Together.{trimmed_together}
use Rattle.trim.proofs.dropping.dropped.Goals as goal

pub returns : goal.returns
returns g c state stands =
    let found = c.in_ok-ids.ensures in
    trimmed_together c.args.graph.now state stands found.0 c.in_ok-ids.ids.items c.sort_unstable.new.self.items found.1 found.2
    c.sort_unstable.ensures.permutation (IsNonDecreasingBy-from_sort (λ x. x) c.sort_unstable.new.self.items c.sort_unstable.ensures.sorted)
