use Rattle.std.proofs.Common.{rules}
use Rattle.std.proofs.lemmas.List.Sorted.{answers_always}
use Rattle.dump_text.proofs.Rising.{distinct_moved, edges_rise, ends, none_falls}
use Rattle.dump_text.proofs.sorting.sort_edges.Goals as goal

pub returns-clause-rises : goal.returns-clause-rises
returns-clause-rises c once =
    let old = c.args.edges.now.items in
    let new = c.sort_unstable_by_key.new.self.items in
    edges_rise new (none_falls new (c.sort_unstable_by_key.ensures.sorted ends (answers_always _ _ _ (λ f a r g h. search rules))))
    (distinct_moved old new c.sort_unstable_by_key.ensures.permutation once)
