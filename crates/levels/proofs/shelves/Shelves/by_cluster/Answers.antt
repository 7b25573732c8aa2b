use Rattle.std.proofs.Common.{rules}
use Rattle.std.proofs.lemmas.List.Sorted.{answers_always, IsNonDecreasingBy-from_sort}
use Rattle.levels.proofs.Listed.{listed_sorted}
use Rattle.levels.proofs.shelves.Shelves.by_cluster.Goals as goal

pub returns : goal.returns
returns g c =
    listed_sorted c.args.self.now c.args.ids.now c.in_ok-listed.listed.items c.sort_unstable_by_key.new.self.items c.in_ok-listed.ensures
    c.sort_unstable_by_key.ensures.permutation
    (IsNonDecreasingBy-from_sort (λ e. e.0) c.sort_unstable_by_key.new.self.items
    (c.sort_unstable_by_key.ensures.sorted (λ e. e.0) (answers_always _ _ _ (λ f a r g h. search rules))))
