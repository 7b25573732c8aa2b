use Rattle.std.proofs.Common.{rules, ℕ, ℤ}
use Rattle.std.proofs.lemmas.List.Sorted.{answers_always, IsNonDecreasingBy-from_sort, IsPermutation-map}
use Rattle.graph_model.specs.Changes.{ids_of}
use Rattle.dump_text.proofs.Rising.{distinct_moved, numbers_rise}
use Rattle.dump_text.proofs.sorting.sort_txs.Goals as goal

pub returns-clause-rises : goal.returns-clause-rises
returns-clause-rises c once =
    let number : ℕ × ℤ × ℕ → ℕ = λ tx. tx.0 in
    let old = c.args.txs.now.items in
    let new = c.sort_unstable_by_key.new.self.items in
    numbers_rise number new
    (IsNonDecreasingBy-from_sort number new (c.sort_unstable_by_key.ensures.sorted number (answers_always _ _ _ (λ f a r g h. search rules))))
    (distinct_moved (ids_of old) (ids_of new) (IsPermutation-map number old new c.sort_unstable_by_key.ensures.permutation) once)
