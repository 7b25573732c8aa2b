use Rattle.std.proofs.Common.{ℕ, List, [], ◌∷◌, ◌++◌, cond, nat_eq, get_or, sym, ap, ◌∙◌}
use Rattle.std.specs.HashSet as bag
use Rattle.links.proofs.Gone.{filter_more}
use Rattle.links.proofs.leaving.pairs_into.Goals as goal

pub loop-pair-preserved : goal.loop-pair-preserved
loop-pair-preserved c =
    let pairs = c.args.pairs.now in
    let pair : ℕ × ℕ = get_or pairs c.loop-pair.pair-index (0, 0) in
    c.in_ok-keep_pair.ensures
    ∙ ap (λ (l : List (ℕ × ℕ)). l ++ cond (bag.contains nat_eq c.args.gone.now pair.1) (pair ∷ []) []) c.loop-pair.invariant
    ∙ sym (filter_more (λ (x : ℕ × ℕ). bag.contains nat_eq c.args.gone.now x.1) pairs c.loop-pair.pair-index (0, 0) c.loop-pair-test.true)
