use Rattle.std.proofs.Common.{ℕ, ℤ, pos, List, [], ◌∷◌, ◌++◌, cond, nat_eq, not, get_or, sym, ap, ◌∙◌}
use Rattle.std.specs.HashSet as bag
use Rattle.links.proofs.Gone.{filter_more}
use Rattle.links.proofs.leaving.txs_left.Goals as goal

pub loop-tx-preserved : goal.loop-tx-preserved
loop-tx-preserved c =
    let txs = c.args.txs.now in
    let tx : ℕ × ℤ × ℕ = get_or txs c.loop-tx.tx-index (0, pos 0, 0) in
    c.in_ok-keep_tx.ensures
    ∙ ap (λ (l : List (ℕ × ℤ × ℕ)). l ++ cond (not (bag.contains nat_eq c.args.gone.now tx.0)) (tx ∷ []) []) c.loop-tx.invariant
    ∙ sym (filter_more (λ (x : ℕ × ℤ × ℕ). not (bag.contains nat_eq c.args.gone.now x.0)) txs c.loop-tx.tx-index (0, pos 0, 0) c.loop-tx-test.true)
