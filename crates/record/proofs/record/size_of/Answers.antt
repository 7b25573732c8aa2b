use Rattle.std.proofs.Common.{◌≡◌, ◌+◌, ◌*◌, ◌≤◌, ℕ, ℤ, length, take, slice_index_or, ap, ◌∙◌, arith}
use Rattle.std.specs.Prelude.{sum_by}
use Rattle.std.proofs.lemmas.List.{take_all}
use Rattle.std.proofs.lemmas.List.Sums.{sum_by_more_le}
use Rattle.record.proofs.Rating.{no_tx, sum_small}
use Rattle.record.proofs.record.size_of.Goals as goal

pub overflow_add-total : goal.overflow_add-total
overflow_add-total c =
    let all : sum_by (λ (tx : ℕ × ℤ × ℕ). tx.2) c.args.txs.now ≤ 4000000 * length c.args.txs.now = sum_small c.args.txs.now c.requires.in_range in
    let more : sum_by (λ (tx : ℕ × ℤ × ℕ). tx.2) (take c.loop-tx.tx-index c.args.txs.now) + (slice_index_or c.args.txs.now c.loop-tx.tx-index no_tx).2
    ≤ sum_by (λ (tx : ℕ × ℤ × ℕ). tx.2) c.args.txs.now =
    sum_by_more_le (λ (tx : ℕ × ℤ × ℕ). tx.2) c.args.txs.now c.loop-tx.tx-index no_tx c.loop-tx-test.true in
    omega (arith, all, more, c.requires.few, c.loop-tx.invariant)

pub returns-clause-small : goal.returns-clause-small
returns-clause-small c =
    let all : sum_by (λ (tx : ℕ × ℤ × ℕ). tx.2) c.args.txs.now ≤ 4000000 * length c.args.txs.now = sum_small c.args.txs.now c.requires.in_range in
    let whole : c.loop-tx.total ≡ sum_by (λ (tx : ℕ × ℤ × ℕ). tx.2) c.args.txs.now =
    c.loop-tx.invariant ∙ ap (sum_by (λ (tx : ℕ × ℤ × ℕ). tx.2)) (take_all c.loop-tx.tx-index c.args.txs.now (omega (arith, c.loop-tx-test.false))) in
    omega (arith, all, whole)
