use Rattle.std.proofs.Common.{◌≡◌, ◌<◌, inl, inr, sym, ap, subst, arith, length}
use Rattle.graphs.specs.Certificates.{Txs}
use Rattle.graph_model.specs.declared.names.Refusal.TheVariants.{ClusterSize}
use Rattle.links.specs.Links.{AreInRange}
use Rattle.links.specs.Kept.{names_of}
use Rattle.links.specs.Closing.{closure}
use Rattle.record.specs.Steps.{total_size}
use Rattle.record.proofs.Sized.{all_told, count_told, over_told}
use Rattle.record.proofs.restoring.refused_part.Goals as goal

pub size_of-size-requires-clause-in_range : goal.size_of-size-requires-clause-in_range
size_of-size-requires-clause-in_range c = subst (λ (txs : Txs). AreInRange txs) (sym c.txs-2.ensures.txs) c.txs.ensures.whole.in_range

pub returns-then-size-limits : goal.returns-then-size-limits
returns-then-size-limits c =
    let part = c.args.part.now in
    let size : c.size_of-size.result ≡ total_size (closure part) (names_of part.txs) =
    all_told c.args.limits.now part c.txs.ensures.whole c.txs.result.now c.txs-2.result.now c.txs.ensures.txs c.txs-2.ensures.txs c.size_of-size.result
    c.size_of-size.ensures.sum in
    let count : length c.txs.result.now ≡ length (names_of part.txs) =
    count_told c.args.limits.now part c.txs.ensures.whole c.txs.result.now c.txs-2.result.now c.txs.ensures.txs c.txs-2.ensures.txs c.size_of-size.result
    c.size_of-size.ensures.sum in
    inr (omega (arith, count, c.if-count-limits.false), subst (λ n. c.args.limits.now.size < n) size c.if-size-limits.true, ap ClusterSize size)

pub returns : goal.returns
returns c over =
    elim (over_told c.args.limits.now c.args.part.now c.txs.ensures.whole c.txs.result.now c.txs-2.result.now c.txs.ensures.txs c.txs-2.ensures.txs
    c.size_of-size.result c.size_of-size.ensures.sum over) [
      | inl many ↦ omega (arith, many, c.if-count-limits.false)
      | inr large ↦ omega (arith, large, c.if-size-limits.false)
    ]
