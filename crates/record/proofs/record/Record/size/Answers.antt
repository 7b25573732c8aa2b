use Rattle.std.proofs.Common.{◌*◌, ℕ, ℤ, sym, ap, ◌∙◌, subst}
use Rattle.std.specs.Prelude.{sum_by}
use Rattle.graphs.specs.Certificates.{Txs}
use Rattle.links.specs.Links.{AreInRange}
use Rattle.record.proofs.Keeping.{over_held, over_is}
use Rattle.record.proofs.Rating.{size_told}
use Rattle.record.proofs.record.Record.size.Goals as goal

pub size_of-requires-clause-in_range : goal.size_of-requires-clause-in_range
size_of-requires-clause-in_range g c =
    let held = over_held (64 * g.row.W) c.self.inside.kept c.in-Over.over c.deref.result.now c.in-Over.is c.deref.ensures c.self.invariant.2 in
    subst (λ (txs : Txs). AreInRange txs) (sym c.txs.ensures.txs) held.links.in_range

pub returns-in-Over-clause-sum : goal.returns-in-Over-clause-sum
returns-in-Over-clause-sum g c =
    let held = over_held (64 * g.row.W) c.self.inside.kept c.in-Over.over c.deref.result.now c.in-Over.is c.deref.ensures c.self.invariant.2 in
    c.size_of.ensures.sum ∙ ap (sum_by (λ (tx : ℕ × ℤ × ℕ). tx.2)) c.txs.ensures.txs
    ∙ size_told c.deref.result.now.links held.links c.args.self.now
    (over_is c.self.inside.kept c.in-Over.over c.deref.result.now c.args.self.now c.in-Over.is c.deref.ensures c.self.view_is)
