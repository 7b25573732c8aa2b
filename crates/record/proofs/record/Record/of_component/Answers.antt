use Rattle.std.proofs.Common.{◌≡◌, ◌*◌, sym, ◌∙◌, subst, true≢false}
use Rattle.std.proofs.lemmas.Result.{IfOk-weaker}
use Rattle.cluster.specs.Clusters.{Cluster, IsCluster}
use Rattle.graphs.specs.Certificates.{Txs}
use Rattle.links.specs.Links.{AreInRange}
use Rattle.record.specs.Kept.{unordered}
use Rattle.record.specs.Records.{IsFitted, IsLike, IsOver}
use Rattle.record.proofs.Lost.{both_ok}
use Rattle.record.proofs.Sized.{told_over, over_told, fits_over, fits_within, links_steps}
use Rattle.record.proofs.record.Record.of_component.Goals as goal

pub size_of-size-requires-clause-in_range : goal.size_of-size-requires-clause-in_range
size_of-size-requires-clause-in_range g c = subst (λ (txs : Txs). AreInRange txs) (sym c.txs-2.ensures.txs) c.txs.ensures.whole.in_range

pub returns-then-are_over-clause-fitted : goal.returns-then-are_over-clause-fitted
returns-then-are_over-clause-fitted g c =
    let over : IsOver c.args.limits.now (unordered c.args.links) =
    told_over c.args.limits.now c.args.links c.txs.ensures.whole c.txs.result.now c.txs-2.result.now c.txs.ensures.txs c.txs-2.ensures.txs
    c.size_of-size.result c.size_of-size.ensures.sum (c.are_over.ensures.0 c.if-are_over.true) in
    IfOk-weaker c.over.result (λ (r : Cluster). r ≡ unordered c.args.links) (IsFitted (64 * g.row.W) c.args.limits.now)
    (λ r is. fits_over (64 * g.row.W) c.args.limits.now c.args.links r c.requires.one.connected over is) c.over.ensures.record

pub returns-clause-fitted : goal.returns-clause-fitted
returns-clause-fitted g c =
    let none : IsOver c.args.limits.now (unordered c.args.links) → ⊥ =
    λ over. true≢false (sym (c.are_over.ensures.1 (over_told c.args.limits.now c.args.links c.txs.ensures.whole c.txs.result.now c.txs-2.result.now
    c.txs.ensures.txs c.txs-2.ensures.txs c.size_of-size.result c.size_of-size.ensures.sum over)) ∙ c.if-are_over.false) in
    both_ok (λ (r : Cluster). IsLike r (unordered c.args.links)) (IsCluster (64 * g.row.W)) (IsFitted (64 * g.row.W) c.args.limits.now) c.of_links.result
    c.of_links.ensures.same c.of_links.ensures.whole
    (λ r like whole. fits_within (64 * g.row.W) c.args.limits.now c.args.links r none like whole)

pub returns-clause-steps : goal.returns-clause-steps
returns-clause-steps g c =
    let none : IsOver c.args.limits.now (unordered c.args.links) → ⊥ =
    λ over. true≢false (sym (c.are_over.ensures.1 (over_told c.args.limits.now c.args.links c.txs.ensures.whole c.txs.result.now c.txs-2.result.now
    c.txs.ensures.txs c.txs-2.ensures.txs c.size_of-size.result c.size_of-size.ensures.sum over)) ∙ c.if-are_over.false) in
    links_steps c.args.limits.now c.args.links c.args.steps.now c.of_links.new.steps none c.of_links.ensures.steps
