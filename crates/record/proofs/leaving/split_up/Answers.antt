use Rattle.std.proofs.Common.{List, ℕ, [], map, lit<, sym, subst}
use Rattle.std.specs.Prelude.{Contains}
use Rattle.std.proofs.lemmas.Result.{IfOk-weaker}
use Rattle.cluster.specs.Clusters.{Cluster}
use Rattle.cluster.specs.Changes.{AreComponents, IsSplit}
use Rattle.links.specs.Links.{Links, AreLinks}
use Rattle.links.specs.Closing.{closure}
use Rattle.record.specs.Leaving.{AreLike}
use Rattle.record.proofs.Falling.{fallen_steps, like_components, like_split, parts_fine}
use Rattle.record.proofs.leaving.split_up.Goals as goal

pub records_of-requires : goal.records_of-requires
records_of-requires g c =
    let parts = c.in_ok-parts.parts.items in
    let each : (part : Links) → Contains parts part → AreLinks part =
    λ part here. c.read_all.ensures part (subst (λ (ps : List Links). Contains ps part) (sym c.as_slice.ensures.value) here) in (
      lit< tt,
      (
        lit< tt,
        (c.requires.wide, parts_fine c.args.links.now parts c.txs-txs.ensures.whole each c.in_ok-parts.ensures c.requires.total),
      ),
    )

pub returns-clause-split : goal.returns-clause-split
returns-clause-split g c =
    let parts = c.in_ok-parts.parts.items in
    let each : (part : Links) → Contains parts part → AreLinks part =
    λ part here. c.read_all.ensures part (subst (λ (ps : List Links). Contains ps part) (sym c.as_slice.ensures.value) here) in
    IfOk-weaker c.records_of.result (λ all. AreLike all.items parts) (λ all. IsSplit (closure c.args.links.now) [] all.items)
    (λ all like. like_split c.args.links.now parts c.txs-txs.ensures.whole each c.in_ok-parts.ensures all.items like) c.records_of.ensures.like

pub returns-clause-components : goal.returns-clause-components
returns-clause-components g c =
    let parts = c.in_ok-parts.parts.items in
    let each : (part : Links) → Contains parts part → AreLinks part =
    λ part here. c.read_all.ensures part (subst (λ (ps : List Links). Contains ps part) (sym c.as_slice.ensures.value) here) in
    IfOk-weaker c.records_of.result (λ all. AreLike all.items parts)
    (λ all. AreComponents (closure c.args.links.now) [] (map {A = Cluster} {B = List ℕ} (λ d. d.names) all.items))
    (λ all like. like_components c.args.links.now parts c.txs-txs.ensures.whole each c.in_ok-parts.ensures all.items like) c.records_of.ensures.like

pub returns-clause-steps : goal.returns-clause-steps
returns-clause-steps g c =
    let parts = c.in_ok-parts.parts.items in
    let each : (part : Links) → Contains parts part → AreLinks part =
    λ part here. c.read_all.ensures part (subst (λ (ps : List Links). Contains ps part) (sym c.as_slice.ensures.value) here) in
    record {
      grew = c.records_of.ensures.steps.grew;
      few = fallen_steps c.args.links.now parts c.txs-txs.ensures.whole each c.in_ok-parts.ensures c.args.limits.now c.args.steps.now c.records_of.new.steps
          c.records_of.ensures.steps.few;
    }
