-- The records of the components, none of which is over the limits where none may be.
use Rattle.std.proofs.Common.{List, lit<, length, refl, sym, subst}
use Rattle.std.specs.Prelude.{All, Contains}
use Rattle.links.specs.Links.{Links, AreLinks}
use Rattle.record.specs.Leaving.{IsOneComponent}
use Rattle.record.specs.Restoring.{FirstOver, NoneOver}
use Rattle.record.proofs.Falling.{fallen_steps, like_split, parts_fine}
use Rattle.record.proofs.Overs.{brings_over, none_over}
use Rattle.record.proofs.record.Record.all_of.Goals as goal

pub refused_over-requires : goal.refused_over-requires
refused_over-requires g c =
    let parts = c.in-Ok.parts.items in
    let each : (part : Links) → Contains parts part → AreLinks part =
    λ part here. c.read_all.ensures part (subst (λ (ps : List Links). Contains ps part) (sym c.as_slice.ensures.value) here) in
    subst (λ (ps : List Links). All IsOneComponent ps) (sym c.as_slice-2.ensures.value)
    (parts_fine c.args.links.now parts c.txs-txs.ensures.whole each c.in-Ok.ensures c.requires.total)

pub returns-in-Some-clause-over : goal.returns-in-Some-clause-over
returns-in-Some-clause-over g c lacks =
    let parts = c.in-Ok.parts.items in
    let each : (part : Links) → Contains parts part → AreLinks part =
    λ part here. c.read_all.ensures part (subst (λ (ps : List Links). Contains ps part) (sym c.as_slice.ensures.value) here) in (
      brings_over c.args.links.now parts c.txs-txs.ensures.whole each c.in-Ok.ensures c.args.limits.now c.in-Some.why
          (subst (λ (ps : List Links). FirstOver c.args.limits.now ps c.in-Some.why) c.as_slice-2.ensures.value c.in-Some.ensures.1) c.in-Some.ensures.0,
      refl,
    )

pub records_of-requires : goal.records_of-requires
records_of-requires g c =
    let parts = c.in-Ok.parts.items in
    let each : (part : Links) → Contains parts part → AreLinks part =
    λ part here. c.read_all.ensures part (subst (λ (ps : List Links). Contains ps part) (sym c.as_slice.ensures.value) here) in (
      lit< tt,
      (
        lit< tt,
        (c.requires.wide, parts_fine c.args.links.now parts c.txs-txs.ensures.whole each c.in-Ok.ensures c.requires.total),
      ),
    )

pub returns-in-Ok-records_of-clause-split : goal.returns-in-Ok-records_of-clause-split
returns-in-Ok-records_of-clause-split g c =
    let parts = c.in-Ok.parts.items in
    let each : (part : Links) → Contains parts part → AreLinks part =
    λ part here. c.read_all.ensures part (subst (λ (ps : List Links). Contains ps part) (sym c.as_slice.ensures.value) here) in
    like_split c.args.links.now parts c.txs-txs.ensures.whole each c.in-Ok.ensures c.in-Ok-records_of.all.items c.in-Ok-records_of.ensures.like

pub returns-in-Ok-records_of-clause-within : goal.returns-in-Ok-records_of-clause-within
returns-in-Ok-records_of-clause-within g c strict =
    let parts = c.in-Ok.parts.items in
    let each : (part : Links) → Contains parts part → AreLinks part =
    λ part here. c.read_all.ensures part (subst (λ (ps : List Links). Contains ps part) (sym c.as_slice.ensures.value) here) in
    none_over c.args.links.now parts c.txs-txs.ensures.whole each c.in-Ok.ensures c.args.limits.now
    (subst (λ (ps : List Links). NoneOver c.args.limits.now ps (length ps)) c.as_slice-2.ensures.value (c.in_default-refused_over.ensures strict))

pub returns-in-Ok-records_of-clause-steps : goal.returns-in-Ok-records_of-clause-steps
returns-in-Ok-records_of-clause-steps g c =
    let parts = c.in-Ok.parts.items in
    let each : (part : Links) → Contains parts part → AreLinks part =
    λ part here. c.read_all.ensures part (subst (λ (ps : List Links). Contains ps part) (sym c.as_slice.ensures.value) here) in
    record {
      grew = c.records_of.ensures.steps.grew;
      few = fallen_steps c.args.links.now parts c.txs-txs.ensures.whole each c.in-Ok.ensures c.args.limits.now c.args.steps.now c.records_of.new.steps
          c.records_of.ensures.steps.few;
    }

pub returns-in-Err-clause-steps : goal.returns-in-Err-clause-steps
returns-in-Err-clause-steps g c =
    let parts = c.in-Ok.parts.items in
    let each : (part : Links) → Contains parts part → AreLinks part =
    λ part here. c.read_all.ensures part (subst (λ (ps : List Links). Contains ps part) (sym c.as_slice.ensures.value) here) in
    record {
      grew = c.records_of.ensures.steps.grew;
      few = fallen_steps c.args.links.now parts c.txs-txs.ensures.whole each c.in-Ok.ensures c.args.limits.now c.args.steps.now c.records_of.new.steps
          c.records_of.ensures.steps.few;
    }
