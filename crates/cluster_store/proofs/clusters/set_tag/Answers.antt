-- The parts of the cluster are there, and have the new tag.
use Rattle.std.proofs.Common.{◌≡◌, Some, [], true, set, sym, ap, ◌∙◌, subst}
use Rattle.cluster.specs.Clusters.{Cluster}
use Rattle.cluster_store.specs.Changes.{moved_to}
use Rattle.cluster_store.specs.Kept.{at, fresh, Enters}
use Rattle.cluster_store.proofs.Shown.{stored_there, shown_tagged}
use Rattle.cluster_store.proofs.Slots.{set_here, set_other}
use Rattle.cluster_store.proofs.Sizes.{cluster_in_stored}
use Rattle.cluster_store.proofs.Missing.{none_there}
use Rattle.cluster_store.proofs.clusters.set_tag.Goals as goal

pub retag-requires : goal.retag-requires
retag-requires g c =
    let is : at c.args.slots.now.slots c.args.number ≡ Some c.in-Some.stored.now = sym c.in-Some.ensures.value in (
      search cluster_in_stored,
      (
        c.requires.shown.sorted,
        λ k f.
            stored_there c.args.slots.now.slots c.args.index.now c.requires.shown c.args.number c.in-Some.stored.now is [] k
            (subst (λ (x : Cluster). fresh c.args.number x.parts [] k ≡ true) c.cluster.ensures f) ∙ ap Some (sym c.tag.ensures),
      ),
    )

pub returns-clause-shown : goal.returns-clause-shown
returns-clause-shown g c =
    let slots = c.args.slots.now.slots in
    let is : at slots c.args.number ≡ Some c.in-Some.stored.now = sym c.in-Some.ensures.value in
    let enters : Enters c.args.number c.args.tag c.in-Some.stored.now.cluster.parts [] c.args.index.now c.retag.new.index =
    subst (λ (x : Cluster). Enters c.args.number c.args.tag x.parts [] c.args.index.now c.retag.new.index) c.cluster.ensures c.retag.ensures in
    shown_tagged slots c.args.index.now c.requires.shown c.args.number (set slots c.args.number (Some c.set_tag.new.self)) c.retag.new.index
    (λ m other. set_other slots c.args.number m c.set_tag.new.self other) c.in-Some.stored.now c.args.tag is
    (set_here slots c.args.number c.in-Some.stored.now c.set_tag.new.self is ∙ ap Some c.set_tag.ensures) enters

pub cluster-requires : goal.cluster-requires
cluster-requires g c = (search, search cluster_in_stored)

pub tag-requires : goal.tag-requires
tag-requires g c = search

pub set_tag-requires : goal.set_tag-requires
set_tag-requires g c = search

pub unreachable-requires : goal.unreachable-requires
unreachable-requires g c = none_there (sym c.in-None.ensures.value) c.requires.there

pub returns-clause-updates : goal.returns-clause-updates
returns-clause-updates g c =
    let slots = c.args.slots.now.slots in
    let is : at slots c.args.number ≡ Some c.in-Some.stored.now = sym c.in-Some.ensures.value in
    record {
      changed = set_here slots c.args.number c.in-Some.stored.now c.set_tag.new.self is ∙ ap Some c.set_tag.ensures ∙ ap (moved_to (Some c.args.tag)) (sym is);
      others = λ m other. set_other slots c.args.number m c.set_tag.new.self other;
    }
