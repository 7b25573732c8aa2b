-- The parts of the cluster are there, and go out.
use Rattle.std.proofs.Common.{◌≡◌, List, take, true, Some, [], sym, ap, ◌∙◌, subst}
use Rattle.std.proofs.lemmas.List.{take_all}
use Rattle.graphs.specs.Certificates.{Part}
use Rattle.cluster.specs.Clusters.{Cluster}
use Rattle.cluster_store.specs.Kept.{at, fresh, Leaves}
use Rattle.cluster_store.proofs.Shown.{stored_there, shown_removed}
use Rattle.cluster_store.proofs.Sizes.{cluster_in_stored}
use Rattle.cluster_store.proofs.Bounds.{not_fewer, not_more}
use Rattle.cluster_store.proofs.Missing.{none_there}
use Rattle.cluster_store.proofs.clusters.take_out.Goals as goal

pub leave-requires : goal.leave-requires
leave-requires g c =
    let is : at c.args.slots.now.slots c.args.number ≡ Some c.in-Some.stored = sym c.in-Some.ensures.value in
    let all : take c.part_count.result c.cluster-cluster.result.now.parts ≡ c.in-Some.stored.cluster.parts =
    take_all c.part_count.result c.cluster-cluster.result.now.parts (not_fewer c.part_count.ensures)
    ∙ ap (λ (x : Cluster). x.parts) c.cluster-cluster.ensures in (
      search cluster_in_stored,
      (
        not_more c.part_count.ensures,
        λ k f.
            stored_there c.args.slots.now.slots c.args.index.now c.requires.shown c.args.number c.in-Some.stored is [] k
            (subst (λ (ps : List Part). fresh c.args.number ps [] k ≡ true) all f) ∙ ap Some (sym c.tag.ensures),
      ),
    )

pub returns-clause-shown : goal.returns-clause-shown
returns-clause-shown g c =
    let is : at c.args.slots.now.slots c.args.number ≡ Some c.in-Some.stored = sym c.in-Some.ensures.value in
    let all : take c.part_count.result c.cluster-cluster.result.now.parts ≡ c.in-Some.stored.cluster.parts =
    take_all c.part_count.result c.cluster-cluster.result.now.parts (not_fewer c.part_count.ensures)
    ∙ ap (λ (x : Cluster). x.parts) c.cluster-cluster.ensures in
    let leaves : Leaves c.args.number c.in-Some.stored.cluster.parts [] c.args.index.now c.leave.new.index =
    subst (λ (ps : List Part). Leaves c.args.number ps [] c.args.index.now c.leave.new.index) all c.leave.ensures in
    shown_removed c.args.slots.now.slots c.args.index.now c.requires.shown c.args.number c.try_remove.new.self.slots c.leave.new.index
    (λ m other. c.try_remove.ensures.updates.others m other) c.in-Some.stored is c.try_remove.ensures.updates.changed leaves

pub cluster-cluster-requires : goal.cluster-cluster-requires
cluster-cluster-requires g c = (search, search cluster_in_stored)

pub tag-requires : goal.tag-requires
tag-requires g c = search

pub part_count-requires : goal.part_count-requires
part_count-requires g c = search cluster_in_stored

pub unreachable-requires : goal.unreachable-requires
unreachable-requires g c = none_there (sym c.try_remove.ensures.value ∙ c.in-None.is) c.requires.there

pub returns-clause-updates : goal.returns-clause-updates
returns-clause-updates g c = c.try_remove.ensures.updates
