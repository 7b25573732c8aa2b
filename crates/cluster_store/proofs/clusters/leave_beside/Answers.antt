-- What the new cluster had beside the old one is out.
use Rattle.std.proofs.Common.{◌≡◌, ◌≤◌, length, take, Some, is_some, refl, sym, ap, ◌∙◌}
use Rattle.std.proofs.lemmas.List.{take_all}
use Rattle.cluster.specs.Clusters.{Cluster}
use Rattle.cluster_store.specs.Kept.{at, Leaves}
use Rattle.cluster_store.proofs.Results.{fresh_same, leaves_same}
use Rattle.cluster_store.proofs.Wide.{leave_has, leaves_beside, keeps_left}
use Rattle.cluster_store.proofs.Sizes.{cluster_in_stored}
use Rattle.cluster_store.proofs.Bounds.{not_fewer, not_more}
use Rattle.cluster_store.proofs.clusters.leave_beside.Goals as goal

pub leave-requires : goal.leave-requires
leave-requires g c =
    let x = c.args.exchange.now in
    let s = c.at-stored.result.now in
    let is : at c.args.slots.now.slots x.number ≡ Some s = ap (at c.args.slots.now.slots) (sym c.number.ensures) ∙ c.at-stored.ensures in
    let low : length c.cluster-cluster.result.now.parts ≤ c.part_count-count.result = not_fewer c.part_count-count.ensures in
    let all : take c.part_count-count.result c.cluster-cluster.result.now.parts ≡ x.cluster.parts =
    take_all c.part_count-count.result c.cluster-cluster.result.now.parts low ∙ ap (λ (y : Cluster). y.parts) c.cluster-cluster.ensures in (
      search cluster_in_stored,
      (
        not_more c.part_count-count.ensures,
        λ k f.
            leave_has c.args.slots.now.slots x.number s is x.cluster.parts c.args.index.now c.requires.wide k
            (fresh_same c.number-2.result x.number
            (take c.part_count-count.result c.cluster-cluster.result.now.parts) x.cluster.parts c.cluster-other.result.now.parts
            s.cluster.parts k c.number-2.ensures all (ap (λ (y : Cluster). y.parts) c.cluster-other.ensures) f)
            ∙ ap Some (sym c.tag.ensures),
      ),
    )

pub returns-clause-here : goal.returns-clause-here
returns-clause-here g c =
    let x = c.args.exchange.now in
    let s = c.at-stored.result.now in
    let is : at c.args.slots.now.slots x.number ≡ Some s = ap (at c.args.slots.now.slots) (sym c.number.ensures) ∙ c.at-stored.ensures in
    let low : length c.cluster-cluster.result.now.parts ≤ c.part_count-count.result = not_fewer c.part_count-count.ensures in
    let all : take c.part_count-count.result c.cluster-cluster.result.now.parts ≡ x.cluster.parts =
    take_all c.part_count-count.result c.cluster-cluster.result.now.parts low ∙ ap (λ (y : Cluster). y.parts) c.cluster-cluster.ensures in
    leaves_beside c.args.slots.now.slots x.number s is x.cluster.parts c.args.index.now c.leave.new.index c.requires.wide
    (leaves_same c.number-2.result x.number (take c.part_count-count.result c.cluster-cluster.result.now.parts) x.cluster.parts c.cluster-other.result.now.parts
    s.cluster.parts c.args.index.now c.leave.new.index c.number-2.ensures all (ap (λ (y : Cluster). y.parts) c.cluster-other.ensures) c.leave.ensures)

pub returns-clause-others : goal.returns-clause-others
returns-clause-others g c =
    let x = c.args.exchange.now in
    let ps = take c.part_count-count.result c.cluster-cluster.result.now.parts in
    let qs = c.cluster-other.result.now.parts in
    let there : Leaves x.number ps qs c.args.index.now c.leave.new.index =
    leaves_same c.number-2.result x.number ps ps qs qs c.args.index.now c.leave.new.index c.number-2.ensures refl refl c.leave.ensures in
    keeps_left x.number ps qs c.args.index.now c.leave.new.index there

pub at-stored-requires : goal.at-stored-requires
at-stored-requires g c = (search, ap is_some (ap (at c.args.slots.now.slots) c.number.ensures) ∙ c.requires.there)

-- the types fit in memory
pub number-requires : goal.number-requires
number-requires g c = search

pub number-requires-2 : goal.number-requires-2
number-requires-2 g c = search

pub tag-requires : goal.tag-requires
tag-requires g c = search

pub cluster-other-requires : goal.cluster-other-requires
cluster-other-requires g c = (search, search cluster_in_stored)

pub cluster-cluster-requires : goal.cluster-cluster-requires
cluster-cluster-requires g c = (search, search cluster_in_stored)

pub part_count-count-requires : goal.part_count-count-requires
part_count-count-requires g c = search cluster_in_stored
