-- The new cluster stands there, and what only the old one had is out.
use Rattle.std.proofs.Common.{◌≡◌, ◌≤◌, ℕ, length, take, set, Some, refl, sym, ap, ◌∙◌, subst}
use Rattle.std.proofs.lemmas.List.{take_all}
use Rattle.cluster.specs.Clusters.{Cluster}
use Rattle.cluster_store.specs.Stores.{Stored}
use Rattle.cluster_store.specs.Kept.{at, Leaves}
use Rattle.cluster_store.specs.Changes.{with_cluster}
use Rattle.cluster_store.specs.Slots.{Writes}
use Rattle.cluster_store.proofs.Results.{fresh_same, leaves_same}
use Rattle.cluster_store.proofs.Slots.{set_here, set_other}
use Rattle.cluster_store.proofs.Wide.{gone_has, replaces, keeps_left}
use Rattle.cluster_store.proofs.Sizes.{cluster_in_exchange, cluster_in_stored}
use Rattle.cluster_store.proofs.Bounds.{not_fewer, not_more}
use Rattle.cluster_store.proofs.Missing.{none_there}
use Rattle.cluster_store.proofs.clusters.replace.Goals as goal

pub leave-requires : goal.leave-requires
leave-requires g c =
    let slots = c.args.slots.now.slots in
    let x = c.args.exchange in
    let s = c.in-Some.stored.now in
    let is : at slots x.number ≡ Some s = ap (at slots) (sym c.into_parts-number.ensures.number) ∙ sym c.in-Some.ensures.value in
    let low : length c.replace-gone.result.parts ≤ c.part_count-count.result = not_fewer c.part_count-count.ensures in
    let all : take c.part_count-count.result c.replace-gone.result.parts ≡ s.cluster.parts =
    take_all c.part_count-count.result c.replace-gone.result.parts low ∙ ap (λ (y : Cluster). y.parts) c.replace-gone.ensures.old in
    let new : c.cluster-other.result.now.parts ≡ x.cluster.parts =
    ap (λ (y : Cluster). y.parts)
    (c.cluster-other.ensures ∙ ap (λ (t : Stored). t.cluster) c.replace-gone.ensures.new ∙ c.into_parts-number.ensures.cluster) in (
      search cluster_in_stored,
      (
        not_more c.part_count-count.ensures,
        λ k f.
            gone_has slots x.number s is x.cluster.parts c.args.index.now c.requires.wide k
            (fresh_same c.into_parts-number.result.0 x.number
            (take c.part_count-count.result c.replace-gone.result.parts) s.cluster.parts c.cluster-other.result.now.parts
            x.cluster.parts k c.into_parts-number.ensures.number all new f)
            ∙ ap Some (sym (c.tag.ensures ∙ ap (λ (t : Stored). t.tag) c.replace-gone.ensures.new)),
      ),
    )

pub returns-clause-placed : goal.returns-clause-placed
returns-clause-placed g c =
    let slots = c.args.slots.now.slots in
    let x = c.args.exchange in
    let s = c.in-Some.stored.now in
    let n = c.into_parts-number.result.0 in
    let number : n ≡ x.number = c.into_parts-number.ensures.number in
    let is : at slots n ≡ Some s = sym c.in-Some.ensures.value in
    let put : c.replace-gone.new.self ≡ record { cluster = x.cluster; tag = s.tag } =
    c.replace-gone.ensures.new ∙ ap (λ (y : Cluster). record { cluster = y; tag = s.tag }) c.into_parts-number.ensures.cluster in
    subst (λ (m : ℕ). Writes slots (set slots n (Some c.replace-gone.new.self)) m (with_cluster x.cluster (at slots m))) number
    (record {
      changed = set_here slots n s c.replace-gone.new.self is ∙ ap Some put ∙ sym (ap (with_cluster x.cluster) is);
      others = λ m other. set_other slots n m c.replace-gone.new.self other;
    })

pub returns-clause-here : goal.returns-clause-here
returns-clause-here g c =
    let slots = c.args.slots.now.slots in
    let x = c.args.exchange in
    let s = c.in-Some.stored.now in
    let n = c.into_parts-number.result.0 in
    let number : n ≡ x.number = c.into_parts-number.ensures.number in
    let is : at slots x.number ≡ Some s = ap (at slots) (sym number) ∙ sym c.in-Some.ensures.value in
    let low : length c.replace-gone.result.parts ≤ c.part_count-count.result = not_fewer c.part_count-count.ensures in
    let all : take c.part_count-count.result c.replace-gone.result.parts ≡ s.cluster.parts =
    take_all c.part_count-count.result c.replace-gone.result.parts low ∙ ap (λ (y : Cluster). y.parts) c.replace-gone.ensures.old in
    let cluster : c.replace-gone.new.self.cluster ≡ x.cluster =
    ap (λ (t : Stored). t.cluster) c.replace-gone.ensures.new ∙ c.into_parts-number.ensures.cluster in
    let now : at (set slots n (Some c.replace-gone.new.self)) x.number ≡ Some c.replace-gone.new.self =
    ap (at (set slots n (Some c.replace-gone.new.self))) (sym number) ∙ set_here slots n s c.replace-gone.new.self (sym c.in-Some.ensures.value) in
    replaces slots x.number s is x.cluster.parts c.args.index.now (set slots n (Some c.replace-gone.new.self)) c.replace-gone.new.self c.leave.new.index now
    (ap (λ (y : Cluster). y.parts) cluster) (ap (λ (t : Stored). t.tag) c.replace-gone.ensures.new) c.requires.wide
    (leaves_same n x.number (take c.part_count-count.result c.replace-gone.result.parts) s.cluster.parts c.cluster-other.result.now.parts x.cluster.parts
    c.args.index.now c.leave.new.index number all (ap (λ (y : Cluster). y.parts) (c.cluster-other.ensures ∙ cluster)) c.leave.ensures)

pub returns-clause-others : goal.returns-clause-others
returns-clause-others g c =
    let n = c.into_parts-number.result.0 in
    let ps = take c.part_count-count.result c.replace-gone.result.parts in
    let qs = c.cluster-other.result.now.parts in
    let there : Leaves c.args.exchange.number ps qs c.args.index.now c.leave.new.index =
    leaves_same n c.args.exchange.number ps ps qs qs c.args.index.now c.leave.new.index c.into_parts-number.ensures.number refl refl c.leave.ensures in
    keeps_left c.args.exchange.number ps qs c.args.index.now c.leave.new.index there

-- the types fit in memory
pub into_parts-number-requires : goal.into_parts-number-requires
into_parts-number-requires g c = (search, search cluster_in_exchange)

pub replace-gone-requires : goal.replace-gone-requires
replace-gone-requires g c = (search, search cluster_in_stored)

pub part_count-count-requires : goal.part_count-count-requires
part_count-count-requires g c = search cluster_in_stored

pub tag-requires : goal.tag-requires
tag-requires g c = search

pub cluster-other-requires : goal.cluster-other-requires
cluster-other-requires g c = (search, search cluster_in_stored)

pub unreachable-requires : goal.unreachable-requires
unreachable-requires g c = none_there (ap (at c.args.slots.now.slots) (sym c.into_parts-number.ensures.number) ∙ sym c.in-None.ensures.value) c.requires.there

pub drop-requires-room-T-Destruct : goal.drop-requires-room-T-Destruct
drop-requires-room-T-Destruct g c κs = search cluster_in_stored
