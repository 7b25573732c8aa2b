use Rattle.levels.proofs.Rooms.{record_fits}
use Rattle.std.proofs.Common.{arith, ap, ◌∙◌, List, length, ◌+◌, take_all, subst, Option, ℕ, ◌<◌, ◌^◌}
use Rattle.std.specs.Prelude.{sum_by, SomeIff}
use Rattle.cluster.specs.Clusters.{Cluster}
use Rattle.levels.proofs.Most.{more_names}
use Rattle.levels.proofs.shelves.name_count.Goals as goal

pub names-requires : goal.names-requires
names-requires g c = record_fits g.row.W c.requires

pub returns : goal.returns
returns g c =
    c.loop-cluster.invariant ∙ ap (λ (xs : List Cluster). sum_by (λ (x : Cluster). length x.names) xs + c.args.more)
    (take_all c.loop-cluster.cluster-index c.args.clusters.now (omega (arith, c.loop-cluster-test.false)))

pub loop-cluster-preserved : goal.loop-cluster-preserved
loop-cluster-preserved g c =
    let sum = c.loop-cluster.count + length c.names.result.now in
    let told = subst (λ (o : Option ℕ). SomeIff o (sum < 2 ^ 64) sum) c.in_ok-count.ensures.ok_part c.checked_add.ensures in
    more_names c.args.more c.args.clusters.now c.loop-cluster.cluster-index c.cluster-item.result c.names.result.now c.loop-cluster.count c.in_ok-count.count
    c.loop-cluster-test.true c.cluster-item.is c.names.ensures.names c.loop-cluster.invariant told.1
