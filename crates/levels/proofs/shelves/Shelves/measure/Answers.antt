-- One cluster more is counted, with its names: together they have no more than the level.
use Rattle.std.proofs.Common.{rules, ◌≡◌, ◌+◌, length, arith}
use Rattle.cluster_store.proofs.Done.{no_items}
use Rattle.levels.proofs.Kins.{measured_all, measured_few, measured_next, measured_none}
use Rattle.levels.proofs.shelves.Shelves.measure.Goals as goal

pub loop-left-init : goal.loop-left-init
loop-left-init g c = record { way = measured_none c.args.level c.args.self.now c.args.ids.now c.requires.grouped }

pub overflow_add-clusters : goal.overflow_add-clusters
overflow_add-clusters g c =
    let run = c.first_run-run.result in
    let next = measured_next c.args.level c.args.self.now c.args.ids.now c.loop-left.left.now run.ids.now run.rest.now run.number c.loop-left.clusters
    c.loop-left.names c.loop-left.invariant.way c.first_run-run.ensures c.sizes-one.result.0 c.sizes-one.result.1 c.sizes-one.ensures.one c.sizes-one.ensures.many in
    let few = measured_few g.row.W c.args.level c.args.self.now c.requires.order c.requires.few c.args.ids.now run.rest.now
    (c.loop-left.clusters + c.sizes-one.result.0) (c.loop-left.names + c.sizes-one.result.1) next in
    omega (arith, few.0)

pub overflow_add-names : goal.overflow_add-names
overflow_add-names g c =
    let run = c.first_run-run.result in
    let next = measured_next c.args.level c.args.self.now c.args.ids.now c.loop-left.left.now run.ids.now run.rest.now run.number c.loop-left.clusters
    c.loop-left.names c.loop-left.invariant.way c.first_run-run.ensures c.sizes-one.result.0 c.sizes-one.result.1 c.sizes-one.ensures.one c.sizes-one.ensures.many in
    let few = measured_few g.row.W c.args.level c.args.self.now c.requires.order c.requires.few c.args.ids.now run.rest.now
    (c.loop-left.clusters + c.sizes-one.result.0) (c.loop-left.names + c.sizes-one.result.1) next in
    omega (arith, few.1)

pub loop-left-preserved : goal.loop-left-preserved
loop-left-preserved g c =
    let run = c.first_run-run.result in record {
      way = measured_next c.args.level c.args.self.now c.args.ids.now c.loop-left.left.now run.ids.now run.rest.now run.number c.loop-left.clusters
          c.loop-left.names c.loop-left.invariant.way c.first_run-run.ensures c.sizes-one.result.0 c.sizes-one.result.1 c.sizes-one.ensures.one
          c.sizes-one.ensures.many;
    }

pub returns : goal.returns
returns g c =
    let none : length c.loop-left.left.now ≡ 0 = search rules in
    measured_all c.args.level c.args.self.now c.args.ids.now c.loop-left.left.now c.loop-left.clusters c.loop-left.names
    (no_items c.loop-left.left.now none) c.loop-left.invariant.way
