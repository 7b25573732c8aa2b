-- What is asked of what is kept is what is asked of the record.
use Rattle.std.proofs.Common.{◌*◌, ◌≤◌, length, Contains, arith, subst, sym}
use Rattle.graphs.specs.Rooms.{Room}
use Rattle.graphs.specs.Unions.{IsKinOfSome, PutsBehind}
use Rattle.cluster.specs.Clusters.{Cluster}
use Rattle.record.proofs.Keeping.{has_name, over_held, over_is, within_is}
use Rattle.record.proofs.Kins.{over_adds, over_long}
use Rattle.record.proofs.record.Record.add_kin.Goals.{in-Within, in-Over}
use Rattle.record.proofs.record.Record.add_kin.Goals as goal

pub add_over-requires : goal.add_over-requires
add_over-requires g c =
    let held = over_held (64 * g.row.W) c.self.inside.kept c.in-Over.over c.deref_mut.result.now c.in-Over.is c.deref_mut.ensures.value c.self.invariant.2 in
    let is = over_is c.self.inside.kept c.in-Over.over c.deref_mut.result.now c.args.self.now c.in-Over.is c.deref_mut.ensures.value c.self.view_is in
    let long = over_long c.deref_mut.result.now.links held.links c.args.self.now is in
    let room = c.requires.room in
    record {
      links = held.links;
      ids = λ id here. has_name c.deref_mut.result.now.links held.links c.args.self.now is id (c.requires.ids id here);
      room = omega (arith, long, room);
    }

pub add_kin-requires : goal.add_kin-requires
add_kin-requires g c =
    let same = sym (within_is c.self.inside.kept c.in-Within.component c.args.self.now c.in-Within.is c.self.view_is) in (
      omega arith,
      (
        λ id here. subst (λ (s : Cluster). Contains s.names id) same (c.requires.ids id here),
        subst (λ (s : Cluster). length s.names ≤ c.args.out.now.room) same c.requires.room,
      ),
    )

pub returns-clause-adds : goal.returns-clause-adds
returns-clause-adds g c = elim c.match-self.branch [
  | in-Within w ↦
      subst (λ (o : Room). PutsBehind (IsKinOfSome c.args.kin c.args.self.now.graph c.args.ids.now) c.args.out.now.ids o.ids) (sym w.out-is)
      (subst (λ (s : Cluster). PutsBehind (IsKinOfSome c.args.kin s.graph c.args.ids.now) c.args.out.now.ids w.add_kin.new.out.ids)
      (within_is c.self.inside.kept w.in-Within.component c.args.self.now w.in-Within.is c.self.view_is) w.add_kin.ensures.adds)
  | in-Over w ↦
      let held = over_held (64 * g.row.W) c.self.inside.kept w.in-Over.over w.deref_mut.result.now w.in-Over.is w.deref_mut.ensures.value c.self.invariant.2 in
      let is = over_is c.self.inside.kept w.in-Over.over w.deref_mut.result.now c.args.self.now w.in-Over.is w.deref_mut.ensures.value c.self.view_is in
      subst (λ (o : Room). PutsBehind (IsKinOfSome c.args.kin c.args.self.now.graph c.args.ids.now) c.args.out.now.ids o.ids) (sym w.out-is)
      (over_adds w.deref_mut.result.now.links held.links c.args.self.now is c.args.kin c.args.ids.now c.args.out.now.ids w.add_over.new.out.ids c.requires.ids
      w.add_over.ensures.adds)
]
