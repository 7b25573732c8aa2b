use Rattle.std.proofs.Common.{ap, sym, subst, arith, vec_capacity}
use Rattle.graphs.specs.Closures.{HoldsMembers}
use Rattle.linearize.proofs.guess.arrange.Goals as goal
use Rattle.linearize.proofs.guess.arrange.Goals.{then-not-come_whole, else-not-come_whole}

pub loop-at-preserved : goal.loop-at-preserved
loop-at-preserved g c = elim c.if-not-come_whole.branch [
  | then-not-come_whole w ↦ (
    subst (HoldsMembers c.args.dep.now) (sym w.left-is) w.come_left.ensures.members,
    omega (arith, ap (λ v. vec_capacity v) w.groups-is, w.come_left.ensures.room),
  )
  | else-not-come_whole w ↦ (
    subst (HoldsMembers c.args.dep.now) (sym w.left-is) c.come_whole.ensures.members,
    omega (arith, ap (λ v. vec_capacity v) w.groups-is, c.come_whole.ensures.room),
  )
]
