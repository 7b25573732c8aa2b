use Rattle.std.proofs.Common.{arith, ◌*◌, ◌≤◌}
use Rattle.cluster.proofs.Rooms.{scratch_fits}
use Rattle.std.proofs.Math.Nat.{mul-le-mul}
use Rattle.cluster.proofs.work.Room.new.Goals as goal

pub new-requires : goal.new-requires
new-requires g c = scratch_fits g.row.W c.requires.narrow

pub overflow_mul-places : goal.overflow_mul-places
overflow_mul-places g c = let narrow = c.requires.narrow in omega (arith, narrow)

pub overflow_mul-places-2 : goal.overflow_mul-places-2
overflow_mul-places-2 g c =
    let narrow = c.requires.narrow in
    let few : 64 * g.row.W ≤ 4096 = omega (arith, narrow) in
    let both = mul-le-mul few few in omega (arith, both)

pub invariant_of-result : goal.invariant_of-result
invariant_of-result g c = (let long = c.in_ok-positions.ensures.len in omega (arith, long), c.requires.wide, c.requires.narrow)
