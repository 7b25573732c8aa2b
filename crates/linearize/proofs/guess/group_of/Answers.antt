use Rattle.std.proofs.Common.{◌≡◌, true, ap, subst, arith}
use Rattle.std.specs.FinSet as set
use Rattle.lists.proofs.Keys.{set_drop}
use Rattle.bitset.specs.Members.{from_remove}
use Rattle.linearize.proofs.guess.group_of.Goals as goal

pub loop-place-smaller : goal.loop-place-smaller
loop-place-smaller g c =
    let one = set_drop c.loop-place.left c.in-Some.place c.in-Some.ensures.least.member in
    let is = ap (λ s. set.len s) c.remove.ensures in
    omega (arith, one, is)

pub loop-place-preserved : goal.loop-place-preserved
loop-place-preserved g c = λ p m. c.loop-place.invariant p (from_remove _ _ p (subst (λ s. set.contains s p ≡ true) c.remove.ensures m)).1
