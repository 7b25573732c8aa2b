use Rattle.std.proofs.Common.{◌≡◌, ◌*◌, true, ap, subst, arith}
use Rattle.std.specs.FinSet as set
use Rattle.lists.proofs.Keys.{set_drop}
use Rattle.bitset.specs.Places.{IsWithin}
use Rattle.bitset.specs.Members.{from_meet, from_remove}
use Rattle.linearize.proofs.Sizes.{words_fit, group_fits}
use Rattle.linearize.proofs.guess.come_behind.Goals as goal

pub meet-above-requires : goal.meet-above-requires
meet-above-requires g c = words_fit g.row.W c.requires.narrow

pub least-requires : goal.least-requires
least-requires g c = words_fit g.row.W c.requires.narrow

pub settle-requires : goal.settle-requires
settle-requires g c = (group_fits g.row.W c.requires.narrow, c.loop-first.invariant.2)

pub settle-requires-2 : goal.settle-requires-2
settle-requires-2 g c = (group_fits g.row.W c.requires.narrow, c.loop-first.invariant.2)

pub loop-first-init : goal.loop-first-init
loop-first-init g c = (
  c.requires.members,
  λ p m. c.requires.members p (from_meet _ _ p (subst (λ s. set.contains s p ≡ true) c.meet-above.ensures m)).1,
  c.requires.room,
)

pub loop-first-smaller : goal.loop-first-smaller
loop-first-smaller g c =
    let within : IsWithin (64 * g.row.W) c.loop-first.above = λ k m. c.requires.closed.within k (c.loop-first.invariant.1 k m) in
    let some = set_drop c.loop-first.above c.top-next.result c.top-next.ensures.there in
    let is = ap (λ s. set.len s) c.remove.ensures in
    omega (arith, some, is)

pub loop-first-preserved : goal.loop-first-preserved
loop-first-preserved g c = (
  λ p m. c.loop-first.invariant.0 p (from_remove _ _ p (subst (λ s. set.contains s p ≡ true) c.remove-in-Some.ensures m)).1,
  λ p m. c.loop-first.invariant.1 p (from_remove _ _ p (subst (λ s. set.contains s p ≡ true) c.remove.ensures m)).1,
  c.settle.ensures.room,
)
