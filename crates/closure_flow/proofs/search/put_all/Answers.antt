use Rattle.std.proofs.Common.{◌*◌, inl, inr, arith, ◌∙◌, ap, refl}
use Rattle.std.specs.FinSet as set
use Rattle.lists.proofs.Cases.{clash}
use Rattle.bitset.specs.Sets.{contains-empty}
use Rattle.closure_flow.proofs.Queues.{putting_room, putting_push, fewer}
use Rattle.closure_flow.proofs.search.put_all.Goals as goal

pub push-requires : goal.push-requires
push-requires g c =
    let member = c.in-Some.ensures.least.member in
    (omega arith, putting_room (64 * g.row.W) _ _ _ _ _ _ _ c.in-Some.place c.loop-place.invariant.0 member (c.in-Some.ensures.within _ member))

pub loop-place-smaller : goal.loop-place-smaller
loop-place-smaller g c = rw c.remove.ensures (fewer _ _ c.in-Some.ensures.least.member)

pub loop-place-preserved : goal.loop-place-preserved
loop-place-preserved g c =
    let member = c.in-Some.ensures.least.member in
    rw (c.push.ensures.entries, c.insert.ensures, c.remove.ensures) (
      putting_push (64 * g.row.W) _ _ _ _ _ _ _ _ c.loop-place.invariant.0 member (c.in-Some.ensures.within _ member) refl,
      c.push.ensures.taken
          ∙ c.loop-place.invariant.1,
      c.push.ensures.given ∙ c.loop-place.invariant.2,
    )

pub returns-clause-new : goal.returns-clause-new
returns-clause-new g c t m =
    elim (c.loop-place.invariant.0.got t m) [
      | inl still ↦ clash _ still (ap (λ s. set.contains s t) c.in_default.ensures.least ∙ contains-empty t)
      | inr there ↦ there
    ]
